-- Every call leaves the ranges of the head as they are, on any tables. Assumes nothing.
use Prim.Native.Nat.{ℕ, zero, suc, ◌+◌, ◌≤◌}
use native.Mathlib.Omega.{arith}
use mathlib.Core.Path.{◌≡◌, refl, ◌∙◌}
use mathlib.Core.List.{List, [], ◌∷◌}
use Rattle.rules.specs.Bytes.{byte}
use Rattle.rules.specs.Tables.{Tables, hosts, Change, OfHead, OfElements, OfSearch, Recount, in_head, change, changes}
use Rattle.rules.specs.Roster.{Slot, ranges, roster}
use Rattle.rules.specs.Sound.{sound, within}
use Rattle.rules.specs.Operation.{Operation, TestUnitReady, RequestSense, Reserve, Release, PreventAllow, MoveMedium, ExchangeMedium, ReadElementStatus, ModeSense, SendVolumeTag, RequestVolumeElementAddress, Unknown, operation}
use Rattle.rules.specs.Order.{Verdict, Number, Prevented, Done, InvalidOperation, after, fits, good, check, conflict}
use Rattle.rules.specs.Moves.{leave, carry, move, exchange}
use Rattle.rules.specs.Holds.{holds_from, granted, release_unit, prevent}
use Rattle.rules.specs.Sense.{request_sense}
use Rattle.rules.specs.Listing.{read_status}
use Rattle.rules.specs.Search.{request_address}
use Rattle.rules.specs.Mode.{mode_sense}
use Rattle.rules.specs.Events.{at_port, done, importing, exporting, restarted_from, resetting}
use Rattle.rules.specs.Command.{Call, Command, Import, Export, Reset, act, steps, after_numbers, judged, judge, verdict}
use Rattle.rules.specs.Histories.{next}
use Rattle.rules.proofs.Ladder.{on}
use Rattle.rules.proofs.Places.{ranges-same}
use Rattle.rules.proofs.Panel.{shown-else}
use Rattle.rules.proofs.Soundness.{within_low, within-high}
use Rattle.rules.proofs.Walks.{Refusals, telling, refused-by, steps-by, move-by, exchange-by, reserve-by, release-by, tag-by}
use Rattle.rules.proofs.Keep.{OfSome, ranges-kept}

-- ---- changes that leave the ranges

abbrev Aside : Change → Type 0
Aside (OfHead c) = OfSome c
Aside (OfElements c) = Unit {0}
Aside (OfSearch c) = Unit {0}
Aside Recount = Unit {0}

abbrev AllAside : List Change → Type 0
AllAside [] = Unit {0}
AllAside (c ∷ cs) = Aside c × AllAside cs

change-ranges : (c : Change) (t : Tables) → Aside c → ranges (change c t).head ≡ ranges t.head
unfolding change
change-ranges (OfHead c) t a = ranges-same t.head (in_head c t.head) (ranges-kept c t.head a)
change-ranges (OfElements c) t a = refl
change-ranges (OfSearch c) t a = refl
change-ranges Recount t a = ranges-same t.head _ (λ j i. shown-else t.head _ j (λ m l. omega arith))

changes-ranges : (cs : List Change) (t : Tables) → AllAside cs → ranges (changes cs t).head ≡ ranges t.head
unfolding changes
changes-ranges [] t a = refl
changes-ranges (c ∷ cs) t (a, rest) = changes-ranges cs (change c t) rest ∙ change-ranges c t a

-- ---- verdicts with such changes alone

abbrev Ranged : Verdict → Type 0
Ranged (Number n) = Unit {0}
Ranged (Prevented n h) = Unit {0}
Ranged (Done status bytes cs) = AllAside cs

ranged-after : (t : Tables) (v : Verdict) → Ranged v → ranges (after v t).head ≡ ranges t.head
unfolding after
ranged-after t (Number n) a = refl
ranged-after t (Prevented n h) a = refl
ranged-after t (Done status bytes cs) a = changes-ranges cs t a

-- ---- the commands of host h

aside-holds : (ss : List Slot) (h i : ℕ) (list : List ℕ) (n k : ℕ) → AllAside (holds_from ss h i list n k)
unfolding holds_from
aside-holds ss h i list zero k = tt
aside-holds ss h i list (suc n) k = (tt, aside-holds ss h i list n (suc k))

module _ (t : Tables) (h : ℕ) (l : (1 ≤ h) × (h ≤ hosts)) where
  ranged-good : (cs : List Change) → AllAside cs → Ranged (good h cs)
  unfolding good
  ranged-good cs a = (l, a)

  refusals : Refusals Ranged t h
  unfolding check conflict telling
  refusals = record { refuses = refused-by Ranged h (λ a q. (l, tt)); conflicts = (l, tt); tells = (l, (l, tt)) }

  ranged-act : (op : Operation) (block list : List ℕ) → Ranged (act op t h block list)
  unfolding act request_sense read_status request_address mode_sense prevent move exchange granted release_unit
  ranged-act TestUnitReady block list = ranged-good [] tt
  ranged-act RequestSense block list = on Ranged _ (λ _. (l, tt)) (λ _. (l, tt))
  ranged-act Reserve block list =
      reserve-by Ranged t h refusals block list (λ _. ranged-good _ (tt, tt)) (ranged-good _ (tt, aside-holds (roster t.head) h (byte block 2) list _ 0))
  ranged-act Release block list =
      release-by Ranged t h block (ranged-good _ (on AllAside _ (λ _. (tt, (tt, tt))) (λ _. (tt, tt)))) (ranged-good _ (tt, tt))
  ranged-act PreventAllow block list = ranged-good _ (tt, tt)
  ranged-act MoveMedium block list = move-by Ranged t h refusals _ _ _ (λ _. unfold leave carry in ranged-good _ (tt, (tt, (tt, tt))))
  ranged-act ExchangeMedium block list =
      exchange-by Ranged t h refusals _ _ _ _ (λ _. unfold leave carry in ranged-good _ (tt, (tt, (tt, (tt, (tt, tt))))))
  ranged-act ReadElementStatus block list = (l, tt)
  ranged-act ModeSense block list = (l, tt)
  ranged-act SendVolumeTag block list = tag-by Ranged t h refusals block list (λ _. ranged-good _ (tt, tt))
  ranged-act RequestVolumeElementAddress block list = (l, (tt, tt))
  ranged-act Unknown block list = refusals.refuses InvalidOperation

  ranged-steps : (block list : List ℕ) → Ranged (steps t h block list)
  unfolding steps
  ranged-steps block list = steps-by Ranged t h refusals (operation block) block list (λ _. ranged-act (operation block) block list)

ranged-fits : (buffer : List ℕ) (v : Verdict) → Ranged v → Ranged (fits buffer v)
unfolding fits
ranged-fits buffer (Number n) a = tt
ranged-fits buffer (Prevented n h) a = tt
ranged-fits buffer (Done status bytes cs) a = on Ranged _ (λ _. a) (λ _. tt)

-- ---- all calls

ranged-port : (t : Tables) (a : ℕ) (v : Verdict) → Ranged v → Ranged (at_port t a v)
unfolding at_port
ranged-port t a v r = on Ranged (sound t) (λ _. on Ranged _ (λ _. tt) (λ _. on Ranged _ (λ _. tt) (λ _. r))) (λ _. tt)

aside-restarted : (n h : ℕ) → 1 ≤ h → h + n ≤ hosts + 1 → AllAside (restarted_from n h)
unfolding restarted_from
aside-restarted zero h l m = tt
aside-restarted (suc n) h l m = ((l, omega arith), ((l, omega arith), aside-restarted n (suc h) (omega arith) (omega arith)))

ranged-verdict : (t : Tables) (c : Call) → Ranged (verdict t c)
unfolding verdict judge judged after_numbers importing exporting resetting done
ranged-verdict t (Command r) =
    on Ranged (sound t)
    (λ _. on Ranged (within 1 hosts r.host)
    (λ e. on Ranged _ (λ _. on Ranged _ (λ _. ranged-fits r.buffer _ (ranged-steps t r.host (within_low 1 hosts _ e, within-high 1 hosts _ e) r.block r.parameters)) (λ _. tt)) (λ _. tt))
    (λ _. tt))
    (λ _. tt)
ranged-verdict t (Import a v) = ranged-port t a _ (on Ranged _ (λ _. tt) (λ _. on Ranged _ (λ _. tt) (λ _. (tt, (tt, tt)))))
ranged-verdict t (Export a) = ranged-port t a _ (on Ranged _ (λ _. tt) (λ _. (tt, (tt, tt))))
ranged-verdict t Reset = on Ranged (sound t) (λ _. (tt, (tt, (tt, (tt, aside-restarted hosts 1 (omega arith) (omega arith)))))) (λ _. tt)

pub next-ranges : (t : Tables) (c : Call) → ranges (next t c).head ≡ ranges t.head
unfolding next
next-ranges t c = ranged-after t (verdict t c) (ranged-verdict t c)
