-- Down every call, once for all that is shown of volumes and sources: a property of verdicts that holds of each refusal by number, and
-- wherever no element is filled, holds of every command if it holds of what MOVE and EXCHANGE fill, and of every event likewise. Assumes nothing.
use Prim.Native.Nat.{ℕ, zero, suc}
use native.Mathlib.Omega.{arith}
use mathlib.Core.Path.{◌≡◌, refl, ◌∙◌}
use mathlib.Core.Logic.{◌≢◌}
use mathlib.Core.List.{List, [], ◌∷◌}
use lib.ListN.{length}
use Rattle.rules.specs.Bytes.{byte}
use Rattle.rules.specs.Tables.{Tables, ElementChange, NewStock, NewHolds, NewlyFree, Change, OfHead, OfElements, OfSearch, Recount, in_elements, change, changes}
use Rattle.rules.specs.Roster.{Slot, roster, kind_of, port}
use Rattle.rules.specs.Sound.{sound}
use Rattle.rules.specs.Order.{Verdict, Number, Prevented, Done, InvalidOperation, fits, good, check, conflict}
use Rattle.rules.specs.Operation.{Operation, TestUnitReady, RequestSense, Reserve, Release, PreventAllow, MoveMedium, ExchangeMedium, ReadElementStatus, ModeSense, SendVolumeTag, RequestVolumeElementAddress, Unknown, operation}
use Rattle.rules.specs.Moves.{leave, carry, move, exchange}
use Rattle.rules.specs.Holds.{holds_from, granted, release_unit, prevent}
use Rattle.rules.specs.Sense.{request_sense}
use Rattle.rules.specs.Listing.{read_status}
use Rattle.rules.specs.Search.{request_address}
use Rattle.rules.specs.Mode.{mode_sense}
use Rattle.rules.specs.Events.{no_port, at_port, done, restarted_from, resetting}
use Rattle.rules.specs.Command.{Request, Command, act, steps, after_numbers, judged, judge, verdict}
use Rattle.rules.proofs.Ladder.{on, differ-false}
use Rattle.rules.proofs.Walks.{Refusals, Moving, Exchanging, telling, refused-by, steps-by, move-by, exchange-by, reserve-by, release-by, tag-by}
use Rattle.rules.proofs.ElementFields.{HoldsAlone, held-length, held-alone, freed-length, freed-alone}

-- ---- changes that fill no element

abbrev pub StillElements : ElementChange → Type 0
StillElements (NewStock p v s m) = ⊥
StillElements (NewHolds p n h i) = Unit {0}
StillElements (NewlyFree w) = Unit {0}

abbrev pub Still : Change → Type 0
Still (OfHead c) = Unit {0}
Still (OfElements c) = StillElements c
Still (OfSearch c) = Unit {0}
Still Recount = Unit {0}

abbrev pub AllStill : List Change → Type 0
AllStill [] = Unit {0}
AllStill (c ∷ cs) = Still c × AllStill cs

still-length-of : (c : Change) (t : Tables) → Still c → length (change c t).elements ≡ length t.elements
unfolding change in_elements
still-length-of (OfHead c) t s = refl
still-length-of (OfElements (NewStock p v o m)) t s = absurd s
still-length-of (OfElements (NewHolds p n h i)) t s = held-length t.elements p n h i
still-length-of (OfElements (NewlyFree w)) t s = freed-length w t.elements
still-length-of (OfSearch c) t s = refl
still-length-of Recount t s = refl

still-alone-of : (c : Change) (t : Tables) → Still c → HoldsAlone t.elements (change c t).elements
unfolding change in_elements
still-alone-of (OfHead c) t s j d = refl
still-alone-of (OfElements (NewStock p v o m)) t s j d = absurd s
still-alone-of (OfElements (NewHolds p n h i)) t s j d = held-alone t.elements p n h i j d
still-alone-of (OfElements (NewlyFree w)) t s j d = freed-alone w t.elements j d
still-alone-of (OfSearch c) t s j d = refl
still-alone-of Recount t s j d = refl

pub still-length : (cs : List Change) (t : Tables) → AllStill cs → length (changes cs t).elements ≡ length t.elements
unfolding changes
still-length [] t s = refl
still-length (c ∷ cs) t (s, ss) = still-length cs (change c t) ss ∙ still-length-of c t s

-- they leave every volume, source and mark
pub still-alone : (cs : List Change) (t : Tables) → AllStill cs → HoldsAlone t.elements (changes cs t).elements
unfolding changes
still-alone [] t s j d = refl
still-alone (c ∷ cs) t (s, ss) j d = still-alone cs (change c t) ss j d ∙ still-alone-of c t s j d

still-holds : (ss : List Slot) (h i : ℕ) (list : List ℕ) (n k : ℕ) → AllStill (holds_from ss h i list n k)
unfolding holds_from
still-holds ss h i list zero k = tt
still-holds ss h i list (suc n) k = (tt, still-holds ss h i list n (suc k))

still-restarted : (n h : ℕ) → AllStill (restarted_from n h)
unfolding restarted_from
still-restarted zero h = tt
still-restarted (suc n) h = (tt, (tt, still-restarted n (suc h)))

-- ---- what the property holds of

pub record Numbered (P : Verdict → Type 0) : Type 0 where
  pub by_number : (n : ℕ) → n ≢ 0 → P (Number n)
  pub by-prevention : (n h : ℕ) → P (Prevented n h)

abbrev pub Stilled : (Verdict → Type 0) → Type 0
Stilled P = (status : ℕ) (bytes : List ℕ) (cs : List Change) → AllStill cs → P (Done status bytes cs)

-- what MOVE and EXCHANGE of host h carry out
pub record Filling (P : Verdict → Type 0) (t : Tables) (h : ℕ) : Type 0 where
  pub moves : (from to : ℕ) → Moving t from to → P (good h (leave t from ∷ carry t from to ∷ Recount ∷ []))
  pub exchanges : (from first second : ℕ) → Exchanging t from first second
      → P (good h (leave t from ∷ leave t first ∷ carry t first second ∷ carry t from first ∷ Recount ∷ []))

module _ (P : Verdict → Type 0) (s : Stilled P) (t : Tables) (h : ℕ) where
  -- ---- the commands of host h

  still-good : (cs : List Change) → AllStill cs → P (good h cs)
  unfolding good
  still-good cs a = s _ _ _ (tt, a)

  still-refusals : Refusals P t h
  unfolding check conflict telling
  still-refusals =
      record { refuses = refused-by P h (λ a q. s _ _ _ (tt, tt)); conflicts = s _ _ _ (tt, tt); tells = s _ _ _ (tt, (tt, tt)) }

  still-sense : (block : List ℕ) → P (request_sense t h block)
  unfolding request_sense
  still-sense block = on P _ (λ _. s _ _ _ (tt, tt)) (λ _. s _ _ _ (tt, tt))

  still-granted : (ss : List Slot) (i : ℕ) (list : List ℕ) → P (good h (granted ss h i list))
  unfolding granted
  still-granted ss i list = still-good _ (tt, still-holds ss h i list _ 0)

  still-release_unit : P (good h (release_unit t h))
  unfolding release_unit
  still-release_unit = still-good _ (on AllStill _ (λ _. (tt, (tt, tt))) (λ _. (tt, tt)))

  act_by : Filling P t h → (op : Operation) (block list : List ℕ) → P (act op t h block list)
  unfolding act move exchange read_status mode_sense prevent request_address
  act_by f TestUnitReady block list = still-good [] tt
  act_by f RequestSense block list = still-sense block
  act_by f Reserve block list = reserve-by P t h still-refusals block list (λ _. still-good _ (tt, tt)) (still-granted (roster t.head) (byte block 2) list)
  act_by f Release block list = release-by P t h block still-release_unit (still-good _ (tt, tt))
  act_by f PreventAllow block list = still-good _ (tt, tt)
  act_by f MoveMedium block list = move-by P t h still-refusals _ _ _ (f.moves _ _)
  act_by f ExchangeMedium block list = exchange-by P t h still-refusals _ _ _ _ (f.exchanges _ _ _)
  act_by f ReadElementStatus block list = s _ _ _ (tt, tt)
  act_by f ModeSense block list = s _ _ _ (tt, tt)
  act_by f SendVolumeTag block list = tag-by P t h still-refusals block list (λ _. still-good _ (tt, tt))
  act_by f RequestVolumeElementAddress block list = s _ _ _ (tt, (tt, tt))
  act_by f Unknown block list = still-refusals.refuses InvalidOperation

  all-steps-by : Filling P t h → (block list : List ℕ) → P (steps t h block list)
  unfolding steps
  all-steps-by f block list = steps-by P t h still-refusals (operation block) block list (λ _. act_by f (operation block) block list)

module _ (P : Verdict → Type 0) (n : Numbered P) where
  fits_by : (buffer : List ℕ) (v : Verdict) → P v → P (fits buffer v)
  unfolding fits
  fits_by buffer (Number k) p = p
  fits_by buffer (Prevented k h) p = p
  fits_by buffer (Done status bytes cs) p = on P _ (λ _. p) (λ _. n.by_number 5 (omega arith))

  pub command-by : Stilled P → (t : Tables) (r : Request) → Filling P t r.host → P (verdict t (Command r))
  unfolding verdict judge judged after_numbers
  command-by s t r f =
      on P _
      (λ _. on P _
      (λ _. on P _
      (λ _. on P _ (λ _. fits_by r.buffer _ (all-steps-by P s t r.host f r.block r.parameters)) (λ _. n.by_number 4 (omega arith)))
      (λ _. n.by_number 3 (omega arith)))
      (λ _. n.by_number 2 (omega arith)))
      (λ _. n.by_number 1 (omega arith))

  -- ---- the events

  pub port-by : (t : Tables) (a : ℕ) (v : Verdict) → (kind_of (roster t.head) a ≡ port → P v) → P (at_port t a v)
  unfolding at_port no_port
  port-by t a v p =
      on P (sound t)
      (λ _. on P _ (λ _. n.by_number 6 (omega arith)) (λ e. on P _ (λ _. n.by-prevention _ _) (λ _. p (differ-false _ _ e))))
      (λ _. n.by_number 1 (omega arith))

  pub reset_by : Stilled P → (t : Tables) → P (resetting t)
  unfolding resetting done
  reset_by s t = on P (sound t) (λ _. s _ _ _ (tt, (tt, (tt, (tt, still-restarted _ 1))))) (λ _. n.by_number 1 (omega arith))
