-- What leaves the search: every call but a SEND VOLUME TAG and a REQUEST VOLUME ELEMENT ADDRESS that end with GOOD, and a reset. Assumes nothing.
use Prim.Native.Nat.{ℕ, zero, suc}
use mathlib.Core.Path.{◌≡◌, refl, sym, ap, ◌∙◌}
use mathlib.Core.Logic.{◌≢◌}
use mathlib.Core.Bool.{Bool, true, false}
use mathlib.Core.List.{List, [], ◌∷◌}
use borrow.Author.Tests.{eq-eqb}
use Rattle.rules.specs.Bytes.{byte}
use Rattle.rules.specs.Tables.{Tables, Change, OfHead, OfElements, OfSearch, Recount, change, changes}
use Rattle.rules.specs.Roster.{Slot, roster}
use Rattle.rules.specs.Sound.{sound}
use Rattle.rules.specs.Operation.{Operation, TestUnitReady, RequestSense, Reserve, Release, PreventAllow, MoveMedium, ExchangeMedium, ReadElementStatus, ModeSense, SendVolumeTag, RequestVolumeElementAddress, Unknown, SEND-VOLUME-TAG, REQUEST-VOLUME-ELEMENT-ADDRESS, decoded, operation}
use Rattle.rules.specs.Order.{Verdict, Number, Prevented, Done, Outcome, InvalidOperation, GOOD, outcome, fits, good, check, conflict}
use Rattle.rules.specs.Moves.{leave, carry, move, exchange}
use Rattle.rules.specs.Holds.{holds_from, granted, release_unit, prevent}
use Rattle.rules.specs.Sense.{request_sense}
use Rattle.rules.specs.Listing.{read_status}
use Rattle.rules.specs.Mode.{mode_sense}
use Rattle.rules.specs.Events.{at_port, done, importing, exporting}
use Rattle.rules.specs.Command.{Request, Call, Command, Import, Export, Reset, act, steps, after_numbers, judged, judge, verdict, buffer_of, serve}
use Rattle.rules.specs.Histories.{joins, mixes}
use Rattle.rules.specs.Told.{went_well, goes_on, renews}
use Rattle.rules.proofs.Ladder.{on, either, never, all_cons, all_nil}
use Rattle.rules.proofs.Walks.{Refusals, telling, refused-by, steps-by, move-by, exchange-by, reserve-by, release-by}
use Rattle.rules.proofs.Operations.{First, decoded-first}
use Rattle.rules.proofs.Untouched.{number-untouched, status-own}

-- ---- changes of other tables

abbrev Beside : Change → Type 0
Beside (OfHead c) = Unit {0}
Beside (OfElements c) = Unit {0}
Beside (OfSearch c) = ⊥
Beside Recount = Unit {0}

abbrev AllBeside : List Change → Type 0
AllBeside [] = Unit {0}
AllBeside (c ∷ cs) = Beside c × AllBeside cs

change-rest : (c : Change) (t : Tables) → Beside c → (change c t).rest ≡ t.rest
unfolding change
change-rest (OfHead c) t b = refl
change-rest (OfElements c) t b = refl
change-rest (OfSearch c) t b = absurd b
change-rest Recount t b = refl

changes-rest : (cs : List Change) (t : Tables) → AllBeside cs → (changes cs t).rest ≡ t.rest
unfolding changes
changes-rest [] t b = refl
changes-rest (c ∷ cs) t (b, bs) = changes-rest cs (change c t) bs ∙ change-rest c t b

-- ---- verdicts with such changes alone

abbrev Leaves : Verdict → Type 0
Leaves (Number n) = Unit {0}
Leaves (Prevented n h) = Unit {0}
Leaves (Done status bytes cs) = AllBeside cs

leaves-rest : (t : Tables) (buffer : List ℕ) (v : Verdict) → Leaves v → (outcome t buffer v).tables.rest ≡ t.rest
unfolding outcome
leaves-rest t buffer (Number n) l = refl
leaves-rest t buffer (Prevented n h) l = refl
leaves-rest t buffer (Done status bytes cs) l = changes-rest cs t l

-- the two commands that write the search
abbrev writes : Operation → Bool
writes TestUnitReady = false
writes RequestSense = false
writes Reserve = false
writes Release = false
writes PreventAllow = false
writes MoveMedium = false
writes ExchangeMedium = false
writes ReadElementStatus = false
writes ModeSense = false
writes SendVolumeTag = true
writes RequestVolumeElementAddress = true
writes Unknown = false

beside-holds : (ss : List Slot) (h i : ℕ) (list : List ℕ) (n k : ℕ) → AllBeside (holds_from ss h i list n k)
unfolding holds_from
beside-holds ss h i list zero k = tt
beside-holds ss h i list (suc n) k = (tt, beside-holds ss h i list n (suc k))

module _ (t : Tables) (h : ℕ) where
  leaves-good : (cs : List Change) → AllBeside cs → Leaves (good h cs)
  unfolding good
  leaves-good cs b = (tt, b)

  refusals : Refusals Leaves t h
  unfolding check conflict telling
  refusals = record { refuses = refused-by Leaves h (λ a q. (tt, tt)); conflicts = (tt, tt); tells = (tt, (tt, tt)) }

  leaves-act : (op : Operation) (block list : List ℕ) → writes op ≡ false → Leaves (act op t h block list)
  unfolding act request_sense read_status mode_sense prevent move exchange granted release_unit
  leaves-act TestUnitReady block list w = leaves-good [] tt
  leaves-act RequestSense block list w = on Leaves _ (λ _. (tt, tt)) (λ _. (tt, tt))
  leaves-act Reserve block list w =
      reserve-by Leaves t h refusals block list (λ _. leaves-good _ (tt, tt)) (leaves-good _ (tt, beside-holds (roster t.head) h (byte block 2) list _ 0))
  leaves-act Release block list w =
      release-by Leaves t h block (leaves-good _ (on AllBeside _ (λ _. (tt, (tt, tt))) (λ _. (tt, tt)))) (leaves-good _ (tt, tt))
  leaves-act PreventAllow block list w = leaves-good _ (tt, tt)
  leaves-act MoveMedium block list w = move-by Leaves t h refusals _ _ _ (λ _. unfold leave carry in leaves-good _ (tt, (tt, (tt, tt))))
  leaves-act ExchangeMedium block list w =
      exchange-by Leaves t h refusals _ _ _ _ (λ _. unfold leave carry in leaves-good _ (tt, (tt, (tt, (tt, (tt, tt))))))
  leaves-act ReadElementStatus block list w = (tt, tt)
  leaves-act ModeSense block list w = (tt, tt)
  leaves-act SendVolumeTag block list w = absurd (never (sym w))
  leaves-act RequestVolumeElementAddress block list w = absurd (never (sym w))
  leaves-act Unknown block list w = refusals.refuses InvalidOperation

  leaves-steps : (block list : List ℕ) → writes (operation block) ≡ false → Leaves (steps t h block list)
  unfolding steps
  leaves-steps block list w = steps-by Leaves t h refusals (operation block) block list (λ _. leaves-act (operation block) block list w)

leaves-fits : (buffer : List ℕ) (v : Verdict) → Leaves v → Leaves (fits buffer v)
unfolding fits
leaves-fits buffer (Number n) l = tt
leaves-fits buffer (Prevented n h) l = tt
leaves-fits buffer (Done status bytes cs) l = on Leaves _ (λ _. l) (λ _. tt)

leaves-verdict : (t : Tables) (r : Request) → writes (operation r.block) ≡ false → Leaves (verdict t (Command r))
unfolding verdict judge judged after_numbers
leaves-verdict t r w =
    on Leaves (sound t)
    (λ _. on Leaves _
    (λ _. on Leaves _ (λ _. on Leaves _ (λ _. leaves-fits r.buffer _ (leaves-steps t r.host r.block r.parameters w)) (λ _. tt)) (λ _. tt))
    (λ _. tt))
    (λ _. tt)

leaves-port : (t : Tables) (a : ℕ) (v : Verdict) → Leaves v → Leaves (at_port t a v)
unfolding at_port
leaves-port t a v l = on Leaves (sound t) (λ _. on Leaves _ (λ _. tt) (λ _. on Leaves _ (λ _. tt) (λ _. l))) (λ _. tt)

-- ---- the calls

-- one that is refused by a number
number-kept : (t : Tables) (c : Call) → (serve t c).number ≢ 0 → (serve t c).tables.rest ≡ t.rest
unfolding serve
number-kept t c n = ap (λ (u : Tables). u.rest) (number-untouched t (buffer_of c) (verdict t c) n).tables-is

-- a request that did not go well
well : (first : ℕ) (r : Request) (o : Outcome) → byte r.block 0 ≡ first → o.number ≡ 0 → o.status ≡ GOOD → went_well first r o ≡ true
unfolding went_well
well first r o b n s = all_cons _ _ (eq-eqb _ _ b) (all_cons _ _ (eq-eqb _ _ n) (all_cons _ _ (eq-eqb _ _ s) all_nil))

ill-kept : (first : ℕ) (t : Tables) (r : Request) → byte r.block 0 ≡ first → went_well first r (serve t (Command r)) ≡ false
    → (serve t (Command r)).tables.rest ≡ t.rest
ill-kept first t r b w =
    let o = serve t (Command r) in
    either o.number 0
    (λ n.
    either o.status GOOD (λ s. absurd (never (sym w ∙ well first r o b n s))) (λ s. (status-own t r s).rest-is))
    (number-kept t (Command r))

no_write : (b : ℕ) (op : Operation) → First op b → b ≢ SEND-VOLUME-TAG → b ≢ REQUEST-VOLUME-ELEMENT-ADDRESS → writes op ≡ false
no_write b TestUnitReady e m n = refl
no_write b RequestSense e m n = refl
no_write b Reserve e m n = refl
no_write b Release e m n = refl
no_write b PreventAllow e m n = refl
no_write b MoveMedium e m n = refl
no_write b ExchangeMedium e m n = refl
no_write b ReadElementStatus e m n = refl
no_write b ModeSense e m n = refl
no_write b SendVolumeTag e m n = absurd (m e)
no_write b RequestVolumeElementAddress e m n = absurd (n e)
no_write b Unknown e m n = refl

unwritten : (t : Tables) (r : Request) → writes (operation r.block) ≡ false → (serve t (Command r)).tables.rest ≡ t.rest
unfolding serve buffer_of
unwritten t r w = leaves-rest t r.buffer (verdict t (Command r)) (leaves-verdict t r w)

command-kept : (t : Tables) (r : Request) → went_well SEND-VOLUME-TAG r (serve t (Command r)) ≡ false
    → went_well REQUEST-VOLUME-ELEMENT-ADDRESS r (serve t (Command r)) ≡ false → (serve t (Command r)).tables.rest ≡ t.rest
unfolding operation
command-kept t r s q =
    let b = byte r.block 0 in
    either b SEND-VOLUME-TAG (λ e. ill-kept SEND-VOLUME-TAG t r e s)
    λ m. either b REQUEST-VOLUME-ELEMENT-ADDRESS (λ e. ill-kept REQUEST-VOLUME-ELEMENT-ADDRESS t r e q)
    λ n. unwritten t r (no_write b (decoded b) (decoded-first b) m n)

pub call_kept : (t : Tables) (c : Call) → renews c (serve t c) ≡ false → goes_on c (serve t c) ≡ false → (serve t c).tables.rest ≡ t.rest
unfolding renews goes_on
call_kept t (Command r) s q = command-kept t r s q
call_kept t (Import a v) s q =
    unfold serve verdict importing done in
    leaves-rest t _ _ (leaves-port t a _ (on Leaves _ (λ _. tt) (λ _. on Leaves _ (λ _. tt) (λ _. (tt, (tt, tt))))))
call_kept t (Export a) s q =
    unfold serve verdict exporting done in leaves-rest t _ _ (leaves-port t a _ (on Leaves _ (λ _. tt) (λ _. (tt, (tt, tt)))))
call_kept t Reset s q = number-kept t Reset (λ e. never (sym s ∙ eq-eqb _ _ e))

-- a command of demand 3
joins-not : (op : Operation) → joins op ≡ true → writes op ≡ false
unfolding joins
joins-not TestUnitReady m = refl
joins-not RequestSense m = refl
joins-not Reserve m = refl
joins-not Release m = refl
joins-not PreventAllow m = refl
joins-not MoveMedium m = refl
joins-not ExchangeMedium m = refl
joins-not ReadElementStatus m = refl
joins-not ModeSense m = refl
joins-not SendVolumeTag m = absurd (never m)
joins-not RequestVolumeElementAddress m = absurd (never m)
joins-not Unknown m = refl

pub mixes-kept : (t : Tables) (r : Request) → mixes r.block ≡ true → (serve t (Command r)).tables.rest ≡ t.rest
unfolding mixes
mixes-kept t r m = unwritten t r (joins-not (operation r.block) m)
