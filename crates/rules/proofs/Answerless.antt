-- A recorded call, whose answer is not kept: its verdict is that of the call but for the length of the answer buffer, so it does what any call does
-- whose buffer is long enough; sound tables stay sound, and the ranges as they are. Assumes nothing.
use Prim.Native.Nat.{ℕ}
use native.Mathlib.Omega.{arith}
use mathlib.Core.Path.{◌≡◌, refl, sym, ap, ◌∙◌}
use mathlib.Core.Logic.{◌≢◌}
use mathlib.Core.Bool.{Bool, true, false}
use mathlib.Core.List.{List, []}
use lib.ListN.{length}
use lib.Dec.{leb}
use borrow.Author.Tests.{le-leb}
use Rattle.rules.specs.Choice.{when}
use Rattle.rules.specs.Tables.{Tables}
use Rattle.rules.specs.Roster.{ranges}
use Rattle.rules.specs.Sound.{sound}
use Rattle.rules.specs.Order.{Verdict, Number, Prevented, Done, outcome, fits, after}
use Rattle.rules.specs.Events.{at_port, done, importing, exporting, resetting}
use Rattle.rules.specs.Command.{Request, Call, Command, Import, Export, Reset, steps, after_numbers, judged, judge, verdict, buffer_of, serve}
use Rattle.rules.specs.Histories.{next}
use Rattle.rules.specs.Replay.{answerless, after_line}
use Rattle.rules.proofs.Ladder.{on}
use Rattle.rules.proofs.Untouched.{Stepped, steps-end}
use Rattle.rules.proofs.Keeps.{sound-stays}
use Rattle.rules.proofs.Ranged.{next-ranges}

fits-when : (b : List ℕ) (c : Bool) (x y z w : Verdict) → fits b x ≡ z → fits b y ≡ w → fits b (when c x y) ≡ when c z w
unfolding when
fits-when b true x y z w e f = e
fits-when b false x y z w e f = f

fits-number : (b : List ℕ) (n : ℕ) → fits b (Number n) ≡ Number n
unfolding fits
fits-number b n = refl

-- the verdict of a command is the one without an answer, with house number 5
answered : (t : Tables) (r : Request) → fits r.buffer (answerless t (Command r)) ≡ verdict t (Command r)
unfolding answerless verdict judge judged after_numbers
answered t r =
    fits-when _ _ _ _ _ _
    (fits-when _ _ _ _ _ _ (fits-when _ _ _ _ _ _ (fits-when _ _ _ _ _ _ refl (fits-number _ 4)) (fits-number _ 3)) (fits-number _ 2))
    (fits-number _ 1)

fits_or : (t : Tables) (b : List ℕ) (v : Verdict) (c : Bool) → (outcome t b (when c v (Number 5))).number ≢ 5 → after v t ≡ after (when c v (Number 5)) t
unfolding when outcome
fits_or t b v true n = refl
fits_or t b v false n = absurd (n refl)

-- house number 5 aside, a verdict leaves the same tables whatever the buffer
fits_after : (t : Tables) (b : List ℕ) (v : Verdict) → (outcome t b (fits b v)).number ≢ 5 → after v t ≡ after (fits b v) t
unfolding fits
fits_after t b (Number n) e = refl
fits_after t b (Prevented n h) e = refl
fits_after t b (Done s bytes cs) e = fits_or t b (Done s bytes cs) (leb (length bytes) (length b)) e

-- "Answers aren't kept, so number 5 doesn't arise": what a call does that does not meet number 5
pub line-next : (t : Tables) (c : Call) → (serve t c).number ≢ 5 → after_line t c ≡ next t c
unfolding after_line next serve buffer_of
line-next t (Command r) n =
    let k = answered t r in
    fits_after t r.buffer (answerless t (Command r)) (rw k n) ∙ ap (λ (v : Verdict). after v t) k
line-next t (Import a v) n = unfold answerless in refl
line-next t (Export a) n = unfold answerless in refl
line-next t Reset n = unfold answerless in refl

-- ---- a buffer that is long enough

abbrev pub lending : Request → List ℕ → Request
lending r b = record { host = r.host; block = r.block; parameters = r.parameters; buffer = b }

-- the buffer alone makes no difference to a recorded call
pub line-lending : (t : Tables) (r : Request) (b : List ℕ) → after_line t (Command (lending r b)) ≡ after_line t (Command r)
unfolding after_line answerless after_numbers
line-lending t r b = refl

-- as long as what is returned
pub returned : Verdict → List ℕ
returned (Number n) = []
returned (Prevented n h) = []
returned (Done s bytes cs) = bytes

fits-returned : (v : Verdict) → fits (returned v) v ≡ v
unfolding fits returned when
fits-returned (Number n) = refl
fits-returned (Prevented n h) = refl
fits-returned (Done s bytes cs) = rw (le-leb (length bytes) (length bytes) (omega arith)) refl

-- with it the call does what is recorded
unfoldable pub roomy : Tables → Call → Call
roomy t (Command r) = Command (lending r (returned (answerless t (Command r))))
roomy t (Import a v) = Import a v
roomy t (Export a) = Export a
roomy t Reset = Reset

roomy-verdict : (t : Tables) (c : Call) → verdict t (roomy t c) ≡ answerless t c
unfolding roomy
roomy-verdict t (Command r) =
    let b = returned (answerless t (Command r)) in
    sym (answered t (lending r b)) ∙ unfold answerless after_numbers in fits-returned (answerless t (Command r))
roomy-verdict t (Import a v) = unfold answerless in refl
roomy-verdict t (Export a) = unfold answerless in refl
roomy-verdict t Reset = unfold answerless in refl

pub roomy-next : (t : Tables) (c : Call) → next t (roomy t c) ≡ after_line t c
unfolding after_line next
roomy-next t c = ap (λ (v : Verdict). after v t) (roomy-verdict t c)

-- and does not meet number 5
abbrev NotFive : Verdict → Type 0
NotFive (Number n) = n ≢ 5
NotFive (Prevented n h) = Unit {0}
NotFive (Done s bytes cs) = Unit {0}

stepped-five : (v : Verdict) → Stepped v → NotFive v
stepped-five (Number n) e = absurd e
stepped-five (Prevented n h) e = tt
stepped-five (Done s bytes cs) e = tt

never-five : (t : Tables) (c : Call) → NotFive (answerless t c)
unfolding answerless after_numbers verdict importing exporting resetting at_port done
never-five t (Command r) =
    on NotFive _
    (λ _. on NotFive _
    (λ _. on NotFive _
    (λ _. on NotFive _ (λ _. stepped-five (steps t r.host r.block r.parameters) (steps-end t r.host r.block r.parameters)) (λ _ e. omega arith)) (λ _ e. omega arith)) (λ _ e. omega arith))
    (λ _ e. omega arith)
never-five t (Import a v) =
    on NotFive _
    (λ _. on NotFive _ (λ _ e. omega arith) (λ _. on NotFive _ (λ _. tt) (λ _. on NotFive _ (λ _ e. omega arith) (λ _. on NotFive _ (λ _ e. omega arith) (λ _. tt)))))
    (λ _ e. omega arith)
never-five t (Export a) =
    on NotFive _ (λ _. on NotFive _ (λ _ e. omega arith) (λ _. on NotFive _ (λ _. tt) (λ _. on NotFive _ (λ _ e. omega arith) (λ _. tt)))) (λ _ e. omega arith)
never-five t Reset = on NotFive _ (λ _. tt) (λ _ e. omega arith)

outcome-five : (t : Tables) (b : List ℕ) (v : Verdict) → NotFive v → (outcome t b v).number ≢ 5
unfolding outcome
outcome-five t b (Number n) f = f
outcome-five t b (Prevented n h) f = λ e. omega arith
outcome-five t b (Done s bytes cs) f = λ e. omega arith

pub roomy-number : (t : Tables) (c : Call) → (serve t (roomy t c)).number ≢ 5
unfolding serve
roomy-number t c = rw (roomy-verdict t c) (outcome-five t _ (answerless t c) (never-five t c))

-- ---- what a line leaves

pub line-sound : (t : Tables) (c : Call) → sound t ≡ true → sound (after_line t c) ≡ true
line-sound t c s = rw (← roomy-next t c) (sound-stays t (roomy t c) s)

pub line-ranges : (t : Tables) (c : Call) → ranges (after_line t c).head ≡ ranges t.head
line-ranges t c = rw (← roomy-next t c) (next-ranges t (roomy t c))
