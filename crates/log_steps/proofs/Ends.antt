-- Each way out of a recorded command leaves the tables that the rules say. Assumes nothing.
use Prim.Native.Nat.{ℕ}
use mathlib.Core.Path.{◌≡◌, refl, sym, ap, ◌∙◌}
use mathlib.Core.Bool.{true, false}
use mathlib.Core.List.{List, []}
use Rattle.rules.specs.Choice.{when}
use Rattle.rules.specs.Tables.{Tables, lent, sensed, attended, in_head, change, changes}
use Rattle.rules.specs.Order.{Verdict, Outcome, outcome, after, good}
use Rattle.rules.specs.Sense.{tells_attention, request_sense}
use Rattle.rules.specs.Listing.{read_status}
use Rattle.rules.specs.Mode.{mode_sense}
use Rattle.rules.specs.Command.{act, steps_of}
use Rattle.rules.proofs.Sequences.{outcome-leaves}
use mathlib.Core.Logic.{◌⊎◌, inl, inr}
use Rattle.operation.specs.declared.Operation.{Operation}
use Rattle.operation.specs.declared.Operation.TheVariants.{TestUnitReady, ReadElementStatus, ModeSense}
use Rattle.operation.specs.Meaning.{meaning}
use Rattle.std.specs.Prelude.{Result}
use Rattle.admission.specs.declared.Barrier.{Barrier}
use Rattle.admission.specs.Admitting.{admission, on_admission}
use Rattle.admission.proofs.Admissions.{admission-is}

-- the tables that an outcome leaves
pub left_by : (t : Tables) (b : List ℕ) (v : Verdict) (o : Outcome) → o ≡ outcome t b v → o.tables ≡ after v t
left_by t b v o e = ap (λ (x : Outcome). x.tables) e ∙ outcome-leaves t b v

module _ (t : Tables) (h : ℕ) (block : List ℕ) where
  -- the attention that is told, or the sense
  pub attention-cleared : tells_attention t.head h ≡ true → (head' : List ℕ) → head' ≡ attended t.head h 0 0
      → lent head' t.elements t.rest ≡ after (request_sense t h block) t
  unfolding request_sense after changes change in_head when
  attention-cleared y head' e = rw (y, e) refl

  pub sense-cleared : tells_attention t.head h ≡ false → (head' : List ℕ) → head' ≡ sensed t.head h 0 0 0
      → lent head' t.elements t.rest ≡ after (request_sense t h block) t
  unfolding request_sense after changes change in_head when
  sense-cleared n head' e = rw (n, e) refl

module _ (op : Operation) (t : Tables) (h : ℕ) (block list : List ℕ) (u : Tables) where
  -- the command that was chosen, by its block
  pub acts : (o : Operation) → op ≡ o → (given : List ℕ) → given ≡ block → u ≡ after (act (meaning o) t h given list) t
      → u ≡ after (act (meaning op) t h block list) t
  acts o told given is e = rw (told, ← is) e

  -- a listing and mode pages leave what GOOD leaves
  pub clears : (op ≡ TestUnitReady) ⊎ ((op ≡ ReadElementStatus) ⊎ (op ≡ ModeSense)) → u ≡ after (good h []) t → u ≡ after (act (meaning op) t h block list) t
  unfolding act meaning after good read_status mode_sense
  clears (inl e) is = rw e is
  clears (inr (inl e)) is = rw e is
  clears (inr (inr e)) is = rw e is

  -- the answer g of steps 1 to 4
  pub admits : (g : Result (Unit {0}) Barrier) → g ≡ admission op t.head t.elements h block list → (a : Result (Unit {0}) Barrier) → g ≡ a
      → u ≡ after (on_admission t h a (act (meaning op) t h block list)) t → u ≡ after (steps_of (meaning op) t h block list) t
  unfolding steps_of
  admits g is a told e = e ∙ ap (λ (v : Verdict). after v t) (sym (admission-is op t h block list g is (act (meaning op) t h block list) ∙ rw told refl))
