-- Each way out of the steps ends as the rules say. Assumes nothing.
use Prim.Native.Nat.{ℕ}
use mathlib.Core.Path.{◌≡◌, refl, sym, ap, ◌∙◌}
use mathlib.Core.Logic.{◌≢◌}
use mathlib.Core.List.{List}
use lib.ListN.{length}
use borrow.Author.Tests.{ne_eqb}
use Rattle.rules.specs.Choice.{when}
use Rattle.rules.specs.Tables.{Tables, attention}
use Rattle.rules.specs.Order.{Verdict, fits, after_attention, conflict, refused, InvalidField}
use Rattle.rules.specs.Command.{act, steps_of}
use Rattle.rules.proofs.Untouched.{conflict-fits, refused-fits}
use Rattle.operation.specs.declared.Operation.{Operation}
use Rattle.operation.specs.Meaning.{meaning}
use Rattle.std.specs.Prelude.{Ok, Err}
use Rattle.admission.specs.declared.Barrier.TheVariants.{Pending, Held, Faulty}
use Rattle.admission.specs.Admitting.{Admission, admission, on_admission}
use Rattle.admission.proofs.Admissions.{is-pending, admission-is}

-- attention that is told is told without bytes
attention-fits : (t : Tables) (h : ℕ) (buffer : List ℕ) (rest : Verdict) → attention t.head h ≢ 0 → fits buffer (after_attention t h rest) ≡ after_attention t h rest
unfolding after_attention fits when
attention-fits t h buffer rest n = rw (ne_eqb (attention t.head h) 0 n) (rw (lib.Dec.leb-zero (length buffer)) refl)

-- ---- the answer g of steps 1 to 4

module _ (op : Operation) (t : Tables) (h : ℕ) (block list buffer : List ℕ) (g : Admission) (is : g ≡ admission op t.head t.elements h block list) where
  by : (a : Admission) → g ≡ a → on_admission t h a (act (meaning op) t h block list) ≡ steps_of (meaning op) t h block list
  unfolding steps_of
  by a e = sym (admission-is op t h block list g is (act (meaning op) t h block list) ∙ rw e refl)

  pub pending-ends : g ≡ Err Pending → after_attention t h (act (meaning op) t h block list) ≡ fits buffer (steps_of (meaning op) t h block list)
  unfolding on_admission
  pending-ends e = sym (attention-fits t h buffer _ (is-pending op t h block list g is e)) ∙ ap (fits buffer) (by (Err Pending) e)

  pub held-ends : g ≡ Err Held → conflict h ≡ fits buffer (steps_of (meaning op) t h block list)
  unfolding on_admission
  held-ends e = sym (conflict-fits t h block buffer) ∙ ap (fits buffer) (by (Err Held) e)

  pub faulty-ends : (at : ℕ) → g ≡ Err (Faulty at) → refused h (InvalidField at) ≡ fits buffer (steps_of (meaning op) t h block list)
  unfolding on_admission
  faulty-ends at e = sym (refused-fits t h block buffer (InvalidField at)) ∙ ap (fits buffer) (by (Err (Faulty at)) e)

  pub open-ends : g ≡ Ok (tt {0}) → fits buffer (act (meaning op) t h block list) ≡ fits buffer (steps_of (meaning op) t h block list)
  unfolding on_admission
  open-ends e = ap (fits buffer) (by (Ok (tt {0})) e)
