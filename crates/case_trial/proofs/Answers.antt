-- What a line asks for is what the rules name: the ways out of the code that answers it. Assumes nothing.
use Prim.Native.Nat.{ℕ, ◌≤◌}
use mathlib.Core.Path.{◌≡◌, refl, sym, ◌∙◌}
use mathlib.Core.List.{List}
use lib.ListN.{length}
use Rattle.rules.specs.Tables.{head_size}
use Rattle.rules.specs.Roster.{roster}
use Rattle.rules.proofs.Ladder.{lt_not}
use Rattle.tables.specs.declared.Range.{Range}
use Rattle.tables.specs.declared.Types.TheVariants.{Any}
use Rattle.tables.specs.LookUp.{found}
use Rattle.tables.specs.Ranges.{laid, Runs}
use Rattle.tables.proofs.Roster.{runs-laid}
use Rattle.case_script.specs.declared.word.Word.{Word}
use Rattle.std.proofs.Common.{Option, Some, None, Result, Ok, Err}
use Rattle.case_script.specs.declared.fault.Fault.{Fault}
use Rattle.case_script.specs.declared.fault.Fault.TheVariants.{NoElement}
use Rattle.case_trial.specs.Asked.{field_at, field_in, element_field}

-- the answer f of a look-up of the address a
module _ (head elements : List ℕ) (w : Word) (a : ℕ) (runs : List Range) (f : Option ℕ) (r : Runs runs head) (l : f ≡ found Any (laid runs) a)
    (h : head_size ≤ length head) where
  looked : f ≡ found Any (roster head) a
  looked = rw (runs-laid runs head r) at l

  pub no-element : f ≡ None → Err NoElement ≡ element_field head elements w a
  unfolding element_field field_in
  no-element e = lt_not _ _ _ _ _ h (rw (sym looked ∙ e) refl)

  pub an-element : (p : ℕ) (v : Result ℕ Fault) → f ≡ Some p → v ≡ field_at elements w p → v ≡ element_field head elements w a
  unfolding element_field field_in
  an-element p v e i = lt_not _ _ _ _ _ h (rw (sym looked ∙ e) i)
