-- `case_text::find` meets its contract. Assumes nothing.
use native.Mathlib.Omega.{arith}
use Rattle.case_text.proofs.Searching.{stops-at, stops-nowhere}
use Rattle.case_text.proofs.find.Goals as goal

pub overflow_add-result : goal.overflow_add-result
overflow_add-result c = omega (arith, (stops-at _ _ _ c.requires _ c.in-Some.ensures).1)

pub returns-in-Some : goal.returns-in-Some
returns-in-Some c =
    let is = stops-at _ _ _ c.requires _ c.in-Some.ensures in
    record { value = is.0; lower_bound = (omega arith, is.1) }

pub returns-in-None : goal.returns-in-None
returns-in-None c = record { value = stops-nowhere _ _ _ c.requires c.in-None.ensures; lower_bound = (c.requires, omega arith) }
