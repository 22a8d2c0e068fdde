-- `lists::judge` meets its contract. Assumes nothing.
use mathlib.Core.Path.{refl}
use Rattle.std.proofs.lemmas.Result.{err_from_is_err_and}
use Rattle.lists.proofs.Faults.{told-wrong, told-inside, span-up, span-most, span-few, told_named, told-new, told-marks}
use Rattle.lists.proofs.judge.Goals as goal

pub returns-in_err-span-clause-value : goal.returns-in_err-span-clause-value
returns-in_err-span-clause-value c =
    let p = err_from_is_err_and c.from_residual.result c.from_residual.ensures.1 in
    rw (p.1, p.2) (told-wrong _ _ _ _ c.in_err-span.ensures _ refl)

pub mark-requires : goal.mark-requires
mark-requires c =
    let inside = told-inside _ _ _ _ c.in_ok-span.ensures _ refl in
    record { first_le_end = span-up _ _ _ _ c.requires _ inside; end_le_most_elements = span-few _ _ _ _ c.requires _ inside }

pub returns-then-mark : goal.returns-then-mark
returns-then-mark c =
    let inside = told-inside _ _ _ _ c.in_ok-span.ensures _ refl in
    record { value = told_named _ _ _ _ c.requires _ inside _ c.mark.ensures.value c.if-mark.true; judged = tt }

pub returns : goal.returns
returns c =
    let inside = told-inside _ _ _ _ c.in_ok-span.ensures _ refl in
    let new = c.mark.ensures in record {
      value = told-new _ _ _ _ c.requires _ inside _ new.value c.if-mark.false;
      judged = (span-up _ _ _ _ c.requires _ inside, span-most _ _ _ _ c.requires _ inside, told-marks _ _ _ _ c.requires _ inside _ (new.marks_after c.if-mark.false));
    }
