-- `lists::mark`: at the loop's head the places before p are marked, and none of them was. Assumes nothing.
use native.Mathlib.Omega.{arith}
use mathlib.Core.Path.{sym, ◌∙◌}
use Rattle.rules.proofs.Ladder.{never, eq-differ, ne-differ}
use Rattle.rules.proofs.Loops.{failed-none, failed-more, found-there, found_nowhere, turned_none, turned-all}
use Rattle.lists.specs.Named.{marked}
use Rattle.lists.proofs.Marks.{as_before, mark_on}
use Rattle.lists.proofs.mark.Goals as goal

pub loop-p-init : goal.loop-p-init
loop-p-init c = (turned_none _ _ _, failed-none _ _)

pub returns-then-marks-p-ne0 : goal.returns-then-marks-p-ne0
unfolding marked
returns-then-marks-p-ne0 c =
    let l = c.loop-p.invariant in
    record { value = found-there _ _ _ _ l.0.from (omega (arith, l.0.from)) (as_before _ _ _ _ l.0 l.1 ∙ ne-differ _ 0 c.if-marks-p-ne0.true); marks_after = λ e. absurd (never (sym e)) }

pub loop-p-preserved : goal.loop-p-preserved
unfolding marked
loop-p-preserved c =
    let l = c.loop-p.invariant in
    (mark_on _ _ _ _ l.0 l.1, failed-more _ _ _ l.1 (as_before _ _ _ _ l.0 l.1 ∙ eq-differ _ 0 c.if-marks-p-ne0.false))

pub returns : goal.returns
returns c =
    let l = c.loop-p.invariant in
    record { value = found_nowhere _ _ _ _ l.1 (omega (arith, l.0.from)); marks_after = λ e. turned-all _ _ _ _ _ l.0 _ (omega (arith, l.0.from)) }
