-- `search::mark_found`: at the loop's head so many runs are marked, which have the places before `place`. Assumes nothing.
use native.Mathlib.Omega.{arith}
use borrow.Author.Rules.{rules}
use Rattle.search.proofs.Marking.{marking_begins, marking-run, marking-on, marking-ends, place-small}
use Rattle.search.proofs.mark_found.Goals as goal

pub loop-r-init : goal.loop-r-init
loop-r-init c = marking_begins _ _ _ _ _ c.requires

pub mark_run-requires : goal.mark_run-requires
mark_run-requires c = marking-run _ _ _ _ _ c.requires (search rules) _ _ _ c.loop-r.invariant c.loop-r-test.true

pub overflow_add-place : goal.overflow_add-place
overflow_add-place c =
    omega (arith, place-small _ _ _ _ _ c.requires (search rules) _ _ _ c.loop-r.invariant c.loop-r-test.true, c.well_formed)

pub loop-r-preserved : goal.loop-r-preserved
loop-r-preserved c =
    marking-on _ _ _ _ _ c.requires (search rules) _ _ _ c.loop-r.invariant c.loop-r-test.true _ (search rules) (rw c.of-template.ensures at c.mark_run.ensures)

pub shape_of-marks : goal.shape_of-marks
shape_of-marks c = c.loop-r.invariant.as_long

pub returns : goal.returns
returns c =
    marking-ends _ _ _ _ _ c.requires (search rules) _ _ _ c.loop-r.invariant c.loop-r-test.false
