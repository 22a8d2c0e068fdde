-- `search::mark_places`: at the loop's head the places before p are looked at. Assumes nothing.
use native.Mathlib.Omega.{arith}
use borrow.Author.Rules.{rules}
use Rattle.rules.proofs.Loops.{turned_none, turned-all}
use Rattle.search.proofs.Places.{placed-more, mark_made, mark-none}
use Rattle.search.proofs.mark_places.Goals as goal
use Rattle.search.proofs.mark_places.Goals.{then-volume_fits, else-volume_fits}

pub loop-p-init : goal.loop-p-init
loop-p-init c = turned_none _ _ _

pub volume_fits-requires : goal.volume_fits-requires
volume_fits-requires c = rw c.volume.ensures (c.requires.labels c.loop-p.p (search rules))

pub bounds-marks-p : goal.bounds-marks-p
bounds-marks-p c = omega (arith, c.loop-p.invariant.kept)

pub loop-p-preserved : goal.loop-p-preserved
loop-p-preserved c =
    placed-more _ _ _ _ _ _ _ c.loop-p.invariant _
    (elim c.if-volume_fits.branch [
      | then-volume_fits w ↦ mark_made _ _ _ _ _ _ c.volume.ensures c.volume_fits.ensures _ _ w.if-volume_fits.true w.marks-is
      | else-volume_fits w ↦ mark-none _ _ _ _ _ _ c.volume.ensures c.volume_fits.ensures _ _ w.if-volume_fits.false w.marks-is
    ])

pub returns : goal.returns
returns c = turned-all _ _ _ _ _ c.loop-p.invariant _ (search rules)
