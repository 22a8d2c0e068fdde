-- `sound::element::run_sound`: at the loop's head the places before this one are passed, and their volumes marked. Assumes nothing.
use Rattle.sound.proofs.Pass.{pass_begins, pass_unfit, pass_twice, pass_new, pass_empty, pass_all, all_marked, volume_most}
use Rattle.sound.proofs.element.run_sound.Goals as goal
use Rattle.sound.proofs.element.run_sound.Goals.{then-number-eq0, else-number-eq0+else-not-insert}

pub loop-place-init : goal.loop-place-init
loop-place-init c = pass_begins _ _ _ _ _ _ _ _ c.requires

pub returns-then-not-fits-clause-value : goal.returns-then-not-fits-clause-value
returns-then-not-fits-clause-value c =
    pass_unfit _ _ _ _ _ _ _ _ _ _ c.loop-place.invariant c.loop-place-test.true _ c.last_of-last.ensures _ c.fits.ensures c.if-not-fits.true

pub insert-requires : goal.insert-requires
insert-requires c =
    volume_most _ _ _ _ _ _ _ _ _ _ c.loop-place.invariant c.loop-place-test.true _ c.last_of-last.ensures _ c.fits.ensures c.if-not-fits.false _ c.volume-number.ensures c.args.unit.top_bound

pub returns-then-not-insert-clause-value : goal.returns-then-not-insert-clause-value
returns-then-not-insert-clause-value c =
    pass_twice _ _ _ _ _ _ _ _ _ _ c.loop-place.invariant c.loop-place-test.true _ c.last_of-last.ensures _ c.fits.ensures c.if-not-fits.false _ c.volume-number.ensures c.args.unit.top_bound
    c.if-number-eq0.false c.loop-place.seen.room _ c.insert.ensures.fresh c.if-not-insert.true

pub loop-place-preserved : goal.loop-place-preserved
loop-place-preserved c =
    elim c.if-number-eq0.branch [
      | then-number-eq0 w ↦
          rw (w.seen-is, w.empty-is)
          (pass_empty _ _ _ _ _ _ _ _ _ _ c.loop-place.invariant c.loop-place-test.true _ c.last_of-last.ensures _ c.fits.ensures c.if-not-fits.false _ c.volume-number.ensures c.args.unit.top_bound w.if-number-eq0.true)
      | else-number-eq0+else-not-insert w ↦
          rw (w.seen-is, w.insert.ensures.words, w.empty-is)
          (pass_new _ _ _ _ _ _ _ _ _ _ c.loop-place.invariant c.loop-place-test.true _ c.last_of-last.ensures _ c.fits.ensures c.if-not-fits.false _ c.volume-number.ensures c.args.unit.top_bound
          w.if-number-eq0.false c.loop-place.seen.room _ w.insert.ensures.fresh w.if-not-insert.false)
    ]

pub returns-clause-value : goal.returns-clause-value
returns-clause-value c = pass_all _ _ _ _ _ _ _ _ _ _ c.loop-place.invariant c.loop-place-test.false

pub returns-clause-marks : goal.returns-clause-marks
returns-clause-marks c = all_marked _ _ _ _ _ _ _ _ _ _ c.loop-place.invariant c.loop-place-test.false
