-- `holds::reserve_elements` meets its contract. Assumes nothing.
use native.Mathlib.Omega.{arith}
use mathlib.Core.Path.{ap}
use Rattle.rules.proofs.Rungs.{ends_as}
use Rattle.rules.specs.Tables.{places}
use Rattle.lists.proofs.Marks.{marks_begin}
use Rattle.holds.specs.Judged.{meaning}
use Rattle.holds.proofs.Ends.{good-with, grant-ends}
use Rattle.holds.proofs.reserve_elements.Goals as goal

pub judge_elements-requires-clause-marks : goal.judge_elements-requires-clause-marks
judge_elements-requires-clause-marks c = marks_begin _ _

pub grant-requires : goal.grant-requires
unfolding places
grant-requires c = omega (arith, c.requires.laid_out.elements-long, c.requires.laid_out.few)

pub returns-in-Ok : goal.returns-in-Ok
unfolding meaning places
returns-in-Ok c rest buffer =
    let told = c.in-Ok.ensures in
    good-with _ _ _ _ rest buffer _ (c.good.ensures _ rest buffer) _ _ _ _ (ap (meaning _ _ _ _) told.value)
    (grant-ends _ _ _ _ _ rest _ _ _ told.grantable (omega (arith, c.requires.laid_out.elements-long)) (omega (arith, c.requires.laid_out.elements-long, c.requires.laid_out.few)) c.grant.ensures)

pub returns-in-Err : goal.returns-in-Err
unfolding meaning
returns-in-Err c rest buffer =
    ends_as _ buffer (c.refused.ensures _ rest buffer) (ap (meaning _ _ _ _) c.in-Err.ensures.value)
