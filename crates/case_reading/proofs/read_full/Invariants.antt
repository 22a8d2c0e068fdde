-- `case_reading::read_full`: what was read lies in the room. Assumes nothing.
use Rattle.std.proofs.Common.{length, ◌-◌, ◌≤◌}
use Rattle.case_reading.proofs.read_full.Given as goal

abbrev pub invariant-loop-done : goal.invariant-loop-done
invariant-loop-done g l = l.done ≤ length l.file

abbrev pub decreases-loop-done : goal.decreases-loop-done
decreases-loop-done g l = length l.file - l.done
