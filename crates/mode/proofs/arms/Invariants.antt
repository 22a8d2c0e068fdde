-- `mode::arms` meets its contract. Assumes nothing.
use mathlib.Core.Path.{◌≡◌}
use Rattle.rules.specs.Bytes.{put}
use Rattle.rules.specs.Mode.{members}
use Rattle.mode.proofs.arms.Given as goal

abbrev pub invariant-loop-i : goal.invariant-loop-i
invariant-loop-i l = l.d ≡ put l.initial.d l.at (members l.i 0)
