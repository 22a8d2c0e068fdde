-- `mode::geometry` meets its contract. Assumes nothing.
use native.Mathlib.Omega.{arith}
use Rattle.rules.specs.Mode.{paged}
use Rattle.rules.proofs.Writes.{put_then}
use Rattle.mode.proofs.Pages.{members-length}
use Rattle.mode.proofs.geometry.Goals as goal

pub returns : goal.returns
unfolding paged
returns c =
    let n = c.args.n in
    rw (members-length n 0) (put_then _ _ _ _ _ _ _ c.put.ensures c.arms.ensures (omega arith))
