-- `mode::capabilities` meets its contract. Assumes nothing.
use native.Mathlib.Omega.{arith}
use Rattle.rules.proofs.Writes.{put_then}
use Rattle.rules.specs.Mode.{paged, capabilities}
use Rattle.mode.specs.Judged.{kinds}
use Rattle.mode.proofs.capabilities.Goals as goal

pub returns : goal.returns
unfolding paged capabilities kinds
returns c =
    let two = put_then _ _ _ _ _ _ _ c.put.ensures c.kinds.ensures (omega arith) in
    put_then _ _ _ _ _ _ _ two c.kinds-2.ensures (omega arith)
