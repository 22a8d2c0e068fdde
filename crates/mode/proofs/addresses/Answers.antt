-- `mode::addresses` meets its contract. Assumes nothing.
use native.Mathlib.Omega.{arith}
use Rattle.rules.proofs.Writes.{put_then}
use Rattle.rules.specs.Roster.{ranges}
use Rattle.rules.specs.Mode.{paged, assigned, assignments}
use Rattle.mode.proofs.addresses.Goals as goal

pub returns : goal.returns
unfolding paged assigned assignments ranges
returns c =
    let two = put_then _ _ _ _ _ _ _ c.put.ensures c.assign.ensures (omega arith) in
    let three = put_then _ _ _ _ _ _ _ two c.assign-2.ensures (omega arith) in
    let four = put_then _ _ _ _ _ _ _ three c.assign-3.ensures (omega arith) in
    let five = put_then _ _ _ _ _ _ _ four c.assign-4.ensures (omega arith) in
    put_then _ _ _ _ _ _ _ five c.put-2.ensures (omega arith)
