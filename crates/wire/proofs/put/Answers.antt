-- `wire::put` meets its contract. Assumes nothing.
use mathlib.Core.Path.{◌∙◌, sym, ap}
use native.Mathlib.Omega.{arith}
use lib.ListN.{length}
use borrow.Rule.Slice.PartMut.{mid_len}
use Rattle.wire.proofs.Runs.{put-middle}
use Rattle.wire.proofs.put.Goals as goal

pub returns : goal.returns
returns g c =
    let a = c.copy_from_slice.ensures in
    let n = ap length (sym a.after) ∙ a.len ∙ mid_len _ _ _ c.requires in
    rw a.after (put-middle _ _ _ _ (omega arith) c.requires (omega arith))
