-- `mode::tell` meets its contract. Assumes nothing.
use mathlib.Core.Path.{◌≡◌, sym, ap, ◌∙◌}
use native.Mathlib.Omega.{arith}
use lib.ListN.{length, take}
use lib.Seq.{length-take-le}
use Rattle.rules.specs.Bytes.{cut}
use Rattle.rules.specs.Tables.{NewSense, in_head}
use Rattle.rules.specs.Mode.{mode_whole}
use Rattle.rules.proofs.Writes.{cut-put}
use Rattle.order.proofs.Ends.{cut-ends}
use Rattle.mode.specs.Judged.{meaning}
use Rattle.mode.proofs.tell.Goals as goal

pub slice_bounds-copy-end : goal.slice_bounds-copy-end
slice_bounds-copy-end c = sym (length-take-le c.args.count c.whole.new.d (omega arith))

pub copy-requires : goal.copy-requires
copy-requires c =
    let part : length (take c.args.count c.whole.new.d) ≡ c.args.count = length-take-le c.args.count c.whole.new.d (omega arith) in
    rw part c.requires.count_in_bounds.1

pub returns : goal.returns
unfolding meaning in_head cut
returns c = λ elements rest.
    let first : take c.args.count c.whole.new.d ≡ cut c.args.count (mode_whole c.args.head.now c.args.code) =
    ap (take c.args.count) c.whole.ensures ∙ cut-put c.args.count _ (mode_whole c.args.head.now c.args.code) (omega arith) c.requires.count_in_bounds.0 in
    cut-ends _ _ _ _ _ _ (mode_whole c.args.head.now c.args.code) (NewSense _ 0 0 0) c.requires.count_in_bounds.0 c.told.ensures
    (rw (← first) c.copy.ensures) c.wipe.ensures
