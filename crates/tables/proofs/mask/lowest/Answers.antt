-- `tables::mask::lowest` meets its contract. Assumes nothing.
use Rattle.std.proofs.Common.{arith, rules}
use lib.Count.{trailing_le}
use Rattle.tables.proofs.Masks.{zeros-are}
use Rattle.tables.proofs.mask.lowest.Goals as goal

pub overflow_cast-result : goal.overflow_cast-result
overflow_cast-result c = omega (arith, trailing_le 8 c.args.mask)

pub overflow_add-result : goal.overflow_add-result
overflow_add-result c = omega (arith, trailing_le 8 c.args.mask)

pub returns : goal.returns
returns c = zeros-are _ (search rules) c.requires
