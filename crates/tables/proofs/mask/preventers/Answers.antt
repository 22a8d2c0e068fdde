-- `tables::mask::preventers` meets its contract. Assumes nothing.
use Rattle.std.proofs.Common.{arith, rules}
use lib.Count.{ones-le}
use Rattle.tables.proofs.Masks.{ones-are}
use Rattle.tables.proofs.mask.preventers.Goals as goal

pub overflow_cast-result : goal.overflow_cast-result
overflow_cast-result c = omega (arith, ones-le 8 c.args.mask (search rules))

pub returns : goal.returns
returns c = ones-are _ (search rules)
