-- `tables::lies_in` meets its contract. Assumes nothing.
use Rattle.std.proofs.Common.{rules, refl}
use Rattle.tables.proofs.Spots.{lies-wrapped}
use Rattle.tables.proofs.lies_in.Goals as goal

pub returns : goal.returns
returns c = lies-wrapped _ _ _ refl (search rules) (search rules) (search rules) (search rules)
