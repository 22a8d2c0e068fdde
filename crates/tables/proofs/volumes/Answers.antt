-- `tables::volumes` meets its contract. Assumes nothing.
use Rattle.std.proofs.Common.{refl}
use Rattle.rules.specs.Tables.{volumes}
use Rattle.tables.proofs.volumes.Goals as goal

pub returns : goal.returns
unfolding volumes
returns c = refl
