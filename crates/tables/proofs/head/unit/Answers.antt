-- `tables::head::unit` meets its contract. Assumes nothing.
use Rattle.rules.specs.Bytes.{byte}
use Rattle.rules.specs.Tables.{unit}
use Rattle.std.proofs.Common.{rules}
use Rattle.tables.proofs.head.unit.Goals as goal

pub returns : goal.returns
unfolding unit byte
returns c = search rules
