-- `tables::element::mark` meets its contract. Assumes nothing.
use Rattle.rules.specs.Bytes.{byte}
use Rattle.rules.specs.Tables.{mark}
use Rattle.std.proofs.Common.{rules}
use Rattle.tables.proofs.element.mark.Goals as goal

pub returns : goal.returns
unfolding mark byte
returns c = search rules
