-- `tables::element::holder` meets its contract. Assumes nothing.
use Rattle.rules.specs.Bytes.{byte}
use Rattle.rules.specs.Tables.{holder}
use Rattle.std.proofs.Common.{rules}
use Rattle.tables.proofs.element.holder.Goals as goal

pub returns : goal.returns
unfolding holder byte
returns c = search rules
