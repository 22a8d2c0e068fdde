-- `tables::element::id` meets its contract. Assumes nothing.
use Rattle.rules.specs.Bytes.{byte}
use Rattle.rules.specs.Tables.{id}
use Rattle.std.proofs.Common.{rules}
use Rattle.tables.proofs.element.id.Goals as goal

pub returns : goal.returns
unfolding id byte
returns c = search rules
