-- `tables::element::zero_byte` meets its contract. Assumes nothing.
use Rattle.rules.specs.Bytes.{byte}
use Rattle.rules.specs.Tables.{zero_byte}
use Rattle.std.proofs.Common.{rules}
use Rattle.tables.proofs.element.zero_byte.Goals as goal

pub returns : goal.returns
unfolding zero_byte byte
returns c = search rules
