-- `tables::head::mask` meets its contract. Assumes nothing.
use Rattle.rules.specs.Bytes.{byte}
use Rattle.rules.specs.Tables.{mask}
use Rattle.std.proofs.Common.{rules}
use Rattle.tables.proofs.head.mask.Goals as goal

pub returns : goal.returns
unfolding mask byte
returns c = search rules
