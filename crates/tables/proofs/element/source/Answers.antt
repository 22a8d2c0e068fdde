-- `tables::element::source` meets its contract. Assumes nothing.
use Rattle.rules.specs.Tables.{source}
use Rattle.std.proofs.Common.{rules}
use Rattle.tables.proofs.element.source.Goals as goal

pub returns : goal.returns
unfolding source
returns c = search rules
