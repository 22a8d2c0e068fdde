-- `tables::element::volume` meets its contract. Assumes nothing.
use Rattle.rules.specs.Tables.{volume}
use Rattle.std.proofs.Common.{rules}
use Rattle.tables.proofs.element.volume.Goals as goal

pub returns : goal.returns
unfolding volume
returns c = search rules
