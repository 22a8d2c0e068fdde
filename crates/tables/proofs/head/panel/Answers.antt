-- `tables::head::panel` meets its contract. Assumes nothing.
use Rattle.rules.specs.Tables.{panel}
use Rattle.std.proofs.Common.{rules}
use Rattle.tables.proofs.head.panel.Goals as goal

pub returns : goal.returns
unfolding panel
returns c = search rules
