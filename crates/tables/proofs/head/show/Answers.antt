-- `tables::head::show` meets its contract. Assumes nothing.
use Rattle.rules.specs.Tables.{shown}
use Rattle.std.proofs.Common.{rules}
use Rattle.tables.proofs.head.show.Goals as goal

pub returns : goal.returns
unfolding shown
returns c = search rules
