-- `tables::element::hold` meets its contract. Assumes nothing.
use Rattle.rules.specs.Tables.{held_at}
use Rattle.std.proofs.Common.{rules}
use Rattle.tables.proofs.element.hold.Goals as goal

pub returns : goal.returns
unfolding held_at
returns c = search rules
