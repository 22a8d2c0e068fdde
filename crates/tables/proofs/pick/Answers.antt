-- `tables::pick` meets its contract. Assumes nothing.
use Rattle.rules.proofs.Ladder.{ladder}
use Rattle.tables.proofs.pick.Goals as goal

pub returns-then-admits : goal.returns-then-admits
returns-then-admits c = search ladder depth 10

pub returns : goal.returns
returns c = search ladder depth 10
