-- `tables::range_at` meets its contract. Assumes nothing.
use Rattle.std.proofs.Common.{add-one}
use Rattle.rules.specs.Roster.{range}
use Rattle.tables.proofs.range_at.Goals as goal

pub returns : goal.returns
unfolding range
returns c = rw (c.word_at.ensures, c.word_at-2.ensures, add-one)
