-- `tables::ranges` meets its contract. Assumes nothing.
use Rattle.rules.specs.Roster.{ranges}
use Rattle.tables.specs.Ranges.{meant}
use Rattle.tables.proofs.ranges.Goals as goal

pub returns : goal.returns
unfolding ranges meant
returns c = rw (c.range_at.ensures, c.range_at-2.ensures, c.range_at-3.ensures, c.range_at-4.ensures)
