-- `tables::runs` meets its contract. Assumes nothing.
use Rattle.std.proofs.Common.{◌∙◌}
use Rattle.tables.proofs.runs.Goals as goal

pub returns : goal.returns
returns c = c.sorted.ensures ∙ rw c.ranges-2.ensures
