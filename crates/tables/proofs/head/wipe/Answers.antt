-- `tables::head::wipe` meets its contract. Assumes nothing.
use Rattle.std.proofs.Common.{◌∙◌}
use Rattle.rules.specs.Tables.{sensed}
use Rattle.tables.proofs.head.wipe.Goals as goal

pub returns : goal.returns
unfolding sensed
returns c = c.wipe.ensures ∙ rw c.host_at.ensures
