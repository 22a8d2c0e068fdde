-- `tables::head::note` meets its contract. Assumes nothing.
use Rattle.std.proofs.Common.{◌∙◌}
use Rattle.rules.specs.Tables.{sensed}
use Rattle.tables.proofs.head.note.Goals as goal

pub returns : goal.returns
unfolding sensed
returns c = c.note.ensures ∙ rw c.host_at.ensures
