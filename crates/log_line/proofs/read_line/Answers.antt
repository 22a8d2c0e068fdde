-- `log_line::read_line` meets its contract. Assumes nothing.
use mathlib.Core.Path.{◌∙◌}
use Rattle.log_line.proofs.Reach.{read-reach, within-reach}
use Rattle.log_line.proofs.read_line.Goals as goal

pub returns-clause-list_after : goal.returns-clause-list_after
returns-clause-list_after c = c.fields.ensures.list_after ∙ read-reach _ _ c.min-reach.ensures

pub returns-clause-within : goal.returns-clause-within
returns-clause-within c = within-reach _ _ c.min-reach.ensures _ _ _ c.fields.ensures.within
