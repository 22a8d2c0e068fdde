-- `events::restart_host` meets its contract. Assumes nothing.
use mathlib.Core.Path.{◌∙◌}
use Rattle.rules.specs.Tables.{changes, change, in_head}
use Rattle.rules.specs.Events.{restarted_from}
use Rattle.events.specs.Restarted.{restarted_at}
use Rattle.events.proofs.restart_host.Goals as goal

pub returns : goal.returns
unfolding restarted_at restarted_from changes change in_head
returns c = c.attend.ensures ∙ rw c.wipe.ensures
