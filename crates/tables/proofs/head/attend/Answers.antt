-- `tables::head::attend` meets its contract. Assumes nothing.
use Rattle.std.proofs.Common.{◌∙◌}
use Rattle.rules.specs.Tables.{attended}
use Rattle.tables.proofs.head.attend.Goals as goal

pub returns : goal.returns
unfolding attended
returns c = c.put.ensures ∙ rw c.attention_at.ensures
