-- `tables::head::attentionq` meets its contract. Assumes nothing.
use Rattle.rules.specs.Bytes.{byte}
use Rattle.rules.specs.Tables.{attentionq}
use Rattle.tables.proofs.head.attentionq.Goals as goal

pub returns : goal.returns
unfolding attentionq byte
returns c = rw c.attention_at.ensures
