-- `tables::head::attention` meets its contract. Assumes nothing.
use Rattle.rules.specs.Bytes.{byte}
use Rattle.rules.specs.Tables.{attention}
use Rattle.tables.proofs.head.attention.Goals as goal

pub returns : goal.returns
unfolding attention byte
returns c = rw c.attention_at.ensures
