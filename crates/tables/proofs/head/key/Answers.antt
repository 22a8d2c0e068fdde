-- `tables::head::key` meets its contract. Assumes nothing.
use Rattle.rules.specs.Bytes.{byte}
use Rattle.rules.specs.Tables.{key}
use Rattle.tables.proofs.head.key.Goals as goal

pub returns : goal.returns
unfolding key byte
returns c = rw c.host_at.ensures
