-- `tables::head::ascq` meets its contract. Assumes nothing.
use Rattle.rules.specs.Bytes.{byte}
use Rattle.rules.specs.Tables.{ascq}
use Rattle.tables.proofs.head.ascq.Goals as goal

pub returns : goal.returns
unfolding ascq byte
returns c = rw c.host_at.ensures
