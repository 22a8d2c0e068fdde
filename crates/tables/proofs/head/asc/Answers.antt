-- `tables::head::asc` meets its contract. Assumes nothing.
use Rattle.rules.specs.Bytes.{byte}
use Rattle.rules.specs.Tables.{asc}
use Rattle.tables.proofs.head.asc.Goals as goal

pub returns : goal.returns
unfolding asc byte
returns c = rw c.host_at.ensures
