-- `tables::total` meets its contract. Assumes nothing.
use Rattle.tables.proofs.Roster.{total-is}
use Rattle.std.proofs.Common.{rules}
use Rattle.tables.proofs.total.Goals as goal

pub returns : goal.returns
returns c = record { value = total-is _ (search rules); upper_bound = search rules }
