-- `tables::spot_in` meets its contract. Assumes nothing.
use Rattle.tables.proofs.Spots.{lies-from}
use Rattle.tables.proofs.spot_in.Goals as goal

pub overflow_sub-within : goal.overflow_sub-within
overflow_sub-within c = (lies-from _ _ c.requires.address_value).0
