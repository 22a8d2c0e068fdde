-- `order::conflict` meets its contract. Assumes nothing.
use Rattle.order.proofs.Ends.{conflict-ends}
use Rattle.order.proofs.conflict.Goals as goal

pub returns : goal.returns
returns c elements rest buffer = conflict-ends _ _ _ _ c.wipe.ensures elements rest buffer c.told.ensures
