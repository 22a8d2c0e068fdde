-- `order::good` meets its contract. Assumes nothing.
use Rattle.order.proofs.Ends.{good-ends}
use Rattle.order.proofs.good.Goals as goal

pub returns : goal.returns
returns c elements rest buffer = good-ends _ _ _ _ c.wipe.ensures elements rest buffer c.told.ensures
