-- `order::check` meets its contract. Assumes nothing.
use Rattle.order.proofs.Ends.{check-ends}
use Rattle.order.proofs.check.Goals as goal

pub returns : goal.returns
returns c elements rest buffer = check-ends _ _ _ _ _ _ _ c.note.ensures elements rest buffer c.told.ensures
