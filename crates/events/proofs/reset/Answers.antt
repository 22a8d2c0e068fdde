-- `events::reset` meets its contract. Assumes nothing.
use Rattle.events.proofs.Resets.{reset-ends}
use Rattle.events.proofs.reset.Goals as goal

pub returns : goal.returns
returns c = λ rest s.
    reset-ends _ _ _ _ _ _ c.hold_unit.ensures c.free.ensures c.forget.ensures c.set_mask.ensures
    c.restart.ensures s _ c.told.ensures
