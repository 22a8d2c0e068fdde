-- `fitting::drive_takes` meets its contract. Assumes nothing.
use Rattle.fitting.proofs.Bit.{taken-by}
use Rattle.fitting.proofs.drive_takes.Goals as goal

pub returns : goal.returns
returns c =
    taken-by _ _ _ _ _ _ _ _ c.byte_or_none-mask.ensures c.saturating_sub.ensures c.byte_or_none-generation.ensures c.takes.ensures
