-- `tables::mask::host_bit` meets its contract. Assumes nothing.
use Rattle.tables.proofs.Masks.{bit_is}
use Rattle.tables.proofs.mask.host_bit.Goals as goal

pub returns : goal.returns
returns c = bit_is _ c.requires.0 c.requires.1
