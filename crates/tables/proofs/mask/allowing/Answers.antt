-- `tables::mask::allowing` meets its contract. Assumes nothing.
use Rattle.tables.proofs.Masks.{bit-pos, bit_le, allow-set, allow-clear}
use Rattle.tables.proofs.mask.allowing.Goals as goal

pub nonzero_div-mask : goal.nonzero_div-mask
nonzero_div-mask c = rw c.host_bit-bit.ensures (bit-pos _)

pub overflow_sub-result : goal.overflow_sub-result
overflow_sub-result c = bit_le _ _ c.if-mask-bit-eq1.true

pub returns-then-mask-bit-eq1 : goal.returns-then-mask-bit-eq1
returns-then-mask-bit-eq1 c = allow-set _ _ _ c.host_bit-bit.ensures c.if-mask-bit-eq1.true

pub returns : goal.returns
returns c = allow-clear _ _ _ c.host_bit-bit.ensures c.if-mask-bit-eq1.false
