-- `tables::mask::preventing` meets its contract. Assumes nothing.
use Rattle.tables.proofs.Masks.{bit-pos, prevent-set, prevent-clear, prevent-fits}
use Rattle.std.proofs.Common.{rules}
use Rattle.tables.proofs.mask.preventing.Goals as goal

pub nonzero_div-mask : goal.nonzero_div-mask
nonzero_div-mask c = rw c.host_bit-bit.ensures (bit-pos _)

pub returns-then-mask-bit-eq1 : goal.returns-then-mask-bit-eq1
returns-then-mask-bit-eq1 c = prevent-set _ _ _ c.host_bit-bit.ensures c.if-mask-bit-eq1.true

pub overflow_add-result : goal.overflow_add-result
overflow_add-result c = record { fits = prevent-fits _ _ _ c.host_bit-bit.ensures (search rules) c.requires.0 c.requires.1 c.if-mask-bit-eq1.false }

pub returns : goal.returns
returns c = prevent-clear _ _ _ c.host_bit-bit.ensures c.if-mask-bit-eq1.false
