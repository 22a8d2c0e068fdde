-- `numbers::parameters_fit` meets its contract. Assumes nothing.
use native.Mathlib.Omega.{arith}
use Rattle.operation.specs.Meaning.{meaning}
use Rattle.operation.proofs.Lengths.{sized}
use Rattle.numbers.proofs.parameters_fit.Goals as goal

pub word_at-requires : goal.word_at-requires
unfolding meaning
word_at-requires c = omega (arith, sized _ _ _ c.requires c.in-Reserve.is)

pub word_at-requires-in-SendVolumeTag : goal.word_at-requires-in-SendVolumeTag
unfolding meaning
word_at-requires-in-SendVolumeTag c = omega (arith, sized _ _ _ c.requires c.in-SendVolumeTag.is)
