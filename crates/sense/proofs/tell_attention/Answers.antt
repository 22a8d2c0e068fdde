-- `sense::tell_attention` meets its contract. Assumes nothing.
use Rattle.rules.specs.Tables.{NewAttention, in_head}
use Rattle.sense.specs.Judged.{meaning}
use Rattle.sense.proofs.Answering.{tells}
use Rattle.sense.proofs.tell_attention.Goals as goal

pub returns : goal.returns
unfolding meaning in_head
returns c = λ elements rest.
    tells _ _ _ _ _ _ _ _ _ (NewAttention _ 0 0) c.requires.count_le_whole c.told.ensures (rw c.attention_of-codes.ensures at c.tell.ensures) c.attend.ensures
