-- `sense::tell_sense` meets its contract. Assumes nothing.
use Rattle.rules.specs.Tables.{NewSense, in_head}
use Rattle.sense.specs.Judged.{meaning}
use Rattle.sense.proofs.Answering.{tells}
use Rattle.sense.proofs.tell_sense.Goals as goal

pub returns : goal.returns
unfolding meaning in_head
returns c = λ elements rest.
    tells _ _ _ _ _ _ _ _ _ (NewSense _ 0 0 0) c.requires.count_le_whole c.told.ensures (rw c.sense_of.ensures at c.tell.ensures) c.wipe.ensures
