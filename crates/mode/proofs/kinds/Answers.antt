-- `mode::kinds` meets its contract. Assumes nothing.
use Rattle.mode.specs.Judged.{kinds}
use Rattle.mode.proofs.kinds.Goals as goal

pub returns : goal.returns
unfolding kinds
returns c = c.put.ensures
