-- `arms::open_in`: at the loop's head the first k are held by other hosts. Assumes nothing.
use Rattle.arms.proofs.Open.{Held}
use Rattle.arms.proofs.open_in.Given as goal

abbrev pub invariant-loop-k : goal.invariant-loop-k
invariant-loop-k l = Held l.host l.elements l.r l.place l.none l.k
