-- `frees::free`: at the loop's head the elements before p are freed. Assumes nothing.
use Rattle.rules.proofs.Loops.{Turned}
use Rattle.rules.specs.Tables.{freed_at}
use Rattle.frees.specs.Freed.{whose}
use Rattle.frees.proofs.free.Given as goal

abbrev pub invariant-loop-p : goal.invariant-loop-p
invariant-loop-p l = Turned (freed_at (whose l.w)) 0 l.initial.elements l.elements l.p
