-- `lists::mark`: at the loop's head the places before p are marked, and none of them was. Assumes nothing.
use Rattle.rules.proofs.Loops.{Failed, Turned}
use Rattle.lists.specs.Named.{marked, mark_at}
use Rattle.lists.proofs.mark.Given as goal

abbrev pub invariant-loop-p : goal.invariant-loop-p
invariant-loop-p l = Turned mark_at l.fn.s.first l.initial.marks l.marks l.p × Failed (marked l.initial.marks) l.fn.s.first l.p
