-- `search::mark_places`: at the loop's head the places before p are looked at. Assumes nothing.
use Rattle.search.proofs.Places.{Placed}
use Rattle.search.proofs.mark_places.Given as goal

abbrev pub invariant-loop-p : goal.invariant-loop-p
invariant-loop-p l = Placed l.elements l.tags l.template.search.now l.first l.initial.marks l.marks l.p
