-- `search::mark_found`: at the loop's head so many runs are marked, which have the places before `place`. Assumes nothing.
use Rattle.search.proofs.Marking.{Marking}
use Rattle.search.proofs.mark_found.Given as goal

abbrev pub invariant-loop-r : goal.invariant-loop-r
invariant-loop-r l = Marking l.r-items l.elements l.tags l.search l.initial.marks l.marks l.place l.r-index
