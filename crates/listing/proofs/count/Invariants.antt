-- `listing::count` meets its contract: at the loop's head, the ranges from here on count to what all of them count to. Assumes nothing.
use Rattle.listing.proofs.Stages.{Counting}
use Rattle.listing.proofs.count.Given as goal

abbrev pub invariant-loop-r : goal.invariant-loop-r
invariant-loop-r l = Counting l.marks l.q l.initial.x l.r-items l.x l.r-index
