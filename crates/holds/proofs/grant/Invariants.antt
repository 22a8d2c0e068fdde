-- `holds::grant`: at the loop's head the elements before this place are settled. Assumes nothing.
use Rattle.rules.proofs.Loops.{Turned}
use Rattle.holds.specs.Judged.{settled_at}
use Rattle.holds.proofs.grant.Given as goal

abbrev pub invariant-loop-place : goal.invariant-loop-place
invariant-loop-place l = Turned (settled_at l.marks l.claim.host l.claim.id) 0 l.initial.elements l.elements l.place
