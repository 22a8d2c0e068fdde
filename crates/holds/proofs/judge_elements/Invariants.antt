-- `holds::judge_elements`: at the loop's head the first k descriptors had no fault, what they name is marked, and where it begins and ends is
-- kept. Assumes nothing.
use Rattle.tables.specs.Ranges.{laid}
use Rattle.holds.proofs.Turns.{Turning}
use Rattle.holds.proofs.judge_elements.Given as goal

abbrev pub invariant-loop-k : goal.invariant-loop-k
invariant-loop-k l = Turning (laid l.runs) l.elements l.claim.host l.claim.id l.list l.n l.marks l.spans l.k
