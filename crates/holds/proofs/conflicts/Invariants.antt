-- `holds::conflicts`: the descriptors before this one name no taken element, nor do the places before this one. Assumes nothing.
use Rattle.std.proofs.Common.{◌≡◌, false, get_or}
use Rattle.rules.proofs.Loops.{Failed}
use Rattle.rules.specs.Holds.{taken}
use Rattle.holds.specs.Judged.{nowhere, taken_of}
use Rattle.holds.proofs.conflicts.Given as goal

abbrev pub invariant-judged : goal.invariant-judged
invariant-judged l = (l.conflict ≡ false) × Failed (taken_of l.elements l.claim.host l.claim.id l.spans) 0 l.span-index

abbrev pub invariant-loop-place : goal.invariant-loop-place
invariant-loop-place l = (l.conflict ≡ false) × Failed (taken l.elements l.claim.host l.claim.id) (get_or l.spans l.span-index nowhere).first l.place
