-- `sound::element::run_sound`: at the loop's head the places before this one are passed, and their volumes marked. Assumes nothing.
use Rattle.tables.specs.Ranges.{meaning}
use Rattle.sound.proofs.Pass.{Passing}
use Rattle.sound.proofs.element.run_sound.Given as goal

abbrev pub invariant-loop-place : goal.invariant-loop-place
invariant-loop-place l = Passing l.unit.holder l.unit.top (meaning l.unit.shelves) l.elements l.kind l.first l.end l.seen.words l.empty l.place
