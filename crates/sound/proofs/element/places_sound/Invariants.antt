-- `sound::element::places_sound`: at the loop's head the runs before this one are passed, and the places before `first`. Assumes nothing.
use Rattle.tables.specs.Ranges.{meaning}
use Rattle.sound.proofs.Pass.{Filing}
use Rattle.sound.proofs.element.places_sound.Given as goal

abbrev pub invariant-loop-r : goal.invariant-loop-r
invariant-loop-r l = Filing l.unit.holder l.unit.top (meaning l.unit.shelves) l.fn.runs l.elements l.seen.words l.empty_shelves l.first l.r-index
