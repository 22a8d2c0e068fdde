-- `ports::present` meets its contract. Assumes nothing.
use lib.Dec.{eqb}
use Rattle.rules.proofs.Loops.{Failed}
use Rattle.ports.proofs.present.Given as goal

abbrev pub invariant-loop-place : goal.invariant-loop-place
invariant-loop-place l = Failed (λ p. eqb (Rattle.rules.specs.Tables.volume l.elements p) l.volume) 0 l.place
