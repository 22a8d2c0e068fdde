-- `order::any_other`: at the loop's head no other host holds an element before the place. Assumes nothing.
use Rattle.rules.proofs.Loops.{Failed}
use Rattle.rules.specs.Tables.{holder}
use Rattle.rules.specs.Order.{other}
use Rattle.order.proofs.any_other.Given as goal

abbrev pub invariant-loop-place : goal.invariant-loop-place
invariant-loop-place l = Failed (λ q. other l.host (holder l.elements q)) 0 l.place
