-- `events::announce` meets its contract. Assumes nothing.
use Rattle.rules.proofs.Loops.{Turned}
use Rattle.rules.specs.Tables.{announced_to}
use Rattle.events.proofs.announce.Given as goal

abbrev pub invariant-loop-number : goal.invariant-loop-number
invariant-loop-number l = Turned (announced_to l.asc l.ascq) 1 l.initial.head l.head l.number
