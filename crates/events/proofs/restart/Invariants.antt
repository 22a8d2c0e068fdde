-- `events::restart` meets its contract. Assumes nothing.
use Rattle.rules.proofs.Loops.{Turned}
use Rattle.events.specs.Restarted.{restarted_at}
use Rattle.events.proofs.restart.Given as goal

abbrev pub invariant-loop-number : goal.invariant-loop-number
invariant-loop-number l = Turned restarted_at 1 l.initial.head l.head l.number
