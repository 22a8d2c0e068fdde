-- `log_line::number` meets its contract. Assumes nothing.
use Rattle.log_line.proofs.Numbers.{Counting}
use Rattle.log_line.proofs.number.Given as goal

abbrev pub invariant-loop-end : goal.invariant-loop-end
invariant-loop-end l = Counting l.text l.value l.end
