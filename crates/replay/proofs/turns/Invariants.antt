-- `replay::turns` meets its contract. Assumes nothing.
use Rattle.replay.proofs.Ways.{Going}
use Rattle.replay.proofs.turns.Given as goal

abbrev pub invariant-loop-lines : goal.invariant-loop-lines
invariant-loop-lines l =
    Going l.initial.head l.initial.elements l.fixed l.initial.search l.log l.expected l.budget l.runs l.head l.elements l.search l.lines l.place l.next
