-- `log_line::decode` meets its contract. Assumes nothing.
use Rattle.std.proofs.Common.{◌*◌}
use Rattle.log_line.proofs.Hexed.{Decoding}
use Rattle.log_line.proofs.decode.Given as goal

abbrev pub invariant-loop-n : goal.invariant-loop-n
invariant-loop-n l = Decoding l.mark l.text l.out l.n (l.n * 2)
