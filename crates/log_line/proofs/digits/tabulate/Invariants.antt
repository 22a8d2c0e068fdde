-- `log_line::digits::tabulate` meets its contract. Assumes nothing.
use Rattle.std.proofs.Common.{◌≡◌, ℕ, ◌<◌, get_or}
use Rattle.rules.specs.Log.{digit}
use Rattle.log_line.proofs.digits.tabulate.Given as goal

abbrev pub invariant-loop-b : goal.invariant-loop-b
invariant-loop-b l = (j : ℕ) → j < l.b → get_or l.value-items j 0 ≡ digit j
