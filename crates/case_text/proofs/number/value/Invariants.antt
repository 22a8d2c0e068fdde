-- `case_text::number::value` meets its contract. Assumes nothing.
use Rattle.std.proofs.Common.{◌≡◌, drop}
use Rattle.case_text.specs.Numbers.{value_from}
use Rattle.case_text.proofs.number.value.Given as goal

-- what the digits say is what those from here on say behind the number so far
abbrev pub invariant-loop-b : goal.invariant-loop-b
invariant-loop-b l = value_from l.base l.digits 0 ≡ value_from l.base (drop l.b-index l.digits) l.n
