-- `form::page_fault` meets its contract. Assumes nothing.
use mathlib.Core.Path.{refl, ap}
use Rattle.rules.specs.Form.{own_fault}
use Rattle.rules.proofs.Ladder.{yes, no}
use Rattle.form.specs.Faults.{byte_at}
use Rattle.form.proofs.page_fault.Goals as goal

pub returns-then-no_answer : goal.returns-then-no_answer
unfolding own_fault
returns-then-no_answer c = λ list. ap byte_at {x = 2} (yes _ _ _ _ _ c.no_answer.ensures c.if-no_answer.true refl)

pub returns : goal.returns
unfolding own_fault
returns c = λ list. ap byte_at {x = 0} (no _ _ _ _ _ c.no_answer.ensures c.if-no_answer.false refl)
