-- `form::list_fault` meets its contract. Assumes nothing.
use mathlib.Core.Path.{ap}
use Rattle.rules.specs.Bytes.{byte}
use Rattle.rules.specs.Holds.{of_unit}
use Rattle.rules.specs.Form.{own_fault}
use Rattle.rules.proofs.Ladder.{ladder}
use Rattle.form.specs.Faults.{byte_at}
use Rattle.form.proofs.list_fault.Goals as goal

pub returns-then-list-ne0 : goal.returns-then-list-ne0
unfolding own_fault of_unit byte
returns-then-list-ne0 c = λ head. ap byte_at {x = 3} (search ladder depth 10)

pub returns-else-list-ne0 : goal.returns-else-list-ne0
unfolding own_fault of_unit byte
returns-else-list-ne0 c = λ head. ap byte_at {x = 0} (search ladder depth 10)

pub returns-else-block-eq0 : goal.returns-else-block-eq0
unfolding own_fault of_unit byte
returns-else-block-eq0 c = λ head. ap byte_at {x = 0} (search ladder depth 10)
