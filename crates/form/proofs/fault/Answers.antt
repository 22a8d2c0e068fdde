-- `form::fault` meets its contract. Assumes nothing.
use Rattle.rules.specs.Form.{fault}
use Rattle.form.proofs.fault.Goals as goal

pub returns : goal.returns
unfolding fault
returns c = c.lower.ensures _ _ c.unused.ensures c.own_fault.ensures
