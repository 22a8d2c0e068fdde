-- `admission::others_hold` meets its contract. Assumes nothing.
use mathlib.Core.Path.{ap, ◌∙◌}
use Rattle.rules.specs.Order.{other}
use Rattle.rules.proofs.Rungs.{hit, pass, only}
use Rattle.admission.specs.Admitting.{others_hold}
use Rattle.admission.proofs.others_hold.Goals as goal

pub returns-then-other : goal.returns-then-other
unfolding others_hold
returns-then-other c = hit _ _ _ (c.other.ensures ∙ ap (other _) c.unit.ensures) c.if-other.true

pub returns : goal.returns
unfolding others_hold
returns c =
    pass _ _ _ _ (c.other.ensures ∙ ap (other _) c.unit.ensures) c.if-other.false (only _ _ c.any_other.ensures)
