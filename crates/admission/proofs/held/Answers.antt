-- `admission::held` meets its contract. Assumes nothing.
use mathlib.Core.Path.{sym, ap, ◌∙◌}
use Rattle.rules.specs.Order.{other}
use Rattle.admission.specs.Admitting.{held, held_in}
use Rattle.admission.proofs.held.Goals as goal

pub returns-in-Nothing : goal.returns-in-Nothing
unfolding held held_in
returns-in-Nothing c = rw (sym c.reach_of-far.ensures, c.in-Nothing.is)

pub returns-in-Unit : goal.returns-in-Unit
unfolding held held_in
returns-in-Unit c =
    rw (sym c.reach_of-far.ensures, c.in-Unit.is) (c.other.ensures ∙ ap (other _) c.unit.ensures)

pub returns-in-Elements : goal.returns-in-Elements
unfolding held held_in
returns-in-Elements c =
    rw (sym c.reach_of-far.ensures, c.in-Elements.is) c.others_hold.ensures
