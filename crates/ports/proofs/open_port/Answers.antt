-- `ports::open_port` meets its contract. Assumes nothing.
use mathlib.Core.Path.{refl, sym}
use Rattle.rules.proofs.Ladder.{eq_is, eq-not}
use Rattle.ports.specs.Judged.{port_by}
use Rattle.ports.proofs.open_port.Goals as goal

pub returns-in_default : goal.returns-in_default
unfolding port_by
returns-in_default c = rw (sym c.find.ensures, c.in_default.is) refl

pub returns-then-mask-ne0 : goal.returns-then-mask-ne0
unfolding port_by
returns-then-mask-ne0 c =
    rw (sym c.find.ensures, c.in-Some.is, sym c.mask-mask.ensures, c.prevented.ensures) (eq-not _ _ _ _ _ c.if-mask-ne0.true refl)

pub returns : goal.returns
unfolding port_by
returns c =
    rw (sym c.find.ensures, c.in-Some.is, sym c.mask-mask.ensures) (eq_is _ _ _ _ _ c.if-mask-ne0.false refl)
