-- `ports::present` meets its contract. Assumes nothing.
use native.Mathlib.Omega.{arith}
use mathlib.Core.Path.{sym, ◌∙◌}
use borrow.Author.Tests.{eq-eqb, ne_eqb}
use Rattle.rules.proofs.Loops.{failed-none, failed-more, found-there, found_nowhere}
use Rattle.rules.specs.Tables.{places}
use Rattle.rules.specs.Events.{present}
use Rattle.ports.proofs.present.Goals as goal

pub loop-place-init : goal.loop-place-init
loop-place-init c = failed-none _ 0

pub volume-requires : goal.volume-requires
unfolding places
volume-requires c = omega arith

pub returns-then-volume : goal.returns-then-volume
unfolding present
returns-then-volume c =
    found-there _ 0 _ _ (omega arith) (omega (arith, c.places-place-end.ensures)) (eq-eqb _ _ (sym c.volume.ensures ∙ c.if-volume.true))

pub loop-place-preserved : goal.loop-place-preserved
loop-place-preserved c =
    failed-more _ 0 _ c.loop-place.invariant (ne_eqb _ _ (λ e. c.if-volume.false (c.volume.ensures ∙ e)))

pub returns : goal.returns
unfolding present
returns c = found_nowhere _ 0 _ _ c.loop-place.invariant (omega (arith, c.places-place-end.ensures))
