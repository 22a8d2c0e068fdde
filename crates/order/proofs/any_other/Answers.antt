-- `order::any_other` meets its contract. Assumes nothing.
use native.Mathlib.Omega.{arith}
use mathlib.Core.Path.{sym, ap, ◌∙◌}
use borrow.Author.Rules.{rules}
use Rattle.rules.proofs.Loops.{failed-none, failed-more, found-there, found_nowhere}
use Rattle.rules.specs.Tables.{places}
use Rattle.rules.specs.Order.{other}
use Rattle.order.specs.Holders.{any_other}
use Rattle.order.proofs.any_other.Goals as goal

pub loop-place-init : goal.loop-place-init
loop-place-init c = failed-none _ 0

pub holder-requires : goal.holder-requires
unfolding places
holder-requires c = omega (arith, c.places-place-end.ensures)

pub returns-then-other : goal.returns-then-other
unfolding any_other
returns-then-other c =
    found-there _ 0 _ _ (search rules) (omega (arith, c.places-place-end.ensures)) (ap (other _) (sym c.holder.ensures) ∙ sym c.other.ensures ∙ c.if-other.true)

pub loop-place-preserved : goal.loop-place-preserved
loop-place-preserved c = failed-more _ 0 _ c.loop-place.invariant (ap (other _) (sym c.holder.ensures) ∙ sym c.other.ensures ∙ c.if-other.false)

pub returns : goal.returns
unfolding any_other
returns c = found_nowhere _ 0 _ _ c.loop-place.invariant (omega (arith, c.places-place-end.ensures))
