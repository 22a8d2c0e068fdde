-- `holds::grant`: at the loop's head the elements before this place are settled. Assumes nothing.
use native.Mathlib.Omega.{arith}
use Rattle.rules.proofs.Loops.{turned_none, turned_more, turned-all}
use Rattle.rules.specs.Tables.{places}
use Rattle.holds.specs.Judged.{settled}
use Rattle.holds.proofs.grant.Goals as goal

pub loop-place-init : goal.loop-place-init
loop-place-init c = turned_none _ 0 _

pub settle-requires-clause-element_size_in_bounds : goal.settle-requires-clause-element_size_in_bounds
unfolding places
settle-requires-clause-element_size_in_bounds c = omega (arith, c.places-place-end.ensures, c.loop-place.invariant.kept)

pub loop-place-preserved : goal.loop-place-preserved
loop-place-preserved c = turned_more _ 0 _ _ _ c.loop-place.invariant _ c.settle.ensures c.settle.auto.elements

pub returns : goal.returns
unfolding settled
returns c = turned-all _ 0 _ _ _ c.loop-place.invariant _ (omega (arith, c.places-place-end.ensures))
