-- `frees::free` meets its contract. Assumes nothing.
use native.Mathlib.Omega.{arith}
use Rattle.rules.proofs.Loops.{turned_none, turned_more, turned-all}
use Rattle.rules.specs.Tables.{places, freed}
use Rattle.frees.proofs.free.Goals as goal

pub loop-p-init : goal.loop-p-init
loop-p-init c = turned_none _ 0 _

pub free_at-requires : goal.free_at-requires
unfolding places
free_at-requires c = omega (arith, c.places-p-end.ensures)

pub loop-p-preserved : goal.loop-p-preserved
loop-p-preserved c = turned_more _ 0 _ _ _ c.loop-p.invariant _ c.free_at.ensures c.free_at.auto.elements

pub returns : goal.returns
unfolding freed
returns c = turned-all _ 0 _ _ _ c.loop-p.invariant _ (omega (arith, c.places-p-end.ensures))
