-- `arms::open_in`: at the loop's head the first k are held by other hosts. Assumes nothing.
use Rattle.arms.proofs.Open.{none_in, held_none, held_found, held_on, held_all}
use Rattle.arms.proofs.open_in.Goals as goal

pub returns-then-r-ne-TRANSPORT : goal.returns-then-r-ne-TRANSPORT
returns-then-r-ne-TRANSPORT c = none_in _ _ _ _ _ _ _ c.if-r-ne-TRANSPORT.true

pub loop-k-init : goal.loop-k-init
loop-k-init c = held_none _ _ _ _ _ c.if-r-ne-TRANSPORT.false

pub returns-then-not-place_held : goal.returns-then-not-place_held
returns-then-not-place_held c =
    held_found _ _ _ _ _ _ c.loop-k.invariant c.loop-k-test.true _ c.place_held.ensures c.if-not-place_held.true

pub loop-k-preserved : goal.loop-k-preserved
loop-k-preserved c =
    held_on _ _ _ _ _ _ c.loop-k.invariant c.loop-k-test.true _ c.place_held.ensures c.if-not-place_held.false

pub returns : goal.returns
returns c = held_all _ _ _ _ _ _ c.loop-k.invariant c.loop-k-test.false
