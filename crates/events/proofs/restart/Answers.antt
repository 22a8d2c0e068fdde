-- `events::restart` meets its contract. Assumes nothing.
use native.Mathlib.Omega.{arith}
use Rattle.rules.proofs.Loops.{turned_none, turned_more, turned-all}
use Rattle.rules.specs.Tables.{hosts}
use Rattle.events.proofs.Resets.{restarted-is}
use Rattle.events.proofs.restart.Goals as goal

pub loop-number-init : goal.loop-number-init
loop-number-init c = turned_none _ 1 _

pub loop-number-preserved : goal.loop-number-preserved
loop-number-preserved c = turned_more _ 1 _ _ _ c.loop-number.invariant _ c.restart_host.ensures c.restart_host.auto.head

pub shape_of-head : goal.shape_of-head
shape_of-head c = c.loop-number.invariant.kept

pub returns : goal.returns
returns c = λ elements rest.
    rw (turned-all _ 1 _ _ _ c.loop-number.invariant hosts (omega arith)) (restarted-is hosts 1 _ elements rest)
