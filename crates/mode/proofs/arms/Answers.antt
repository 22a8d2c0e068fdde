-- `mode::arms` meets its contract. Assumes nothing.
use mathlib.Core.Path.{◌≡◌, sym}
use native.Mathlib.Omega.{arith}
use Rattle.rules.specs.Mode.{members}
use Rattle.rules.proofs.Writes.{put-nothing, put_then}
use Rattle.mode.proofs.Pages.{members-length, members-more}
use Rattle.mode.proofs.arms.Goals as goal

pub loop-i-init : goal.loop-i-init
unfolding members
loop-i-init c = sym (put-nothing _ _)

pub loop-i-preserved : goal.loop-i-preserved
loop-i-preserved c =
    let l = c.loop-i in
    rw (members-more l.i) (put_then _ _ _ _ _ _ _ l.invariant c.put.ensures (omega (arith, members-length l.i 0)))

pub returns : goal.returns
returns c =
    let e : c.loop-i.i ≡ c.args.n = omega arith in
    rw (← e) c.loop-i.invariant
