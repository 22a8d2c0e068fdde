-- `form::stray` meets its contract: the loop's invariant is that the masks passed found nothing. Assumes nothing.
use mathlib.Core.Path.{ap, ◌∙◌}
use native.Mathlib.Omega.{arith}
use Rattle.form.specs.Faults.{byte_at}
use Rattle.form.proofs.Strays.{start, found, passed, finish}
use Rattle.form.proofs.Lowest.{some-at}
use Rattle.form.proofs.stray.Goals as goal

pub loop-i-init : goal.loop-i-init
loop-i-init c = start _ _

pub returns-then-block-i-ne0 : goal.returns-then-block-i-ne0
returns-then-block-i-ne0 c =
    some-at _ (λ e. omega arith) ∙ ap byte_at (found _ _ _ c.loop-i.invariant c.loop-i-test.true c.if-block-i-ne0.true)

pub loop-i-preserved : goal.loop-i-preserved
loop-i-preserved c = passed _ _ _ c.loop-i.invariant c.loop-i-test.true c.if-block-i-ne0.false

pub returns : goal.returns
returns c = ap byte_at (finish _ _ _ c.loop-i.invariant c.loop-i-test.false)
