-- `log_line::number` meets its contract. Assumes nothing.
use mathlib.Core.Path.{sym, ◌∙◌}
use native.Mathlib.Omega.{arith}
use Rattle.log_line.proofs.Numbers.{zero-first, starts, ended, found, zero, no_digit, too_large, goes_on}
use Rattle.log_line.proofs.number.Goals as goal
use Rattle.log_line.proofs.number.Goals.{then-b-ne-TAB-via-then-b-ne-TAB, then-b-ne-TAB-via-else-b-ne-TAB+then-value-eq0}

pub returns-then-starts_with : goal.returns-then-starts_with
returns-then-starts_with c = zero-first _ (sym c.starts_with.ensures.value ∙ c.if-starts_with.true)

pub loop-end-init : goal.loop-end-init
loop-end-init c = starts _ (sym c.starts_with.ensures.value ∙ c.if-starts_with.false)

pub returns-then-b-ne-TAB : goal.returns-then-b-ne-TAB
returns-then-b-ne-TAB c =
    elim c.then-b-ne-TAB.branch [
      | then-b-ne-TAB-via-then-b-ne-TAB w ↦ no_digit _ _ _ c.loop-end.invariant c.loop-end-test.true _ c.value_of-d.ensures c.if-d-gt9.true w.if-b-ne-TAB.true
      | then-b-ne-TAB-via-else-b-ne-TAB+then-value-eq0 w ↦ zero _ _ _ c.loop-end.invariant c.loop-end-test.true w.if-b-ne-TAB.false w.if-value-eq0.true
    ]

pub returns-then-d-gt9 : goal.returns-then-d-gt9
returns-then-d-gt9 c =
    found _ _ _ c.loop-end.invariant c.loop-end-test.true c.if-b-ne-TAB.false c.if-value-eq0.false

pub returns-then-value-gt-LARGEST : goal.returns-then-value-gt-LARGEST
returns-then-value-gt-LARGEST c =
    too_large _ _ _ c.loop-end.invariant c.loop-end-test.true _ c.value_of-d.ensures c.if-d-gt9.false (omega (arith, c.from.ensures, c.if-value-gt-LARGEST.true))

pub loop-end-preserved : goal.loop-end-preserved
loop-end-preserved c =
    rw c.from.ensures (goes_on _ _ _ c.loop-end.invariant c.loop-end-test.true _ c.value_of-d.ensures c.if-d-gt9.false (omega (arith, c.from.ensures, c.if-value-gt-LARGEST.false)))

pub returns : goal.returns
returns c = ended _ _ _ c.loop-end.invariant c.loop-end-test.false
