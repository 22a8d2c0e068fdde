-- `case_text::number::value` meets its contract. Assumes nothing.
use native.Mathlib.Omega.{arith}
use mathlib.Core.Path.{sym, ◌∙◌}
use borrow.Author.Rules.{rules}
use Rattle.case_text.proofs.Values.{value-stops, value-goes, value-ends, some-digits}
use Rattle.case_text.proofs.number.value.Goals as goal

pub returns-in_err-n : goal.returns-in_err-n
returns-in_err-n c =
    value-stops _ _ _ _ c.loop-b-test.true _ c.longer.ensures _ c.in_err-n.was _ (search rules)
    ∙ sym c.loop-b.invariant ∙ some-digits _ _ (sym c.is_empty.ensures ∙ c.if-is_empty.false)

pub loop-b-preserved : goal.loop-b-preserved
loop-b-preserved c = c.loop-b.invariant ∙ value-goes _ _ _ _ c.loop-b-test.true _ c.longer.ensures _ c.in_ok-n.was

pub returns : goal.returns
returns c =
    sym (value-ends c.args.base c.args.digits.now c.loop-b.b-index c.loop-b.n (omega arith))
    ∙ sym c.loop-b.invariant ∙ some-digits _ _ (sym c.is_empty.ensures ∙ c.if-is_empty.false)
