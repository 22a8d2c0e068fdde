-- `case_text::letters::all_letters` meets its contract. Assumes nothing.
use native.Mathlib.Omega.{arith}
use borrow.Author.Rules.{rules}
use Rattle.case_text.proofs.Buffers.{text-start, going_end, going-stop, going_on}
use Rattle.case_text.proofs.letters.all_letters.Goals as goal

pub loop-at-init : goal.loop-at-init
loop-at-init c = text-start _ _ _

pub put_run-requires : goal.put_run-requires
put_run-requires c = c.loop-at.invariant.few

pub returns-in_err-count : goal.returns-in_err-count
returns-in_err-count c =
    going-stop _ _ _ _ _ _ _ _ c.loop-at.invariant (omega (arith, c.loop-at-test.true)) _ c.one_letter.ensures _ _ c.put_run.ensures _ c.in_err-count.was _ (search rules)

pub loop-at-preserved : goal.loop-at-preserved
loop-at-preserved c =
    going_on _ _ _ _ _ _ _ _ c.loop-at.invariant (omega (arith, c.loop-at-test.true)) _ c.one_letter.ensures _ _ c.put_run.ensures _ c.in_ok-count.was _ c.letter_end-at.ensures.value c.letter_end-at.ensures.lower_bound

pub shape_of-bytes : goal.shape_of-bytes
shape_of-bytes c = c.loop-at.invariant.long

pub returns : goal.returns
returns c = going_end _ _ _ _ _ _ _ _ c.loop-at.invariant (omega (arith, c.loop-at-test.false))
