-- `case_text::bytes::all_bytes` meets its contract. Assumes nothing.
use mathlib.Core.Path.{◌∙◌}
use Rattle.case_text.proofs.Buffers.{bytes-start, byte-run, byte_next_lem, going_end, going-stop, going_on}
use borrow.Author.Rules.{rules}
use Rattle.case_text.proofs.bytes.all_bytes.Goals as goal

pub loop-at-init : goal.loop-at-init
loop-at-init c = (search rules, bytes-start _ _ _ _ c.find-at.ensures.value)

pub put_run-requires : goal.put_run-requires
put_run-requires c = c.loop-at.invariant.1.few

pub returns-in_err-count : goal.returns-in_err-count
returns-in_err-count c =
    going-stop _ _ _ _ _ _ _ _ c.loop-at.invariant.1 c.loop-at-test.true _ (c.one_run.ensures ∙ byte-run _ _ _ c.find-to.ensures.value) _ _ c.put_run.ensures _ c.in_err-count.was _ (search rules)

pub loop-at-preserved : goal.loop-at-preserved
loop-at-preserved c =
    (search rules, going_on _ _ _ _ _ _ _ _ c.loop-at.invariant.1 c.loop-at-test.true _ (c.one_run.ensures ∙ byte-run _ _ _ c.find-to.ensures.value) _ _ c.put_run.ensures _ c.in_ok-count.was _ (byte_next_lem _ _ _ c.find-to.ensures.value _ c.find-at-in-loop-at.ensures.value) (search rules))

pub shape_of-bytes : goal.shape_of-bytes
shape_of-bytes c = c.loop-at.invariant.1.long

pub returns : goal.returns
returns c = going_end _ _ _ _ _ _ _ _ c.loop-at.invariant.1 c.loop-at-test.false
