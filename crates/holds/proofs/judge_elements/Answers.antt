-- `holds::judge_elements`: at the loop's head the first k descriptors had no fault, what they name is marked, and where it begins and ends is
-- kept. Assumes nothing.
use Rattle.std.proofs.lemmas.Result.{err_from_is_err_and}
use Rattle.holds.proofs.Turns.{turn-begins, turn-wrong, turn_on, turn-bounded, turn-taken, turn-free, turn-marks, length-wrong, length-right, length_most}
use Rattle.holds.proofs.judge_elements.Goals as goal

pub returns-then-wrong_length-clause-value : goal.returns-then-wrong_length-clause-value
returns-then-wrong_length-clause-value c = length-wrong _ _ _ _ _ _ c.wrong_length.ensures c.if-wrong_length.true

pub loop-k-init : goal.loop-k-init
loop-k-init c =
    turn-begins _ _ _ _ _ _ (length_most _ _ c.wrong_length.ensures c.if-wrong_length.false _ c.count-n.ensures) _ c.requires.marks

pub returns-in_err-spans-clause-value : goal.returns-in_err-spans-clause-value
returns-in_err-spans-clause-value c =
    let p = err_from_is_err_and c.from_residual.result c.from_residual.ensures.1 in
    rw (p.1, p.2)
    (length-right _ _ _ _ _ _ c.wrong_length.ensures c.if-wrong_length.false _ c.count-n.ensures _
    (turn-wrong _ _ _ _ _ _ _ _ _ c.loop-k.invariant c.loop-k-test.true _ c.in_err-spans.ensures.value))

pub loop-k-preserved : goal.loop-k-preserved
loop-k-preserved c =
    let told = c.in_ok-spans.ensures in
    turn_on _ _ _ _ _ _ _ _ _ c.loop-k.invariant c.loop-k-test.true _ told.value _ told.judged

pub conflicts-requires : goal.conflicts-requires
conflicts-requires c =
    turn-bounded _ _ _ _ _ _ _ _ _ c.loop-k.invariant c.loop-k-test.false c.loop-k.auto.k-end c.count-n.ensures c.requires.laid_out.elements-long

pub returns-then-conflicts-clause-value : goal.returns-then-conflicts-clause-value
returns-then-conflicts-clause-value c =
    length-right _ _ _ _ _ _ c.wrong_length.ensures c.if-wrong_length.false _ c.count-n.ensures _
    (turn-taken _ _ _ _ _ _ _ _ _ c.loop-k.invariant c.loop-k-test.false c.loop-k.auto.k-end c.count-n.ensures _ c.conflicts.ensures c.if-conflicts.true)

pub returns : goal.returns
returns c = record {
  value = length-right _ _ _ _ _ _ c.wrong_length.ensures c.if-wrong_length.false _ c.count-n.ensures _
      (turn-free _ _ _ _ _ _ _ _ _ c.loop-k.invariant c.loop-k-test.false c.loop-k.auto.k-end c.count-n.ensures _ c.conflicts.ensures c.if-conflicts.false);
  grantable = turn-marks _ _ _ _ _ _ _ _ _ c.loop-k.invariant c.loop-k-test.false c.loop-k.auto.k-end c.count-n.ensures;
}
