-- `replay::turns` meets its contract. Assumes nothing.
use native.Mathlib.Omega.{arith}
use Rattle.rules.specs.Tables.{lent, searching}
use Rattle.log_line.proofs.Text.{tail}
use Rattle.replay.proofs.Ways.{told-ends, starts, all_done, log-ends, ten, kept-on, went_on, goes_on}
use Rattle.replay.proofs.turns.Goals as goal

pub loop-lines-init : goal.loop-lines-init
loop-lines-init c =
    record {
      runs-are = c.requires.runs-are;
      sound-still = λ rest g s. s;
      inside = omega arith;
      stands = λ rest g s. starts (lent _ _ (searching rest _)) _ _ _;
    }

pub returns-then-place-log : goal.returns-then-place-log
returns-then-place-log c =
    let l = c.loop-lines in
    λ rest g s. told-ends _ _ _ _ _ _ _ c.told.ensures (log-ends (lent _ _ _) _ _ _ (lent _ _ _) _ _ _ (l.invariant.stands rest g s) c.loop-lines-test.true c.if-place-log.true)

pub turn-requires : goal.turn-requires
turn-requires c =
    record {
      kept = kept-on _ _ _ _ _ _ _ _ _ _ _ _ _ _ c.loop-lines.invariant c.requires c.loop-lines-test.true c.if-place-log.false;
      in_bounds = (omega arith, omega arith);
    }

pub returns-in-None : goal.returns-in-None
returns-in-None c =
    let l = c.loop-lines in
    let log = c.args.log.now in
    λ rest g s. told-ends _ _ _ _ _ _ _ c.told-in-None.ensures (ten (lent _ _ _) log _ _ (lent _ _ _) _ _ _ (l.invariant.stands rest g s) c.loop-lines-test.true l.invariant.inside c.if-place-log.false _ (tail log l.place) _ (lent _ _ _) (c.turn.ensures.search_after rest g (l.invariant.sound-still rest g s)) c.in-None.is)

pub overflow_add-place : goal.overflow_add-place
overflow_add-place c =
    omega (arith, (went_on _ _ _ _ _ _ _ _ _ _ _ _ _ _ c.loop-lines.invariant c.requires c.loop-lines-test.true c.if-place-log.false _ (tail c.args.log.now c.loop-lines.place) _ _ _ _ c.turn.ensures.search_after _ c.in-Some.is c.turn.ensures.taken).inside)

pub overflow_add-next : goal.overflow_add-next
overflow_add-next c =
    omega (arith, (went_on _ _ _ _ _ _ _ _ _ _ _ _ _ _ c.loop-lines.invariant c.requires c.loop-lines-test.true c.if-place-log.false _ (tail c.args.log.now c.loop-lines.place) _ _ _ _ c.turn.ensures.search_after _ c.in-Some.is c.turn.ensures.taken).low)

pub loop-lines-preserved : goal.loop-lines-preserved
loop-lines-preserved c =
    goes_on _ _ _ _ _ _ _ _ _ _ _ _ _ _ c.loop-lines.invariant c.requires c.loop-lines-test.true c.if-place-log.false _ (tail c.args.log.now c.loop-lines.place) _ _ _ _ c.turn.ensures.search_after _ c.in-Some.is c.turn.ensures.taken

pub returns : goal.returns
returns c =
    let l = c.loop-lines in
    λ rest g s. told-ends _ _ _ _ _ _ _ c.told-2.ensures (all_done (lent _ _ _) _ _ _ (lent _ _ _) _ _ _ (l.invariant.stands rest g s) (omega arith))
