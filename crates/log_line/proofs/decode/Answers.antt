-- `log_line::decode` meets its contract. Assumes nothing.
use native.Mathlib.Omega.{arith}
use mathlib.Core.Path.{sym}
use borrow.Author.Tests.{ltb-false}
use Rattle.log_line.proofs.Hexed.{ended, no-high, last, no-low, goes_on}
use Rattle.log_line.proofs.decode.Goals as goal

pub returns-then-high-gt15 : goal.returns-then-high-gt15
returns-then-high-gt15 c =
    no-high _ c.requires.0 _ _ _ _ c.loop-n.invariant (omega arith) _ c.value_of-high.ensures c.if-high-gt15.true _ c.then_some.ensures

pub returns-then-low-gt15 : goal.returns-then-low-gt15
returns-then-low-gt15 c =
    no-low _ c.requires.0 _ _ _ _ c.loop-n.invariant (omega arith) _ c.value_of-high.ensures c.if-high-gt15.false (omega arith) _ c.value_of-low.ensures c.if-low-gt15.true

pub loop-n-preserved : goal.loop-n-preserved
loop-n-preserved c =
    goes_on _ c.requires.0 _ _ _ _ c.loop-n.invariant (omega arith) _ c.value_of-high.ensures c.if-high-gt15.false (omega arith) _ c.value_of-low.ensures c.if-low-gt15.false (omega arith) _ (omega arith)

pub returns-in_err-b : goal.returns-in_err-b
returns-in_err-b c =
    rw c.from_residual.ensures (ended _ c.requires.0 _ _ _ _ c.loop-n.invariant (let e = ltb-false _ _ (sym c.in_err-b.ensures.lookup.0) in omega arith))

pub returns : goal.returns
returns c =
    let found = c.in_ok-b.ensures.lookup.3 in
    last _ c.requires.0 _ _ _ _ c.loop-n.invariant (omega (arith, found.0)) _ (omega arith) (omega (arith, found.0)) _ (found.1 0) _ c.then_some-2.ensures
