-- `case_text::bytes::one_run` meets its contract. Assumes nothing.
use native.Mathlib.Omega.{arith}
use borrow.Author.Rules.{rules}
use mathlib.Core.Path.{refl}
use Rattle.case_text.proofs.Values.{run_none, run-once, run-times}
use Rattle.case_text.proofs.bytes.one_run.Goals as goal

pub returns-in_default : goal.returns-in_default
returns-in_default c = run_none _ _ c.find-star.ensures.value _ c.one_byte.ensures c.in_default.is

pub returns-then-star-word : goal.returns-then-star-word
returns-then-star-word c = run-once _ _ c.find-star.ensures.value _ c.one_byte.ensures _ c.in-Some.is (omega arith)

pub returns-in_err-times : goal.returns-in_err-times
returns-in_err-times c = run-times _ _ c.find-star.ensures.value _ c.one_byte.ensures _ c.in-Some.is (omega arith) _ c.value.ensures _ c.in_err-times.was _ (search rules)

pub returns : goal.returns
returns c = run-times _ _ c.find-star.ensures.value _ c.one_byte.ensures _ c.in-Some.is (omega arith) _ c.value.ensures _ c.in_ok-times.was _ refl
