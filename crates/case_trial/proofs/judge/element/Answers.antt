-- `case_trial::judge::element` meets its contract. Assumes nothing.
use Rattle.case_trial.specs.Asked.{element_field}
use Rattle.case_trial.proofs.Answers.{no-element, an-element}
use Rattle.rules.proofs.Ladder.{lt-is}
use mathlib.Core.Path.{refl}
use borrow.Author.Rules.{rules}
use Rattle.case_trial.proofs.judge.element.Goals as goal

pub returns-then-head-lt-HEAD_SIZE : goal.returns-then-head-lt-HEAD_SIZE
unfolding element_field
returns-then-head-lt-HEAD_SIZE c = lt-is _ _ _ _ _ c.if-head-lt-HEAD_SIZE.true refl

pub returns-in_default : goal.returns-in_default
returns-in_default c = no-element _ _ _ _ _ _ c.runs.ensures c.find.ensures c.if-head-lt-HEAD_SIZE.false c.in_default.is

pub returns : goal.returns
returns c = an-element _ _ _ _ _ _ c.runs.ensures c.find.ensures c.if-head-lt-HEAD_SIZE.false _ _ c.in-Some.is c.field.ensures
