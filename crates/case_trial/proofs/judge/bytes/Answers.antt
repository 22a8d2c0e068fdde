-- `case_trial::judge::bytes` meets its contract. Assumes nothing.
use Rattle.case_rooms.proofs.Comparing.{same, differs, other_length}
use borrow.Author.Rules.{rules}
use Rattle.case_trial.proofs.judge.bytes.Goals as goal

pub returns-then-found-expected : goal.returns-then-found-expected
returns-then-found-expected c = other_length _ _ _ _ c.if-found-expected.true

pub returns-then-i-found : goal.returns-then-i-found
returns-then-i-found c = differs _ _ _ _ _ c.alike-i.ensures c.if-found-expected.false _ _ c.if-i-found.true c.from.ensures c.from-then-i-found.ensures

pub returns : goal.returns
returns c = same _ _ _ _ _ c.alike-i.ensures c.if-found-expected.false c.if-i-found.false
