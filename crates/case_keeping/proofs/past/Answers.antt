-- `case_keeping::past` meets its contract. Assumes nothing.
use Rattle.case_rooms.proofs.Comparing.{kept-past, touched}
use borrow.Author.Rules.{rules}
use Rattle.case_keeping.proofs.past.Goals as goal

pub returns-then-i-rest : goal.returns-then-i-rest
returns-then-i-rest c = touched _ _ _ _ c.part-rest.ensures c.untouched-i.ensures _ _ c.if-i-rest.true c.from.ensures c.from-then-i-rest.ensures

pub returns : goal.returns
returns c = kept-past _ _ _ _ c.part-rest.ensures c.untouched-i.ensures c.if-i-rest.false
