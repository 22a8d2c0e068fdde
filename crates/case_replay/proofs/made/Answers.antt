-- `case_replay::made` meets its contract: the fronts of the copies are lent, and come back. Assumes nothing.
use Rattle.case_rooms.proofs.Lending.{front, given, as_long}
use Rattle.case_replay.proofs.Carried.{on-fronts}
use borrow.Author.Rules.{rules}
use Rattle.case_replay.proofs.made.Goals as goal

pub shape_of-head : goal.shape_of-head
shape_of-head c =
    as_long _ _ _ c.min-h.ensures c.entered.new.head c.entered.auto.head

pub shape_of-elements : goal.shape_of-elements
shape_of-elements c =
    as_long _ _ _ c.min-e.ensures c.entered.new.elements c.entered.auto.elements

pub shape_of-search : goal.shape_of-search
shape_of-search c =
    as_long _ _ _ c.min-s.ensures c.entered.new.search c.entered.auto.search

pub returns : goal.returns
returns c =
    let h = rw c.length.ensures at c.min-h.ensures in
    let e = rw c.length-2.ensures at c.min-e.ensures in
    let s = rw c.length-3.ensures at c.min-s.ensures in
    on-fronts _ _ _ _ _ _ _ _ _ _ _ _ _ _ _ _
    (given _ _ _ h _ c.entered.auto.head)
    (given _ _ _ e _ c.entered.auto.elements)
    (given _ _ _ s _ c.entered.auto.search)
    (front _ _ _ h)
    (front _ _ _ e)
    (front _ _ _ s)
    c.entered.ensures
