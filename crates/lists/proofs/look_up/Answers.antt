-- `lists::look_up` meets its contract. Assumes nothing.
use native.Mathlib.Omega.{arith}
use Rattle.std.proofs.Common.{rules}
use Rattle.tables.proofs.LookUp.{at-below}
use Rattle.lists.proofs.Faults.{look-reserved, look-unknown, look-many, look-named}
use Rattle.lists.proofs.look_up.Goals as goal

pub returns-then-d-ne0 : goal.returns-then-d-ne0
returns-then-d-ne0 c = look-reserved _ _ _ _ c.read_at-d.ensures c.if-d-ne0.true

pub returns-in_default : goal.returns-in_default
returns-in_default c = look-unknown _ _ _ _ c.read_at-d.ensures c.if-d-ne0.false _ c.find.ensures c.in_default.is

pub end_of-end-requires-clause-first_le_total : goal.end_of-end-requires-clause-first_le_total
end_of-end-requires-clause-first_le_total c =
    omega (arith, at-below _ _ _ _ c.find.ensures _ c.in-Some.is)

pub returns-then-total-end : goal.returns-then-total-end
returns-then-total-end c =
    look-many _ _ _ _ c.read_at-d.ensures c.if-d-ne0.false _ c.find.ensures _ _ _ c.in-Some.is c.total-total.ensures.value c.end_of-end.ensures c.if-total-end.true

pub returns : goal.returns
returns c =
    look-named _ _ _ _ c.read_at-d.ensures (search rules) _ c.find.ensures _ _ _ c.in-Some.is c.total-total.ensures.value c.end_of-end.ensures c.if-total-end.false
