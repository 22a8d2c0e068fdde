-- `case_entering::entered` meets its contract: the parts of the room are lent to the entry. Assumes nothing.
use Rattle.case_entering.proofs.Entering.{on-parts}
use borrow.Author.Rules.{rules}
use Rattle.case_entering.proofs.entered.Goals as goal

pub returns : goal.returns
returns c =
    on-parts _ _ _ _ _ _ _ _ _ _ _ _ _ _ _ _ _ _
    (rw (c.table.ensures, c.table-2.ensures, c.table-3.ensures, c.table-4.ensures)) c.part.ensures (search rules) c.enter.ensures
