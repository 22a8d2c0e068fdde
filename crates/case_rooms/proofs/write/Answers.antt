-- `case_rooms::write` meets its contract: what is past the end is not written. Assumes nothing.
use Rattle.case_rooms.proofs.Clamped.{written}
use borrow.Author.Rules.{rules}
use Rattle.case_rooms.proofs.write.Goals as goal

pub returns : goal.returns
returns c = written _ _ _ c.min-start.ensures _ _ _ c.min-n.ensures (c.copy_from_slice.ensures.after)
