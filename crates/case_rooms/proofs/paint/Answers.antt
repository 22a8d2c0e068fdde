-- `case_rooms::paint` meets its contract: what is past the end is not written. Assumes nothing.
use Rattle.case_rooms.proofs.Clamped.{painted}
use borrow.Author.Rules.{rules}
use Rattle.case_rooms.proofs.paint.Goals as goal

pub returns : goal.returns
returns c = painted _ _ _ c.min-start.ensures _ _ _ _ c.min.ensures (search rules)
