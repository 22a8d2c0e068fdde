-- `case_rooms::part` meets its contract: what is past the end is not there. Assumes nothing.
use Rattle.case_rooms.proofs.Clamped.{part-least}
use borrow.Author.Rules.{rules}
use Rattle.case_rooms.proofs.part.Goals as goal

pub returns : goal.returns
returns c = part-least _ _ _ _ _ c.min-start.ensures c.min.ensures
