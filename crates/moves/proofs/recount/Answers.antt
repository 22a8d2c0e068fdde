-- `moves::recount` meets its contract. Assumes nothing.
use native.Mathlib.Omega.{arith}
use Rattle.moves.proofs.Answers.{shelf-most, shown_by}
use Rattle.moves.proofs.recount.Goals as goal

pub overflow_add-more : goal.overflow_add-more
overflow_add-more c = record { fits = omega (arith, c.shelf.ensures, c.panel.ensures, shelf-most c.args.left) }

pub returns : goal.returns
returns c =
    shown_by _ _ _ _ _ _ _ _ c.show.ensures c.panel.ensures c.shelf.ensures c.shelf-2.ensures
