-- `tables::element::fill` meets its contract. Assumes nothing.
use Rattle.std.proofs.Common.{arith, length-set}
use Rattle.tables.proofs.Fields.{fill_is}
use Rattle.tables.proofs.element.fill.Goals as goal

pub shape_of-elements : goal.shape_of-elements
shape_of-elements c = simp length-set (omega arith)

pub returns : goal.returns
returns c = fill_is _ _ _ _ _ _ _ c.put_word.ensures c.put_word-2.ensures
