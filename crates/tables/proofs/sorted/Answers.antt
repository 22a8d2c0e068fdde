-- `tables::sorted` meets its contract. Assumes nothing.
use Rattle.std.proofs.Common.{◌∙◌, rules}
use Rattle.tables.proofs.Sort.{meant-length, sorted-four}
use Rattle.tables.proofs.sorted.Goals as goal

pub returns : goal.returns
returns c = rw (c.insert_first.ensures, c.insert_second.ensures, c.insert_third.ensures) (sorted-four _ (meant-length _ ∙ search rules))
