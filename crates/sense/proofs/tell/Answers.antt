-- `sense::tell` meets its contract. Assumes nothing.
use mathlib.Core.Path.{sym}
use lib.Seq.{length-take-le}
use Rattle.rules.specs.Bytes.{cut}
use Rattle.rules.specs.Sense.{told}
use Rattle.rules.proofs.Writes.{cut-within}
use borrow.Author.Rules.{rules}
use Rattle.sense.proofs.tell.Goals as goal

pub slice_bounds-bytes-end : goal.slice_bounds-bytes-end
unfolding told
slice_bounds-bytes-end c = search rules

pub slice_bounds-copy-end : goal.slice_bounds-copy-end
unfolding told
slice_bounds-copy-end c = sym (length-take-le _ _ (search rules))

pub copy-requires : goal.copy-requires
unfolding told cut
copy-requires c = let pre = c.requires in rw (cut-within _ (told _ _ _) pre.count_le_whole) pre.count_in_bounds

pub returns : goal.returns
unfolding told cut
returns c = c.copy.ensures
