-- `listing::put_ranges` meets its contract: at the loop's head, what the ranges from here on add makes up what all of them add. Assumes nothing.
use Rattle.pages.specs.Subject.{tables_of}
use Rattle.listing.proofs.Stages.{Writing}
use Rattle.listing.proofs.put_ranges.Given as goal

abbrev pub invariant-loop-r : goal.invariant-loop-r
invariant-loop-r l = Writing l.stock.marks.now l.q (tables_of l.stock) l.initial.x l.r-items l.initial.answer l.answer l.x l.r-index
