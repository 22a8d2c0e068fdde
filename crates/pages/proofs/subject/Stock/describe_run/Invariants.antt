-- `pages::Stock::describe_run` meets its contract: at the loop's head, the descriptors of those of the first i elements that are marked stand at the
-- front. Assumes nothing.
use mathlib.Core.Path.{◌≡◌}
use Prim.Native.Nat.{◌*◌}
use Rattle.rules.specs.Bytes.{put}
use Rattle.rules.specs.Listing.{width}
use Rattle.pages.specs.Marks.{marks_in}
use Rattle.pages.specs.Pages.{descriptors}
use Rattle.pages.specs.Subject.{tables_of, marked_from}
use Rattle.pages.proofs.subject.Stock.describe_run.Given as goal

abbrev pub invariant-loop-i : goal.invariant-loop-i
invariant-loop-i l =
    (l.d ≡ put l.initial.d 0 (descriptors l.tagged (tables_of l.self) (marked_from l.self.marks.now l.first l.i)))
    × (l.at ≡ marks_in l.self.marks.now l.i l.first.place * width l.tagged)
