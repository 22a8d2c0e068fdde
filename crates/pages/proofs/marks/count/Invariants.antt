-- `pages::marks::count` meets its contract: at the loop's head, those marked of the places passed are counted. Assumes nothing.
use mathlib.Core.Path.{◌≡◌}
use Prim.Native.Nat.{◌≤◌, min}
use Rattle.pages.specs.Marks.{marks_in}
use Rattle.pages.proofs.marks.count.Given as goal

abbrev pub invariant-loop-mark : goal.invariant-loop-mark
invariant-loop-mark l = (l.k ≡ marks_in l.marks l.mark-index (min l.place l.end)) × (l.k ≤ l.mark-index)
