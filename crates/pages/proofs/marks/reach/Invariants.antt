-- `pages::marks::reach` meets its contract: at the loop's head, the places passed and those still to pass reach as far as all. Assumes nothing.
use mathlib.Core.Path.{◌≡◌}
use Prim.Native.Nat.{◌+◌, ◌-◌}
use Rattle.pages.specs.Marks.{reach_of}
use Rattle.pages.proofs.marks.reach.Given as goal

abbrev pub invariant-loop-i : goal.invariant-loop-i
invariant-loop-i l = l.i + reach_of l.marks l.left (l.n - l.i) (l.place + l.i) ≡ reach_of l.marks l.m l.n l.place
