-- House number 2: a number between two others. Assumes nothing.
use Prim.Native.Nat.{ℕ, ◌<◌, ◌≤◌}
use mathlib.Core.Path.{◌≡◌}
use mathlib.Core.Bool.{true, false}
use borrow.Author.Tests.{le-leb, lt-leb}
use Rattle.rules.specs.Choice.{when, all_of}
use Rattle.rules.specs.Sound.{within}

pub in-both : (low high n : ℕ) → low ≤ n → n ≤ high → within low high n ≡ true
unfolding within all_of when
in-both low high n h k = rw (le-leb low n h, le-leb n high k)

pub below-low : (low high n : ℕ) → n < low → within low high n ≡ false
unfolding within all_of when
below-low low high n h = rw (lt-leb low n h)

pub above_high : (low high n : ℕ) → low ≤ n → high < n → within low high n ≡ false
unfolding within all_of when
above_high low high n h k = rw (le-leb low n h, lt-leb n high k)

pub ruleset hosts_by = (in-both, below-low, above_high)
