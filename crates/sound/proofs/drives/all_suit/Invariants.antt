-- `sound::drives::all_suit`: at the loop's head the drives before this one are suited. Assumes nothing.
use Rattle.std.proofs.Common.{◌≡◌, ℕ, ◌+◌, ◌<◌, true}
use Rattle.sound.specs.Checks.{suited_at}
use Rattle.sound.proofs.drives.all_suit.Given as goal

abbrev pub invariant-loop-k : goal.invariant-loop-k
invariant-loop-k l = (j : ℕ) → j < l.k → suited_at l.elements l.fixed.generations.now l.fixed.masks.now (l.place + j) j ≡ true
