-- `sound::searches::all_zero`: at the loop's head `fine` tells of those before the index. Assumes nothing.
use Rattle.std.proofs.Common.{◌≡◌, eqb}
use Rattle.rules.specs.Choice.{below}
use Rattle.rules.specs.Bytes.{byte}
use Rattle.sound.proofs.searches.all_zero.Given as goal

abbrev pub invariant-loop-b : goal.invariant-loop-b
invariant-loop-b l = l.fine ≡ below l.b-index (λ j. eqb (byte l.search j) 0)
