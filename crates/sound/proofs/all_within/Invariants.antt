-- `sound::all_within`: at the loop's head `fine` tells of those before the index. Assumes nothing.
use Rattle.std.proofs.Common.{◌≡◌}
use Rattle.rules.specs.Choice.{below}
use Rattle.rules.specs.Bytes.{byte}
use Rattle.rules.specs.Tables.{most_generations}
use Rattle.rules.specs.Sound.{within}
use Rattle.sound.proofs.all_within.Given as goal

abbrev pub invariant-loop-generation : goal.invariant-loop-generation
invariant-loop-generation l = l.fine ≡ below l.generation-index (λ j. within 1 most_generations (byte l.generations j))
