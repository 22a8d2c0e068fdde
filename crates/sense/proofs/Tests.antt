-- Two tests that must both hold, as code makes them one after the other. Assumes nothing.
use mathlib.Core.Path.{◌≡◌}
use mathlib.Core.Bool.{Bool, true, false}
use mathlib.Core.List.{List, [], ◌∷◌}
use Rattle.rules.proofs.Ladder.{test-is}
use Rattle.rules.specs.Choice.{when, all_of}

pub all-fails : (b : Bool) (bs : List Bool) → b ≡ false → false ≡ all_of (b ∷ bs)
unfolding all_of when
all-fails b bs e = rw e

pub all-last : (b c : Bool) → b ≡ true → c ≡ all_of (b ∷ c ∷ [])
unfolding all_of when
all-last b c e = rw e (test-is c)
