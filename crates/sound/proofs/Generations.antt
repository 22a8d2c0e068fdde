-- "generation 1 to 8", by the number from the first on, where 0 wraps round. Assumes nothing.
use Rattle.std.proofs.Common.{◌≡◌, ℕ, ◌+◌, ◌%◌, ◌<◌, Bool, true, false, leb, ltb, refl, arith, leb-true, lt-ltb, leb-false, le-ltb}
use Rattle.rules.specs.Choice.{when, all_of}
use Rattle.rules.specs.Tables.{most_generations}
use Rattle.rules.specs.Sound.{within}

pub one_test : (g : ℕ) → g < 256 → ltb ((g + 255) % 256) 8 ≡ within 1 most_generations g
unfolding within all_of when
one_test g small = go (leb 1 g) (leb g 8) refl refl
  where
    go : (a b : Bool) → leb 1 g ≡ a → leb g 8 ≡ b → ltb ((g + 255) % 256) 8 ≡ when a (when b true false) false
    go true true e f =
        let l = leb-true 1 g e in let m = leb-true g 8 f in
        lt-ltb _ 8 (omega arith)
    go true false e f =
        let l = leb-true 1 g e in let m = leb-false g 8 f in
        le-ltb _ 8 (omega arith)
    go false b e f = let l = leb-false 1 g e in le-ltb _ 8 (omega arith)
