-- A test of one number after the other, with no way out before the end. Assumes nothing.
use Rattle.std.proofs.Common.{◌≡◌, ℕ, ◌+◌, Bool, true, false, ◌&&◌, refl, ◌∙◌}
use Rattle.rules.specs.Choice.{when, below}
use Rattle.rules.proofs.Ladder.{below_step}

pub below_none : (f : ℕ → Bool) → below 0 f ≡ true
unfolding below
below_none f = refl

pub below_more : (f : ℕ → Bool) (i : ℕ) → below (i + 1) f ≡ (below i f && f i)
unfolding when
below_more f i = below_step i f ∙ go (f i) (below i f)
  where
    go : (b x : Bool) → when b x false ≡ (x && b)
    go true true = refl
    go true false = refl
    go false true = refl
    go false false = refl

pub ruleset gathered = (below_none, below_more)
