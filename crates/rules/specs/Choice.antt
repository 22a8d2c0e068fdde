-- Choices and tests that stay shut: a proof opens them by their laws, one test at a time. Assumes nothing.
use Rattle.std.specs.Prelude.{ℕ, zero, suc, List, [], ◌∷◌, Bool, true, false, not, eqb}

-- "Each takes effect at its first match": the first where the test holds, else what follows
unfoldable pub when : {A : Type 0} → Bool → A → A → A
when true a b = a
when false a b = b

-- one of the tests holds
unfoldable pub any_of : List Bool → Bool
unfolding when
any_of [] = false
any_of (b ∷ bs) = when b true (any_of bs)

-- each of the tests holds
unfoldable pub all_of : List Bool → Bool
unfolding when
all_of [] = true
all_of (b ∷ bs) = when b (all_of bs) false

-- the numbers differ
unfoldable pub differ : ℕ → ℕ → Bool
differ a b = not (eqb a b)

-- the test holds at each number below n
unfoldable pub below : ℕ → (ℕ → Bool) → Bool
unfolding when
below zero f = true
below (suc n) f = when (f n) (below n f) false

-- the test holds at one of the n numbers from i on
unfoldable pub any_from : (ℕ → Bool) → ℕ → ℕ → Bool
unfolding when
any_from f zero i = false
any_from f (suc n) i = when (f i) true (any_from f n (suc i))

-- one step after another, at the n numbers from i on
unfoldable pub each : (ℕ → List ℕ → List ℕ) → ℕ → ℕ → List ℕ → List ℕ
each f zero i xs = xs
each f (suc n) i xs = each f n (suc i) (f i xs)
