-- Steps one after another that each write one value or nothing, and the last of the numbers that a test is tried at. Assumes nothing.
use Prim.Native.Nat.{ℕ, zero, suc, ◌+◌}
use native.Mathlib.Numerals.{add-one, unary_clauses}
use native.Mathlib.Omega.{arith}
use mathlib.Core.Path.{◌≡◌, refl, sym, ◌∙◌}
use mathlib.Core.Bool.{Bool, true, false}
use mathlib.Core.List.{List}
use lib.ListN.{length}
use Rattle.rules.specs.Choice.{when, any_from, each}

-- what F reads of a table is written by the steps at which t holds, to v, and by no other
module _ {A : Type 0} (F : List ℕ → A) (f : ℕ → List ℕ → List ℕ) (t : ℕ → Bool) (v : A) (l : ℕ)
    (at : (j : ℕ) (ys : List ℕ) → length ys ≡ l → F (f j ys) ≡ when (t j) v (F ys))
    (long : (j : ℕ) (ys : List ℕ) → length (f j ys) ≡ length ys) where
  pub each-writes : (n k : ℕ) (xs : List ℕ) → length xs ≡ l → F (each f n k xs) ≡ when (any_from t n k) v (F xs)
  unfolding each any_from when
  each-writes zero k xs e = refl
  each-writes (suc n) k xs e = go (t k) refl (any_from t n (suc k)) (each-writes n (suc k) (f k xs) (long k xs ∙ e))
    where
      go : (b : Bool) → t k ≡ b → (c : Bool) → F (each f n (suc k) (f k xs)) ≡ when c v (F (f k xs))
          → F (each f n (suc k) (f k xs)) ≡ when (when b true c) v (F xs)
      go true d true ih = ih
      go true d false ih = ih ∙ at k xs e ∙ rw d
      go false d true ih = ih
      go false d false ih = ih ∙ at k xs e ∙ rw d

-- a test that holds at one of so many numbers, and at one more
any-suc : (f : ℕ → Bool) (n i : ℕ) → any_from f (suc n) i ≡ when (any_from f n i) true (f (i + n))
unfolding any_from when
any-suc f zero i = simp unary_clauses (go (f i))
  where
    go : (b : Bool) → when b true false ≡ b
    go true = refl
    go false = refl
any-suc f (suc n) i = go (f i) (any-suc f n (suc i))
  where
    go : (b : Bool) → any_from f (suc n) (suc i) ≡ when (any_from f n (suc i)) true (f (suc i + n))
        → when b true (any_from f (suc n) (suc i)) ≡ when (when b true (any_from f n (suc i))) true (f (i + suc n))
    go true ih = refl
    go false ih = let e : suc i + n ≡ i + suc n = omega arith in ih ∙ rw e

pub any-more : (f : ℕ → Bool) (n : ℕ) → any_from f (n + 1) 0 ≡ when (any_from f n 0) true (f n)
any-more f n = let e : 0 + n ≡ n = omega arith in rw (add-one, any-suc f n 0, e)

-- two tests that fail together
pub fail-alike : (a b : Bool) → (a ≡ false → b ≡ false) → (b ≡ false → a ≡ false) → a ≡ b
fail-alike true true f g = refl
fail-alike true false f g = g refl
fail-alike false b f g = sym (f refl)
