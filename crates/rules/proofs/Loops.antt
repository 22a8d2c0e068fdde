-- The turns of loops: a search that has failed so far, and a table changed step by step. Assumes nothing.
use Prim.Native.Nat.{ℕ, ◌+◌, ◌-◌, ◌<◌, ◌≤◌}
use native.Mathlib.Omega.{arith}
use mathlib.Core.Path.{◌≡◌, refl, sym, ap, ◌∙◌}
use mathlib.Core.Bool.{Bool, true, false}
use mathlib.Core.List.{List}
use lib.ListN.{length}
use Rattle.rules.specs.Choice.{any_from, each}
use Rattle.rules.proofs.Ladder.{either, any_here, any-of-none, each_last}

-- ---- a loop over the numbers from i on has come to p, and the test has failed so far

abbrev pub Failed : (ℕ → Bool) → ℕ → ℕ → Type 0
Failed f i p = (q : ℕ) → i ≤ q → q < p → f q ≡ false

module _ (f : ℕ → Bool) (i : ℕ) where
  pub failed-none : Failed f i i
  failed-none q l h = absurd (omega arith)

  pub failed-more : (p : ℕ) → Failed f i p → f p ≡ false → Failed f i (p + 1)
  failed-more p s e q l h = either q p (λ d. rw d e) (λ n. s q l (omega arith))

  pub found-there : (n p : ℕ) → i ≤ p → p < i + n → f p ≡ true → true ≡ any_from f n i
  found-there n p l h t = sym (any_here f n i p l h t)

  pub found_nowhere : (n p : ℕ) → Failed f i p → i + n ≤ p → false ≡ any_from f n i
  found_nowhere n p s h = sym (any-of-none f n i (λ q k m. s q k (omega arith)))

-- ---- a loop that changes a table step by step, from i on: ys is what the steps before p have made of xs

pub record Turned (f : ℕ → List ℕ → List ℕ) (i : ℕ) (xs ys : List ℕ) (p : ℕ) : Type 0 where
  pub done : ys ≡ each f (p - i) i xs
  pub from : i ≤ p
  pub kept : length ys ≡ length xs

module _ (f : ℕ → List ℕ → List ℕ) (i : ℕ) (xs : List ℕ) where
  pub turned_none : Turned f i xs xs i
  unfolding each
  turned_none = let z : i - i ≡ 0 = omega arith in record { done = rw z refl; from = omega arith; kept = refl }

  module _ (ys : List ℕ) (p : ℕ) (at : Turned f i xs ys p) where
    pub turned_more : (zs : List ℕ) → zs ≡ f p ys → length zs ≡ length ys → Turned f i xs zs (p + 1)
    turned_more zs e k =
        let from : i ≤ p = at.from in
        let one_more : p + 1 - i ≡ (p - i) + 1 = omega arith in
        let here : i + (p - i) ≡ p = omega arith in
        record { done = rw (one_more, each_last f (p - i) i xs, here) (e ∙ ap (f p) at.done); from = omega arith; kept = k ∙ at.kept }

    pub turned-all : (n : ℕ) → p ≡ i + n → ys ≡ each f n i xs
    turned-all n e = let all : p - i ≡ n = omega arith in rw all at at.done
