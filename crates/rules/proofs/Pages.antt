-- The pages of MODE SENSE: which codes are known, and what step 4 has shown of one that is answered. Assumes nothing.
use Prim.Native.Nat.{ℕ}
use native.Mathlib.Omega.{arith}
use mathlib.Core.Path.{◌≡◌, refl, sym, subst}
use mathlib.Core.Bool.{Bool, true, false}
use mathlib.Core.List.{List}
use lib.Dec.{eqb, leb}
use borrow.Author.Tests.{eqb-true, eqb-false}
use Rattle.rules.specs.Choice.{when}
use Rattle.rules.specs.Operation.{ModeSense}
use Rattle.rules.specs.Mode.{ADDRESSES, GEOMETRY, CAPABILITIES, ALL-PAGES, known_page, no_answer}
use Rattle.rules.specs.Form.{lower, own_fault, fault}
use Rattle.rules.proofs.Ladder.{on, any-cases, any-nil}

-- what holds at the four codes holds at each that is known
pub known_by : (P : ℕ → Type 0) → P ADDRESSES → P GEOMETRY → P CAPABILITIES → P ALL-PAGES → (code : ℕ) → known_page code ≡ true → P code
unfolding known_page
known_by P a g c f code e =
    any-cases _ _ e (λ d. by ADDRESSES a d)
    λ e₁. any-cases _ _ e₁ (λ d. by GEOMETRY g d)
    λ e₂. any-cases _ _ e₂ (λ d. by CAPABILITIES c d)
    λ e₃. any-cases _ _ e₃ (λ d. by ALL-PAGES f d) λ e₄. absurd (any-nil e₄)
  where
    by : (page : ℕ) → P page → eqb code page ≡ true → P code
    by page p d = subst P (sym (eqb-true code page d)) p

-- ---- step 4

lower-none : (i j : ℕ) → lower i j ≡ 0 → j ≡ 0
unfolding lower
lower-none i j e =
    let F : ℕ → Type 0 = λ n. n ≡ 0 → j ≡ 0 in
    on F (eqb i 0) (λ _ z. z)
    (λ d. on F (eqb j 0) (λ f _. eqb-true j 0 f) (λ _. on F (leb i j) (λ _ z. absurd (eqb-false i 0 d z)) (λ _ z. z)))
    e

pub answered : (head block list : List ℕ) → fault ModeSense head block list ≡ 0 → no_answer head block ≡ false
unfolding fault own_fault when
answered head block list e = go (no_answer head block) (lower-none _ _ e)
  where
    go : (b : Bool) → ◌≡◌ {A = ℕ} (when b 2 0) 0 → b ≡ false
    go true d = absurd (omega (arith, d))
    go false d = refl
