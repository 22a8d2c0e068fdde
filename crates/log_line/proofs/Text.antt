-- Where a byte first stands in a text. Assumes nothing.
use Prim.Native.Nat.{ℕ, zero, suc, ◌+◌, ◌-◌, ◌<◌, ◌≤◌}
use native.Mathlib.Omega.{arith}
use native.Mathlib.Numerals.{add-one}
use mathlib.Core.Path.{◌≡◌, refl, sym, ap, ◌∙◌}
use mathlib.Core.Logic.{◌≢◌}
use mathlib.Core.Bool.{Bool, true, false}
use mathlib.Core.List.{List, [], ◌∷◌}
use lib.ListN.{length, get_or, take, drop, length-drop}
use lib.Seq.{drop-cons, drop-length, take_all}
use borrow.Author.Tests.{eq-eqb, ne_eqb}
use Rattle.rules.specs.Log.{first_of, before}
use Rattle.rules.proofs.Ladder.{either, when_true, when_false}

-- a test that does not hold
pub left : (b : Bool) → (b ≡ true → ⊥) → b ≡ false
left true n = absurd (n refl)
left false n = refl

-- ---- by the first byte

pub first-nil : (m : ℕ) → first_of m [] ≡ 0
unfolding first_of
first-nil m = refl

module _ (m x : ℕ) (xs : List ℕ) where
  pub first-mark : x ≡ m → first_of m (x ∷ xs) ≡ 0
  unfolding first_of
  first-mark e = when_true _ _ _ (eq-eqb _ _ e)

  pub first_next : x ≢ m → first_of m (x ∷ xs) ≡ suc (first_of m xs)
  unfolding first_of
  first_next n = when_false _ _ _ (ne_eqb _ _ n)

-- two bytes do not stand first at one place
apart : (m b : ℕ) (s : List ℕ) → m ≢ b → first_of m s ≡ first_of b s → first_of m s ≡ length s
apart m b [] n e = first-nil m
apart m b (x ∷ xs) n e =
    either x m
    (λ i. absurd (let k : x ≢ b = λ j. n (sym i ∙ j) in omega (arith, first-mark m x xs i, first_next b x xs k)))
    λ k.
    either x b
    (λ j. absurd (omega (arith, first_next m x xs k, first-mark b x xs j)))
    λ l. omega (arith, first_next m x xs k, first_next b x xs l, apart m b xs n (omega (arith, first_next m x xs k, first_next b x xs l)))

pub sooner : (m b : ℕ) (s : List ℕ) → m ≢ b → first_of m s < length s → first_of m s ≤ first_of b s → first_of m s < first_of b s
sooner m b s n h k = either (first_of m s) (first_of b s) (λ e. absurd (omega (arith, apart m b s n e))) (λ l. omega arith)

-- from a place on that is not behind it
pub first-from : (b k : ℕ) (s : List ℕ) → k ≤ first_of b s → first_of b s ≡ k + first_of b (drop k s)
first-from b zero s h = omega arith
first-from b (suc k) [] h = absurd (omega (arith, first-nil b))
first-from b (suc k) (x ∷ xs) h =
    either x b
    (λ e. absurd (omega (arith, first-mark b x xs e)))
    (λ n. let z = first_next b x xs n in omega (arith, first-from b k xs (omega arith)))

-- ---- a text from a place on

pub one_at : (s : List ℕ) (i : ℕ) → i < length s → drop i s ≡ get_or s i 0 ∷ drop (i + 1) s
one_at s i h = rw (add-one i) (drop-cons s i 0 h)

pub two_at : (s : List ℕ) (i : ℕ) → i + 1 < length s → drop i s ≡ get_or s i 0 ∷ get_or s (i + 1) 0 ∷ drop (i + 1 + 1) s
two_at s i h = one_at s i (omega arith) ∙ ap (λ (l : List ℕ). get_or s i 0 ∷ l) (one_at s (i + 1) h)

pub none-at : (s : List ℕ) (i : ℕ) → i ≡ length s → drop i s ≡ []
none-at s i e = ap (λ (k : ℕ). drop k s) e ∙ drop-length s

-- a part that goes to the end
pub tail : (s : List ℕ) (n : ℕ) → take (length s - n) (drop n s) ≡ drop n s
tail s n = take_all (length s - n) (drop n s) (omega (arith, length-drop n s))

-- ---- what stands before the first such byte

-- from a place on that is not behind it
pub before-from : (b k : ℕ) (s : List ℕ) → k ≤ first_of b s → drop k (before b s) ≡ before b (drop k s)
before-from b zero s h = refl
before-from b (suc k) [] h = absurd (omega (arith, first-nil b))
before-from b (suc k) (x ∷ xs) h =
    either x b
    (λ e. absurd (omega (arith, first-mark b x xs e)))
    (λ n. let z = first_next b x xs n in rw z (before-from b k xs (omega arith)))

-- ---- the front of a text

-- a mark in it stands where it stood
pub first_taken : (m n : ℕ) (s : List ℕ) → first_of m s < n → first_of m (take n s) ≡ first_of m s
first_taken m zero s h = absurd (omega arith)
first_taken m (suc n) [] h = refl
first_taken m (suc n) (x ∷ xs) h =
    either x m (λ e. first-mark m x _ e ∙ sym (first-mark m x xs e))
    λ k. let z = first_next m x xs k in first_next m x _ k ∙ rw (first_taken m n xs (omega arith)) (sym z)

-- and one behind it is not there
pub none-taken : (m n : ℕ) (s : List ℕ) → n ≤ first_of m s → first_of m (take n s) ≡ length (take n s)
none-taken m zero s h = first-nil m
none-taken m (suc n) [] h = first-nil m
none-taken m (suc n) (x ∷ xs) h =
    either x m (λ e. absurd (omega (arith, first-mark m x xs e)))
    λ k. let z = first_next m x xs k in first_next m x _ k ∙ ap suc (none-taken m n xs (omega arith))
