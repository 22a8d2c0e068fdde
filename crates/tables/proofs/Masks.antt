-- The counts of a mask's bits are what the rules say of its hosts: tests that are computed over all masks, and the laws that turn them
-- into the rule at each. Assumes nothing.
use Rattle.std.proofs.Common.{◌≡◌, ℕ, zero, suc, ◌+◌, ◌-◌, ◌*◌, ◌/◌, ◌%◌, ◌^◌, ◌<◌, ◌≤◌, Bool, true, false, eqb, ltb, refl, ◌∙◌, not-suc-le-zero, one-mul, arith, pow_pos, shl_exact, ltb-false, ltb-true, ne_eqb, eqb-true}
use native.Mathlib.Nat.{div-eq_of_lt}
use lib.Count.{ones, ones_in, count_trailing_zeros}
use Rattle.rules.specs.Choice.{when, below}
use Rattle.rules.specs.Tables.{hosts, host_bit, prevents, allowing, preventing}
use Rattle.rules.specs.Events.{preventers, preventers_from, lowest, lowest_from}
use Rattle.rules.proofs.Ladder.{below_at, eq_is, eq-not}

-- every mask is below this
abbrev pub masks : ℕ
masks = 256

-- a test that holds of each mask, and of each mask with each host
at : (f : ℕ → Bool) → below masks f ≡ true → (m : ℕ) → m < masks → f m ≡ true
at f e m h = below_at masks f e m h

ones_right : ℕ → Bool
ones_right m = eqb (ones m) (preventers m)

ones-right : below masks ones_right ≡ true
unfolding below when ones_right ones ones_in preventers preventers_from prevents
ones-right = refl

pub ones-are : (m : ℕ) → m < masks → ones m ≡ preventers m
unfolding ones_right
ones-are m h = eqb-true (ones m) (preventers m) (at ones_right ones-right m h)

-- the mask with no host has no lowest
zeros_right : ℕ → Bool
zeros_right m = when (eqb m 0) true (eqb (count_trailing_zeros 8 m + 1) (lowest m))

zeros-right : below masks zeros_right ≡ true
unfolding below when zeros_right count_trailing_zeros lowest lowest_from prevents
zeros-right = refl

pub zeros-are : (m : ℕ) → m < masks → (m ≡ 0 → ⊥) → count_trailing_zeros 8 m + 1 ≡ lowest m
unfolding zeros_right when
zeros-are m h d = eqb-true (count_trailing_zeros 8 m + 1) (lowest m) (rw (ne_eqb m 0 d) at (at zeros_right zeros-right m h))

-- ---- a host's bit

pub bit-pos : (h : ℕ) → 0 < host_bit h
bit-pos h = pow_pos (h - 1)

-- shifting 1 to a host's place loses nothing
pub bit_is : (h : ℕ) → 1 ≤ h → h ≤ hosts → 1 * 2 ^ (h - 1) % 2 ^ 8 ≡ host_bit h
bit_is h l u = shl_exact {a = 1} 1 (h - 1) 8 (omega arith) (omega arith) ∙ one-mul (2 ^ (h - 1))

-- a bit that is set is part of the mask
pub bit_le : (m b : ℕ) → m / b % 2 ≡ 1 → b ≤ m
bit_le m b e = go (ltb m b) refl
  where
    go : (t : Bool) → ltb m b ≡ t → b ≤ m
    go true t =
        let z : m / b ≡ 0 = div-eq_of_lt (ltb-true m b t) in
        let w : 0 % 2 ≡ 1 = rw z at e in
        absurd (let x : ⊥ = omega arith in x)
    go false t = ltb-false m b t

fits_right : ℕ → Bool
fits_right m = below hosts (λ i. ltb (preventing m (suc i)) masks)

fits-right : below masks fits_right ≡ true
unfolding below when fits_right preventing prevents
fits-right = refl

-- the mask with a bit set is a mask
preventing-fits : (m h : ℕ) → m < masks → 1 ≤ h → h ≤ hosts → preventing m h < masks
unfolding fits_right
preventing-fits m (suc i) h l u =
    ltb-true (preventing m (suc i)) masks (below_at hosts (λ j. ltb (preventing m (suc j)) masks) (at fits_right fits-right m h) i (omega arith))
preventing-fits m zero h l u = absurd (not-suc-le-zero l)

-- the mask with a bit b cleared or set, by the test that the code makes
module _ (m h b : ℕ) (is : b ≡ host_bit h) where
  pub allow-set : m / b % 2 ≡ 1 → m - b ≡ allowing m h
  unfolding allowing prevents
  allow-set e = rw is (eq_is (m / host_bit h % 2) 1 (m - host_bit h) m (m - host_bit h) (rw is at e) refl)

  pub allow-clear : (m / b % 2 ≡ 1 → ⊥) → m ≡ allowing m h
  unfolding allowing prevents
  allow-clear d = eq-not (m / host_bit h % 2) 1 (m - host_bit h) m m (rw is at d) refl

  pub prevent-set : m / b % 2 ≡ 1 → m ≡ preventing m h
  unfolding preventing prevents
  prevent-set e = eq_is (m / host_bit h % 2) 1 m (m + host_bit h) m (rw is at e) refl

  pub prevent-clear : (m / b % 2 ≡ 1 → ⊥) → m + b ≡ preventing m h
  unfolding preventing prevents
  prevent-clear d = rw is (eq-not (m / host_bit h % 2) 1 m (m + host_bit h) (m + host_bit h) (rw is at d) refl)

  pub prevent-fits : m < masks → 1 ≤ h → h ≤ hosts → (m / b % 2 ≡ 1 → ⊥) → m + b < masks
  prevent-fits l u v d = rw (prevent-clear d) (preventing-fits m h l u v)
