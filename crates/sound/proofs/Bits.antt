-- Marks as bits: one bit is set, and every other is as it was. Assumes nothing.
use Rattle.std.proofs.Common.{◌≡◌, ℕ, suc, ◌+◌, ◌-◌, ◌*◌, ◌/◌, ◌%◌, ◌^◌, ◌<◌, max, Bool, true, false, eqb, ltb, ◌≢◌, List, length, get_or, set, replicate, refl, ap, ◌∙◌, mod-lt, one-mul, pow-suc, arith, length-set, get_or-set_other, get_or-set_same, pow_pos, pow-add, shl_exact, ltb-false, ltb-true, eqb-true}
use native.Mathlib.Nat.{max-zero, max-eq_right, div-eq_of_lt, div_self, zero-div}
use lib.Bits.{bit_or, or_step, or_shr}
use lib.ListN.{get_or-replicate}
use lib.Pow.{pow-lt, shl-shr}
use borrow.Author.Tests.{eqb-false}
use Rattle.sound.specs.Checks.{marked, marking}

-- ---- the bit k set in a number

-- the last bit of two numbers put together, where the second's is known
last-zero : (a b : ℕ) → b % 2 ≡ 0 → bit_or a b % 2 ≡ a % 2
last-zero a b e =
    let m : max (a % 2) (b % 2) ≡ a % 2 = rw e (max-zero (a % 2)) in
    omega (arith, or_step a b, m)

last_one : (a b : ℕ) → b % 2 ≡ 1 → bit_or a b % 2 ≡ 1
last_one a b e =
    let l : a % 2 < 2 = mod-lt a (omega arith) in
    let m : max (a % 2) (b % 2) ≡ 1 = max-eq_right (omega arith) ∙ e in
    omega (arith, or_step a b, m)

pow-down : (m j : ℕ) → 2 ^ (m + j) / 2 ^ j ≡ 2 ^ m
pow-down m j = rw (pow-add 2 m j) (shl-shr (2 ^ m) j)

-- the bit of a power at another place
pow-other : (k j : ℕ) → j ≢ k → 2 ^ k / 2 ^ j % 2 ≡ 0
pow-other k j d = go (ltb k j) refl
  where
    go : (b : Bool) → ltb k j ≡ b → 2 ^ k / 2 ^ j % 2 ≡ 0
    go true t = let z : 2 ^ k / 2 ^ j ≡ 0 = div-eq_of_lt (pow-lt (ltb-true k j t)) in omega arith
    go false t =
        let l = ltb-false k j t in
        let m = k - suc j in
        let e : k ≡ suc m + j = omega arith in
        let z : 2 ^ k / 2 ^ j ≡ 2 ^ suc m = ap (λ (n : ℕ). 2 ^ n / 2 ^ j) e ∙ pow-down (suc m) j in
        omega (arith, z, pow-suc 2 m)

bit-same : (w k : ℕ) → bit_or w (2 ^ k) / 2 ^ k % 2 ≡ 1
bit-same w k =
    let o : 2 ^ k / 2 ^ k % 2 ≡ 1 = ap (λ (n : ℕ). n % 2) (div_self (pow_pos k)) in
    rw (or_shr w (2 ^ k) k) (last_one (w / 2 ^ k) (2 ^ k / 2 ^ k) o)

bit-other : (w k j : ℕ) → j ≢ k → bit_or w (2 ^ k) / 2 ^ j % 2 ≡ w / 2 ^ j % 2
bit-other w k j d = rw (or_shr w (2 ^ k) j) (last-zero (w / 2 ^ j) (2 ^ k / 2 ^ j) (pow-other k j d))

-- shifting 1 to a place in a word loses nothing
pub bit_is : (v : ℕ) → 1 * 2 ^ (v % 64) % 2 ^ 64 ≡ 2 ^ (v % 64)
bit_is v = shl_exact {a = 1} 1 (v % 64) 64 (omega arith) (omega arith) ∙ one-mul (2 ^ (v % 64))

-- ---- a number marked in a table of words

pub none-marked : (n y : ℕ) → y < 64 * n → marked (replicate n 0) y ≡ false
unfolding marked
none-marked n y h = rw (get_or-replicate {A = ℕ} n (y / 64) 0 0 (omega arith), zero-div (2 ^ (y % 64)))

module _ (seen : List ℕ) (v : ℕ) (small : v < 64 * length seen) where
  word-there : v / 64 < length seen
  word-there = omega arith

  pub marked-same : marked (marking seen v) v ≡ true
  unfolding marked marking
  marked-same = rw (get_or-set_same seen (v / 64) (bit_or (get_or seen (v / 64) 0) (2 ^ (v % 64))) 0 word-there, bit-same (get_or seen (v / 64) 0) (v % 64))

  pub marked_other : (y : ℕ) → v ≢ y → marked (marking seen v) y ≡ marked seen y
  unfolding marked marking
  marked_other y d = go (eqb (y / 64) (v / 64)) refl
    where
      go : (b : Bool) → eqb (y / 64) (v / 64) ≡ b
          → eqb (get_or (set seen (v / 64) (bit_or (get_or seen (v / 64) 0) (2 ^ (v % 64)))) (y / 64) 0 / 2 ^ (y % 64) % 2) 1
          ≡ eqb (get_or seen (y / 64) 0 / 2 ^ (y % 64) % 2) 1
      go true t =
          let e : y / 64 ≡ v / 64 = eqb-true (y / 64) (v / 64) t in
          let n : y % 64 ≢ v % 64 = λ q. d (omega arith) in
          rw (e, get_or-set_same seen (v / 64) (bit_or (get_or seen (v / 64) 0) (2 ^ (v % 64))) 0 word-there, bit-other (get_or seen (v / 64) 0) (v % 64) (y % 64) n)
      go false t =
          rw (get_or-set_other seen (v / 64) (y / 64) (bit_or (get_or seen (v / 64) 0) (2 ^ (v % 64))) 0 (eqb-false (y / 64) (v / 64) t))

pub marking-length : (seen : List ℕ) (v : ℕ) → length (marking seen v) ≡ length seen
unfolding marking
marking-length seen v = length-set seen (v / 64) (bit_or (get_or seen (v / 64) 0) (2 ^ (v % 64)))
