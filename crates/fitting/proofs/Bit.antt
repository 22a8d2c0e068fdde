-- A byte behind the end of a table, and the bit of a generation in a mask. Assumes nothing.
use Prim.Native.Nat.{ℕ, ◌-◌, ◌/◌, ◌%◌, ◌^◌, ◌<◌, ◌≤◌}
use native.Mathlib.Nat.{div-eq_of_lt}
use native.Mathlib.Omega.{arith}
use mathlib.Core.Path.{◌≡◌, sym}
use mathlib.Core.Bool.{Bool, false}
use mathlib.Core.List.{List}
use lib.Dec.{eqb}
use lib.ListN.{length, get_or-eq_default}
use lib.Pow.{pow_mono}
use Rattle.rules.specs.Bytes.{byte}
use Rattle.rules.specs.Fitting.{accepts}

pub past_end : (xs : List ℕ) (i : ℕ) → length xs ≤ i → 0 ≡ byte xs i
unfolding byte
past_end xs i h = sym (get_or-eq_default xs 0 h)

-- a byte has no bit for a generation above 8
pub none_above : (m g : ℕ) → m < 256 → 8 < g → false ≡ accepts m g
unfolding accepts
none_above m g l h =
    let p : 2 ^ 8 ≤ 2 ^ (g - 1) = pow_mono {i = 8} (omega arith) in
    let z : m / 2 ^ (g - 1) ≡ 0 = div-eq_of_lt (omega (arith, p)) in
    rw z

pub bit-of : (m g b : ℕ) → b ≡ g - 1 → eqb (m / 2 ^ b % 2) 1 ≡ accepts m g
unfolding accepts
bit-of m g b e = rw e

-- mask and generation as they were read
pub taken-by : (xs ys : List ℕ) (d v i m g : ℕ) (r : Bool) → m ≡ byte xs d → i ≡ v - 1 → g ≡ byte ys i → r ≡ accepts m g
    → r ≡ accepts (byte xs d) (byte ys (v - 1))
taken-by xs ys d v i m g r a b e w = rw (a, e, b) at w
