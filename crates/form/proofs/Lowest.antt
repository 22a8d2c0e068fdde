-- The lower of two bytes at fault, each told where it is one. Assumes nothing.
use Prim.Native.Nat.{ℕ, zero, suc, min}
use native.Mathlib.Omega.{arith}
use mathlib.Core.Path.{◌≡◌, refl, sym, ap, ◌∙◌}
use mathlib.Core.Logic.{◌≢◌}
use mathlib.Core.Bool.{Bool, true, false}
use Rattle.std.specs.Prelude.{Option, Some, None}
use lib.Dec.{eqb, leb}
use borrow.Author.Tests.{eqb-true, ne_eqb, leb-true, leb-false}
use Rattle.rules.specs.Choice.{when}
use Rattle.rules.specs.Form.{lower}
use Rattle.form.specs.Faults.{byte_at}

pub some-at : (n : ℕ) → n ≢ 0 → Some n ≡ byte_at n
some-at zero d = absurd (d refl)
some-at (suc n) d = refl

-- what is told is a byte, and no byte is told where there is none
pub told-is : (i n : ℕ) → Some i ≡ byte_at n → i ≡ n
told-is i zero e = cc
told-is i (suc n) e = cc

pub told-some : (i n : ℕ) → Some i ≡ byte_at n → n ≢ 0
told-some i zero e = cc
told-some i (suc n) e = λ q. omega arith

pub told-none : (n : ℕ) → None ≡ byte_at n → n ≡ 0
told-none zero e = refl
told-none (suc n) e = cc

-- where one tells of none it is the other
pub lower-second : (j : Option ℕ) (m n : ℕ) → None ≡ byte_at m → j ≡ byte_at n → j ≡ byte_at (lower m n)
unfolding lower when
lower-second j m n e f = rw (told-none m e) f

pub lower-first : (i : Option ℕ) (m n : ℕ) → i ≡ byte_at m → None ≡ byte_at n → i ≡ byte_at (lower m n)
unfolding lower when
lower-first i m n e f = e ∙ ap byte_at (go (eqb m 0) refl)
  where
    go : (b : Bool) → eqb m 0 ≡ b → m ≡ when b n (when (eqb n 0) m (when (leb m n) m n))
    go true d = eqb-true m 0 d ∙ sym (told-none n f)
    go false d = rw (told-none n f) refl

pub lower-both : (i j m n : ℕ) → Some i ≡ byte_at m → Some j ≡ byte_at n → Some (min i j) ≡ byte_at (lower m n)
unfolding lower when
lower-both i j m n e f =
    rw (ne_eqb m 0 (told-some i m e), ne_eqb n 0 (told-some j n f), told-is i m e, told-is j n f) (go (leb m n) refl)
  where
    go : (t : Bool) → leb m n ≡ t → Some (min m n) ≡ byte_at (when t m n)
    go true d = let l = leb-true m n d in let x : min m n ≡ m = omega arith in rw x (some-at m (told-some i m e))
    go false d = let l = leb-false m n d in let x : min m n ≡ n = omega arith in rw x (some-at n (told-some j n f))
