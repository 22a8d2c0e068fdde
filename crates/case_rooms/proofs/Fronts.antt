-- Bytes that are alike at the front: where an iterator finds the first that are not, and that nothing but equal bytes are alike to the end.
-- Assumes nothing.
use Rattle.std.proofs.Common.{Option, Some, None, not, cond}
use Rattle.std.specs.List.{position_or_len, zip}
use Rattle.std.specs.Option.{unwrap_or}
use Rattle.case_rooms.proofs.Clamped.{sides}
use Prim.Native.Nat.{ℕ, suc, ◌+◌, ◌≤◌, ◌<◌}
use native.Mathlib.Nat.{zero-add}
use native.Mathlib.Numerals.{add-one}
use native.Mathlib.Omega.{arith}
use mathlib.Core.Path.{◌≡◌, refl, sym, ap, ◌∙◌}
use mathlib.Core.Bool.{Bool, true, false}
use mathlib.Core.List.{List, [], ◌∷◌}
use lib.ListN.{length, get_or, drop, length-replicate, get_or-replicate, drop_of_length-le}
use lib.Seq.{drop-cons}
use lib.Dec.{eqb, ltb}
use borrow.Author.Tests.{eq-eqb, ne_eqb, eqb-true, lt-ltb, le-ltb}
use Rattle.rules.specs.Choice.{when}
use Rattle.case_rooms.specs.Alike.{alike, untouched}

-- ---- the first bytes that differ, as an iterator finds them

abbrev pub differ : ℕ × ℕ → Bool
differ p = not (eqb p.0 p.1)

abbrev pub touched : ℕ → Bool
touched x = not (eqb x 0xEE)

pub alike_is : (xs ys : List ℕ) → position_or_len differ (zip xs ys) ≡ alike xs ys
unfolding alike when
alike_is [] ys = refl
alike_is (x ∷ xs) [] = refl
alike_is (x ∷ xs) (y ∷ ys) = go (eqb x y) (alike_is xs ys)
  where
    go : (b : Bool) → position_or_len differ (zip xs ys) ≡ alike xs ys
        → cond (not (not b)) (1 + position_or_len differ (zip xs ys)) 0 ≡ when b (suc (alike xs ys)) 0
    go true h = omega arith
    go false h = refl

pub untouched_is : (xs : List ℕ) → position_or_len touched xs ≡ alike xs (untouched (length xs))
unfolding alike when untouched
untouched_is [] = refl
untouched_is (x ∷ xs) = go (eqb x 0xEE) (untouched_is xs)
  where
    go : (b : Bool) → position_or_len touched xs ≡ alike xs (untouched (length xs))
        → cond (not (not b)) (1 + position_or_len touched xs) 0 ≡ when b (suc (alike xs (untouched (length xs)))) 0
    go true h = omega arith
    go false h = refl

-- where it was found; all that there are where it was not
pub found_is : (r : Option ℕ) (p n x : ℕ) → r ≡ cond (ltb p n) (Some p) None → p ≤ n → x ≡ unwrap_or r n → x ≡ p
found_is r p n x e h f =
    sides n p (λ g. let no : ltb p n ≡ false = le-ltb p n g in let i : n ≡ p = omega arith in f ∙ rw (e, no) i)
    (λ g. let yes : ltb p n ≡ true = lt-ltb p n g in f ∙ rw (e, yes) refl)

pub most : (xs ys : List ℕ) → alike xs ys ≤ length xs
unfolding alike when
most [] ys = omega arith
most (x ∷ xs) [] = omega arith
most (x ∷ xs) (y ∷ ys) = go (eqb x y) (most xs ys)
  where
    go : (b : Bool) → alike xs ys ≤ length xs → when b (suc (alike xs ys)) 0 ≤ suc (length xs)
    go true h = omega arith
    go false h = omega arith

-- ---- bytes that should all be EEh

pub still : (n i : ℕ) → i < n → get_or (untouched n) i 0 ≡ 0xEE
unfolding untouched
still n i h = get_or-replicate n i 0xEE 0 h

pub as_many : (n : ℕ) → length (untouched n) ≡ n
unfolding untouched
as_many n = length-replicate n 0xEE

-- ---- "compared equal exactly when they are equal"

pub whole : (xs : List ℕ) → alike xs xs ≡ length xs
unfolding alike when
whole [] = refl
whole (x ∷ xs) = rw (eq-eqb x x refl) (ap suc (whole xs))

pub equal : (xs ys : List ℕ) → length xs ≡ length ys → alike xs ys ≡ length xs → xs ≡ ys
unfolding alike when
equal [] [] l e = refl
equal [] (y ∷ ys) l e = absurd (omega arith)
equal (x ∷ xs) [] l e = absurd (omega arith)
equal (x ∷ xs) (y ∷ ys) l e = go (eqb x y) refl e (λ f. equal xs ys (omega arith) f)
  where
    go : (b : Bool) → eqb x y ≡ b → when b (suc (alike xs ys)) 0 ≡ suc (length xs) → (alike xs ys ≡ length xs → xs ≡ ys) → x ∷ xs ≡ y ∷ ys
    go true t f ih = let i : x ≡ y = eqb-true x y t in let j : xs ≡ ys = ih (omega arith) in cc
    go false t f ih = absurd (omega arith)
