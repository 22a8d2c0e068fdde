-- What bytes that were counted come to. Assumes nothing.
use Prim.Native.Nat.{ℕ, ◌+◌, ◌-◌, ◌≤◌, ◌<◌}
use native.Mathlib.Omega.{arith}
use mathlib.Core.Path.{◌≡◌, refl, sym, ap, ◌∙◌}
use Rattle.std.proofs.Common.{Result, Ok, Err}
use mathlib.Core.List.{List}
use lib.ListN.{length, get_or, drop, length-drop}
use lib.Seq.{take_all}
use Rattle.rules.proofs.Ladder.{eq_is, eq-not}
use Rattle.case_script.specs.declared.word.Word.{Word}
use Rattle.case_script.specs.declared.word.Word.TheVariants.{Command}
use Rattle.case_script.specs.declared.fault.Fault.TheVariants.{Outside}
use Rattle.case_rooms.specs.Parts.{part}
use Rattle.case_rooms.specs.declared.Finding.{Finding}
use Rattle.case_rooms.specs.declared.Finding.TheVariants.{Done, Same, Differs}
use Rattle.case_rooms.specs.Alike.{alike, parted, compared_bytes, untouched, past_count}
use Rattle.case_rooms.proofs.Fronts.{most, still}

-- i bytes at the front are alike
module _ (what : Word) (at i : ℕ) (xs ys : List ℕ) (e : i ≡ alike xs ys) where
  parted-is : (x y : ℕ) → x ≡ get_or xs i 0 → y ≡ get_or ys i 0 → Differs (record { what = what; at = at + i; found = x; expected = y }) ≡ parted what at xs ys
  unfolding parted
  parted-is x y f g = rw (f, g, e)

  module _ (l : length xs ≡ length ys) where
    pub same : length xs ≤ i → Ok Same ≡ compared_bytes what at xs ys
    unfolding compared_bytes
    same h = eq_is _ _ _ _ _ l (ap Ok (eq_is (alike xs ys) (length xs) _ _ _ (omega (arith, most xs ys)) refl))

    pub differs : (x y : ℕ) → i < length xs → x ≡ get_or xs i 0 → y ≡ get_or ys i 0
        → Ok (Differs (record { what = what; at = at + i; found = x; expected = y })) ≡ compared_bytes what at xs ys
    unfolding compared_bytes
    differs x y h f g = eq_is _ _ _ _ _ l (ap Ok (eq-not (alike xs ys) (length xs) _ _ _ (λ q. omega arith) (parted-is x y f g)))

pub other_length : (what : Word) (at : ℕ) (xs ys : List ℕ) → (length xs ≡ length ys → ⊥) → Err Outside ≡ compared_bytes what at xs ys
unfolding compared_bytes
other_length what at xs ys d = eq-not _ _ _ _ _ d refl

-- the bytes past the count, as the code takes them
pub rest-is : (buffer : List ℕ) (count : ℕ) → part buffer count (length buffer) ≡ drop count buffer
unfolding part
rest-is buffer count = take_all (length buffer) (drop count buffer) (omega (arith, length-drop count buffer))

module _ (buffer rest : List ℕ) (count i : ℕ) (p : rest ≡ part buffer count (length buffer)) (e : i ≡ alike rest (untouched (length rest))) where
  is-rest : rest ≡ drop count buffer
  is-rest = p ∙ rest-is buffer count

  pub kept-past : length rest ≤ i → Done ≡ past_count buffer count
  unfolding past_count
  kept-past h =
      rw (← is-rest)
      (eq_is (alike rest (untouched (length rest))) (length rest) _ _ _ (omega (arith, most rest (untouched (length rest)))) refl)

  pub touched : (x y : ℕ) → i < length rest → x ≡ get_or rest i 0 → y ≡ 0xEE
      → Differs (record { what = Command; at = count + i; found = x; expected = y }) ≡ past_count buffer count
  unfolding past_count
  touched x y h f g =
      rw (← is-rest)
      (eq-not (alike rest (untouched (length rest))) (length rest) _ _ _ (λ q. omega arith)
      (parted-is Command count i rest (untouched (length rest)) e x y f (g ∙ sym (still (length rest) i h))))
