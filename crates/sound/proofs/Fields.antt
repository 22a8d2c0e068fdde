-- The short ways at an element: two bytes that are 0 as one number. Assumes nothing.
use Rattle.std.proofs.Common.{◌≡◌, ℕ, ◌+◌, Bool, true, List, eqb, [], ◌∷◌, false, sym, refl, ap, ◌∙◌, arith}
use Rattle.rules.specs.Choice.{when, any_of, all_of}
use Rattle.rules.specs.Bytes.{byte, word}
use Rattle.rules.specs.Tables.{element_at, mark, zero_byte, holder, id}
use Rattle.rules.specs.Sound.{mark_sound, hold_sound}
use Rattle.sound.specs.Checks.{ending_sound}

word_none : (es : List ℕ) (i : ℕ) → word es i ≡ 0 → (byte es i ≡ 0) × (byte es (i + 1) ≡ 0)
unfolding word
word_none es i e = (omega arith, omega arith)

module _ (es : List ℕ) (p : ℕ) where
  pub ending_none : (kind v : ℕ) → word es (element_at p + 6) ≡ 0 → ending_sound kind v es p ≡ true
  unfolding ending_sound mark_sound mark zero_byte all_of when
  ending_none kind v e =
      let both = word_none es (element_at p + 6) e in
      let i : element_at p + 6 + 1 ≡ element_at p + 7 = omega arith in
      let z : byte es (element_at p + 7) ≡ 0 = ap (byte es) (sym i) ∙ both.1 in
      rw (both.0, z)

  pub held_none : (u : ℕ) → word es (element_at p + 4) ≡ 0 → hold_sound u (holder es p) (id es p) ≡ true
  unfolding holder id hold_sound any_of all_of when
  held_none u e =
      let both = word_none es (element_at p + 4) e in
      let i : element_at p + 4 + 1 ≡ element_at p + 5 = omega arith in
      let z : byte es (element_at p + 5) ≡ 0 = ap (byte es) (sym i) ∙ both.1 in
      rw (both.0, z) (free (eqb u 0) (eqb 0 u))
    where
      free : (a b : Bool) → all_of (true ∷ true ∷ any_of (a ∷ true ∷ b ∷ []) ∷ []) ≡ true
      free true b = refl
      free false b = refl
