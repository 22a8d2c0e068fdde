-- The writes of an element's fields, one after the other, are the write of the rules. Assumes nothing.
use Rattle.std.proofs.Common.{◌≡◌, ℕ, ◌+◌, List, [], ◌∷◌, set, refl}
use native.Mathlib.Numerals.{add-two}
use Rattle.rules.specs.Bytes.{put, high, low}
use Rattle.rules.specs.Tables.{element_at, filled}

pub fill_is : (es fs gs : List ℕ) (p v s m : ℕ) → fs ≡ put es (element_at p) (high v ∷ low v ∷ [])
    → gs ≡ put fs (element_at p + 2) (high s ∷ low s ∷ []) → set gs (element_at p + 6) m ≡ filled es p v s m
unfolding filled put
fill_is es fs gs p v s m e f = rw (f, e, add-two) refl
