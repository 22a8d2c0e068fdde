-- The sense record, made, read from bytes and written as bytes. Assumes nothing.
use Rattle.std.specs.Prelude.{ℕ, ◌+◌, List, [], ◌∷◌}
use Rattle.rules.specs.Bytes.{byte}
use Rattle.record.specs.declared.Sense.{Sense}

abbrev pub sense_of : ℕ → ℕ → ℕ → Sense
sense_of k a q = record { key = k; asc = a; ascq = q }

abbrev pub sense_at : List ℕ → ℕ → Sense
sense_at head at = sense_of (byte head at) (byte head (at + 1)) (byte head (at + 2))

abbrev pub bytes_of : Sense → List ℕ
bytes_of s = s.key ∷ s.asc ∷ s.ascq ∷ []
