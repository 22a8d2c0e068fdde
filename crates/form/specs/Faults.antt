-- A byte at fault, as the code tells it: the rules say 0 where there is none. Assumes nothing.
use Rattle.std.specs.Prelude.{ℕ, zero, suc, Option, Some, None}

abbrev pub byte_at : ℕ → Option ℕ
byte_at zero = None
byte_at (suc n) = Some (suc n)
