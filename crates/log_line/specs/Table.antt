-- The table of digits: the value of every byte, one behind the other. Assumes nothing.
use Rattle.std.specs.Prelude.{ℕ, ◌<◌, ◌≡◌, List, length, get_or}
use Rattle.rules.specs.Log.{digit}

pub record Tabled (digits : List ℕ) : Type 0 where
  pub whole : length digits ≡ 256
  pub values : (b : ℕ) → b < 256 → get_or digits b 0 ≡ digit b
