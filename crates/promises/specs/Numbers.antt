-- Demand 1: "refused by number": for any call on any tables, which house number it ends with. Assumes nothing.
use Rattle.std.specs.Prelude.{ℕ, ◌≡◌}
use Rattle.rules.specs.Tables.{Tables}
use Rattle.rules.specs.Command.{Call, serve}
use Rattle.rules.specs.Numbers.{Foremost}

-- a call ends with number n exactly when n's condition holds and that of no lower number does, and with 0 exactly when none does
pub record Exactly (t : Tables) (c : Call) (n : ℕ) : Type 0 where
  pub only-when : (serve t c).number ≡ n → Foremost t c n
  pub whenever : Foremost t c n → (serve t c).number ≡ n

abbrev pub NumbersExact : Type 0
NumbersExact = (t : Tables) (c : Call) (n : ℕ) → Exactly t c n
