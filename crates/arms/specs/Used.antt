-- The transport used, by the elements as the code has them. Assumes nothing.
use Rattle.std.specs.Prelude.{ℕ, ◌<◌, List, Bool, Option, Some, None, false, not, eqb}
use Rattle.rules.specs.Choice.{when}
use Rattle.rules.specs.Tables.{holder}
use Rattle.rules.specs.Roster.{Slot, first_transport}
use Rattle.rules.specs.Order.{other}
use Rattle.rules.specs.Moves.{open_transport}
use Rattle.tables.specs.LookUp.{on_found}

-- "the lowest-addressed transport not held by another host"; the first where each is held
abbrev pub open_at : List Slot → List ℕ → ℕ → ℕ
open_at ss elements h = open_transport h elements ss (first_transport ss)

-- "Transport 0 now means" that one; "A transport named by its address is as before."
unfoldable pub arm_at : List Slot → List ℕ → ℕ → ℕ → ℕ
arm_at ss elements h a = when (eqb a 0) (open_at ss elements h) a

-- a place that a look-up tells is below n
abbrev pub Told : ℕ → Option ℕ → Type 0
Told n (Some p) = p < n
Told n None = Unit {0}

-- a look-up tells a place, and no other host holds the element there
unfoldable pub is_open : List ℕ → ℕ → Option ℕ → Bool
is_open elements h f = on_found f (λ p. not (other h (holder elements p))) false
