-- "Any free arm": which transport a MOVE or EXCHANGE uses whose block has transport 0. No answer shows it. Assumes nothing.
use Rattle.std.specs.Prelude.{ℕ, ◌<◌, ◌≡◌, true}
use Rattle.rules.specs.Roster.{roster, kind_of, transport}
use Rattle.rules.specs.Tables.{Tables}
use Rattle.rules.specs.Sound.{sound}
use Rattle.rules.specs.Order.{held_by_other}
use Rattle.rules.specs.Moves.{transport_used}

-- of the arm at address a, for host h
pub record OpenArm (t : Tables) (h a : ℕ) : Type 0 where
  -- it is an arm
  pub is-transport : kind_of (roster t.head) a ≡ transport
  -- "the lowest-addressed transport not held by another host": every arm below it is held by another host
  pub none-lower : (b : ℕ) → kind_of (roster t.head) b ≡ transport → b < a → held_by_other t h b ≡ true
  -- "must not stall because the first arm is reserved": if it is held by another host, so is every arm
  pub held-last : held_by_other t h a ≡ true → (b : ℕ) → kind_of (roster t.head) b ≡ transport → held_by_other t h b ≡ true

-- "Transport 0 now means" that arm, for every host and on all sound tables
abbrev pub FreeArm : Type 0
FreeArm = (t : Tables) → sound t ≡ true → (h : ℕ) → OpenArm t h (transport_used t h 0)
