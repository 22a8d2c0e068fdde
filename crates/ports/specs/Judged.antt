-- Import and export as the code judges them, and what each answer means in the rules. Assumes nothing.
use Rattle.std.specs.Prelude.{ℕ, ◌*◌, ◌<◌, ◌≤◌, ◌≡◌, List, [], ◌∷◌, Option, Some, None, Result, Ok, Err, length, eqb}
use Rattle.rules.specs.Choice.{when}
use Rattle.rules.specs.Tables.{element_size, most_volumes, volumes, Fill, Announce}
use Rattle.rules.specs.Roster.{roster}
use Rattle.rules.specs.Order.{Verdict, Number, Prevented}
use Rattle.rules.specs.Events.{preventers, lowest, done}
use Rattle.tables.specs.declared.Range.{Range}
use Rattle.tables.specs.Ranges.{Runs}
use Rattle.order.specs.declared.House.{House}
use Rattle.order.specs.declared.House.TheVariants as house
use Rattle.ports.specs.declared.Fill.{Fill as Filled}

-- number 7 by a mask that is not 0
abbrev pub prevented_by : ℕ → House
prevented_by m = house.Prevented (preventers m) (lowest m)

-- the place that was found, if no host locks it: numbers 6 and 7
unfoldable pub port_by : Option ℕ → ℕ → Result ℕ House
port_by None m = Err house.UnknownPort
port_by (Some p) m = when (eqb m 0) (Ok p) (Err (prevented_by m))

-- why a call is refused, as the rules say it
unfoldable pub refusal : House → Verdict
refusal house.UnsoundTables = Number 1
refusal house.UnknownHost = Number 2
refusal house.BlockLength = Number 3
refusal house.ParameterLength = Number 4
refusal house.ShortBuffer = Number 5
refusal house.UnknownPort = Number 6
refusal (house.Prevented n h) = Prevented n h
refusal house.PortContent = Number 8
refusal house.WrongVolume = Number 9

-- what an answer means: "a definition gives this paper's number and values for each case"
unfoldable pub meaning : Result Filled House → Verdict
meaning (Ok f) = done (Fill f.place f.volume 0 f.mark ∷ Announce 0x28 0x01 ∷ [])
meaning (Err why) = refusal why

-- an element to fill is one of the n
abbrev pub Within : ℕ → Result Filled House → Type 0
Within n (Ok f) = f.place < n
Within n (Err why) = Unit {0}

-- ---- what the functions ask for

-- an import/export element can be looked up and reached
pub record Ported (runs : List Range) (head elements : List ℕ) : Type 0 where
  pub runs-are : Runs runs head
  pub elements-long : length elements ≡ element_size * length (roster head)

-- and a volume number can be told
pub record Importable (runs : List Range) (head elements tags : List ℕ) : Type 0 where
  pub ported : Ported runs head elements
  pub volumes-few : volumes tags ≤ most_volumes
