-- What a line finds, and what it comes to. Assumes nothing.
use Rattle.std.specs.Prelude.{ℕ, ◌+◌, ◌≤◌, ◌≡◌, true, List, Option, Some, None, length}
use Rattle.rules.specs.Tables.{Tables, Rest, lent, searching}
use Rattle.rules.specs.Sound.{sound}
use Rattle.rules.specs.Log.{LINE-FEED, first_of}
use Rattle.rules.specs.Replay.{Turn, idle}
use Rattle.tables.specs.declared.Range.{Range}
use Rattle.tables.specs.declared.Fixed.{Fixed}
use Rattle.tables.specs.Ranges.{Runs}
use Rattle.log_steps.specs.Recorded.{Given}

-- what every line finds and leaves: tables that are sound, with a rest that has what a line reads, and their runs
pub record Kept (runs : List Range) (head elements : List ℕ) (fixed : Fixed) (search : List ℕ) : Type 0 where
  pub rest : Rest
  pub given : Given rest fixed
  pub sound-now : sound (lent head elements (searching rest search)) ≡ true
  pub runs-are : Runs runs head

-- of a line that was applied, the bytes that it takes; with the tables as they then are
abbrev pub turned : Option ℕ → Tables → Turn
turned None t = idle t
turned (Some n) t = record { applied = true; tables = t }

-- a line that was applied takes the bytes up to its line feed
abbrev pub Taken : Option ℕ → List ℕ → Type 0
Taken None s = Unit {0}
Taken (Some n) s = (n ≡ first_of LINE-FEED s + 1) × (n ≤ length s)
