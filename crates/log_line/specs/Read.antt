-- What is read of a line, as a line of the rules. Assumes nothing.
use Rattle.std.specs.Prelude.{ℕ, ◌+◌, ◌*◌, ◌<◌, ◌≤◌, ◌≡◌, List, Option, Some, None, length, take, drop}
use Rattle.rules.specs.Log.{LINE-FEED, first_of, Line, Other, entry_of}
use Rattle.log_line.specs.declared.Entry.{Entry}

-- the bytes stand at the front of the two rooms
abbrev pub meant : Option Entry → List ℕ → List ℕ → Line
meant None block list = Other
meant (Some e) block list = entry_of e.number e.host (take e.block block) (take e.list list)

-- the rooms hold all the bytes that a text can write, one of two digits each; the text goes on at a place
pub record Room (at : ℕ) (s block list : List ℕ) : Type 0 where
  pub started : at ≤ length s
  pub for-block : length s ≤ 2 * length block + 1
  pub for-list : length s ≤ 2 * length list + 1

-- the bytes are not more than the rooms hold, and the line feed stands at the end
pub record Held (n m e at : ℕ) (s block list : List ℕ) : Type 0 where
  pub block_held : n ≤ length block
  pub list_held : m ≤ length list
  pub ends : e ≡ at + first_of LINE-FEED (drop at s)
  pub inside : e < length s

abbrev pub Within : Option Entry → ℕ → List ℕ → List ℕ → List ℕ → Type 0
Within None at s block list = Unit {0}
Within (Some e) at s block list = Held e.block e.list e.end at s block list
