-- What the code's ranges stand for: those of the rules, and the elements that they make. Assumes nothing.
use Rattle.std.specs.Prelude.{◌≡◌, ℕ, suc, Bool, List, [], ◌∷◌, ◌++◌, map, take, drop, ◌==◌, nat_le, nat_lt, slice_index_or}
use Rattle.rules.specs.Choice.{all_of, differ}
use Rattle.rules.specs.Roster.{Range, Slot, ranges, insert, sorted, spread, transport}
use Rattle.rules.specs.Sound.{behind}
use Rattle.tables.specs.declared.Range.{Range as Declared}

abbrev pub meaning : Declared → Range
meaning r = record { kind = r.kind; first = r.first; count = r.count }

-- "these four ranges are handed about together as one small table"
unfoldable pub meant : List Declared → List Range
meant rs = map meaning rs

-- the runs of a head's table: its ranges by first address
abbrev pub Runs : List Declared → List ℕ → Type 0
Runs runs head = meant runs ≡ sorted (ranges head)

-- every element of the runs, one run after the other
unfoldable pub laid : List Declared → List Slot
laid runs = spread 0 (meant runs)

abbrev pub no_range : Range
no_range = record { kind = 0; first = 0; count = 0 }

-- the range at k put to its place among those behind it
unfoldable pub inserted : ℕ → List Range → List Range
inserted k rs = take k rs ++ insert (slice_index_or rs k no_range) (drop (suc k) rs)

-- an address lies in a range
unfoldable pub lies : Range → ℕ → Bool
lies r a = all_of (nat_le r.first a ∷ nat_lt a (behind r) ∷ [])

-- the range holds transports
unfoldable pub leads : Range → Bool
leads r = all_of ((r.kind == transport) ∷ differ r.count 0 ∷ [])
