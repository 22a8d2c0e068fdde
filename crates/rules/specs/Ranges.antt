-- Lists of ranges: what contracts say of each, of each two, and how many elements they have. Assumes nothing.
use Rattle.std.specs.Prelude.{ℕ, ◌+◌, ◌≢◌, true, List, [], ◌∷◌, T}
use Rattle.rules.specs.Roster.{Range}

-- each range of a list
abbrev pub Each : (Range → Type 0) → List Range → Type 0
Each P [] = T true
Each P (r ∷ rs) = P r × Each P rs

-- each range of a list with each behind it
abbrev pub Pairs : (Range → Range → Type 0) → List Range → Type 0
Pairs R [] = T true
Pairs R (r ∷ rs) = Each (R r) rs × Pairs R rs

-- they are of different types
abbrev pub Differ : Range → Range → Type 0
Differ r s = r.kind ≢ s.kind

-- how many elements the ranges have
unfoldable pub total : List Range → ℕ
total [] = 0
total (r ∷ rs) = r.count + total rs
