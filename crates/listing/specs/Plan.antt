-- A listing range by range, as the code goes: which of a range are chosen, how many of those fit, and their bytes. Assumes nothing.
use Rattle.std.specs.Prelude.{ℕ, ◌+◌, ◌-◌, ◌/◌, min, List, [], ◌∷◌, ◌++◌, Bool, length, take, eqb, ltb}
use Rattle.rules.specs.Choice.{when, any_of}
use Rattle.rules.specs.Tables.{Tables}
use Rattle.rules.specs.Roster.{Slot, Range}
use Rattle.rules.specs.Listing.{width, page}
use Rattle.pages.specs.Marks.{marked_of}
use Rattle.pages.specs.Pages.{page_bytes}

-- ---- one range

-- how many of a range stand below start, if it reaches there
abbrev pub skips : ℕ → Range → ℕ
skips start r = start - r.first

-- elements of a type are asked for
unfoldable pub suits : ℕ → ℕ → Bool
suits type kind = any_of (eqb type 0 ∷ eqb type kind ∷ [])

-- those of a range from start on that are marked, its first element standing at place p
unfoldable pub offered : List ℕ → ℕ → ℕ → ℕ → Range → List Slot
offered marks type start p r =
    when (suits type r.kind) (marked_of marks r.kind (r.first + skips start r) (p + skips start r) (r.count - skips start r)) []

-- those that are chosen, of at most left
abbrev pub picked_of : List ℕ → ℕ → ℕ → ℕ → ℕ → Range → List Slot
picked_of marks type start left p r = take left (offered marks type start p r)

-- ---- one page

-- how many of the n elements of a page fit in room, its header with the first
unfoldable pub fits_in : Bool → ℕ → ℕ → ℕ
fits_in tagged room n = when (ltb room (8 + width tagged)) 0 (min n ((room - 8) / width tagged))

-- the room behind a page: none where some of it had no room
unfoldable pub room_behind : Bool → ℕ → ℕ → ℕ → ℕ
room_behind tagged room n m = when (eqb m n) (room - page_bytes tagged m) 0

-- ---- all ranges, the first element of the first at place p

-- the pages of those that are chosen, of at most left
unfoldable pub planned : List ℕ → Bool → Tables → ℕ → ℕ → ℕ → ℕ → List Range → List (List ℕ)
planned marks tagged t type start left p [] = []
planned marks tagged t type start left p (r ∷ rs) =
    page tagged t r.kind (picked_of marks type start left p r)
    ++ planned marks tagged t type start (left - length (picked_of marks type start left p r)) (p + r.count) rs
