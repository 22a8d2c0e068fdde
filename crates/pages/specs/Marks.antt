-- Marks: a byte for each place, not 0 where the element there is one of those that a listing is of; without marks it is of all. Assumes nothing.
use Rattle.std.specs.Prelude.{ℕ, zero, suc, List, Bool, true, length, eqb}
use Rattle.rules.specs.Choice.{when, differ}
use Rattle.rules.specs.Bytes.{byte}
use Rattle.rules.specs.Roster.{Slot, slots}
use Rattle.rules.specs.Listing.{keep}

unfoldable pub marked_at : List ℕ → ℕ → Bool
marked_at marks p = when (eqb (length marks) 0) true (differ (byte marks p) 0)

abbrev pub marked : List ℕ → Slot → Bool
marked marks s = marked_at marks s.place

-- those of a run that are marked
abbrev pub marked_of : List ℕ → ℕ → ℕ → ℕ → ℕ → List Slot
marked_of marks kind a p n = keep (marked marks) (slots kind a p n)

-- how many of n places are marked, from a place on
unfoldable pub marks_in : List ℕ → ℕ → ℕ → ℕ
marks_in marks zero p = 0
marks_in marks (suc n) p = when (marked_at marks p) (suc (marks_in marks n (suc p))) (marks_in marks n (suc p))

-- how many of n places reach to the m-th that is marked, from a place on; all of them where fewer are
unfoldable pub reach_of : List ℕ → ℕ → ℕ → ℕ → ℕ
reach_of marks zero n p = 0
reach_of marks (suc m) zero p = 0
reach_of marks (suc m) (suc n) p = suc (when (marked_at marks p) (reach_of marks m n (suc p)) (reach_of marks (suc m) n (suc p)))
