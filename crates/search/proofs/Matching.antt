-- The sequence number of a label, and the type of an element. Assumes nothing.
use Prim.Native.Nat.{ℕ, ◌<◌, ◌≤◌}
use mathlib.Core.Path.{◌≡◌, refl}
use mathlib.Core.Bool.{Bool, true, false}
use mathlib.Core.List.{List}
use lib.Dec.{eqb, leb}
use borrow.Author.Tests.{eq-eqb, ne_eqb, le-leb, lt-leb}
use Rattle.rules.specs.Choice.{when, any_of, all_of}
use Rattle.rules.specs.Bytes.{word}
use Rattle.rules.specs.Tables.{search_type, action, least, greatest}
use Rattle.rules.specs.Roster.{Slot}
use Rattle.rules.specs.Listing.{of_type}
use Rattle.rules.specs.Search.{in_range}
use Rattle.rules.proofs.Ladder.{ne-differ, test-is}
use Rattle.search.specs.Marks.{looks_for}

-- ---- the sequence number

module _ (search shown : List ℕ) where
  pub range-any : (action search ≡ 1 → ⊥) → true ≡ in_range search shown
  unfolding in_range when
  range-any d = rw (ne_eqb _ _ d)

  module _ (e : action search ≡ 1) (n m : ℕ) (number : n ≡ word shown 34) (from : m ≡ least search) where
    pub range-low : n < m → false ≡ in_range search shown
    unfolding in_range when all_of
    range-low h = rw (eq-eqb _ _ e, ← number, ← from, lt-leb m n h)

    pub range-high : m ≤ n → (g : ℕ) → g ≡ greatest search → leb n g ≡ in_range search shown
    unfolding in_range when all_of
    range-high h g to = rw (eq-eqb _ _ e, ← number, ← from, le-leb m n h, ← to) (test-is (leb n g))

-- ---- the type: the last test is the answer

pub looks-last : (search : List ℕ) (s : Slot) → (action search ≡ 0 → ⊥) → (search_type search ≡ 0 → ⊥) → eqb (search_type search) s.kind ≡ looks_for search s
unfolding looks_for of_type all_of any_of when
looks-last search s a t = rw (ne-differ _ _ a, ne_eqb _ _ t) (go (eqb (search_type search) s.kind))
  where
    go : (b : Bool) → b ≡ when (when b true false) true false
    go true = refl
    go false = refl
