-- What the writers of descriptors and pages need and write. Assumes nothing.
use Rattle.std.specs.Prelude.{ℕ, ◌+◌, ◌*◌, ◌≤◌, ◌≡◌, List, [], ◌++◌, map, Bool, length, eqb}
use Rattle.rules.specs.Choice.{when}
use Rattle.rules.specs.Tables.{Tables, lent, labels, element_at, element_size, tag_size, volume}
use Rattle.rules.specs.Roster.{Slot}
use Rattle.rules.specs.Listing.{descriptor, width, page_header, joined}

-- the tables that a descriptor shows: all but the head
abbrev pub stock : List ℕ → List ℕ → List ℕ → Tables
stock elements tags blank = lent [] elements (labels tags blank)

-- what the labels of a stock need: a blank label of full length, and a record for each volume number that stands in the element table
pub record Labelled (t : Tables) : Type 0 where
  pub blank : length t.rest.blank ≡ tag_size
  pub volumes : (p : ℕ) → element_at p + element_size ≤ length t.elements → tag_size * volume t.elements p ≤ length t.rest.tags

-- an element, in numbers
abbrev pub slot : ℕ → ℕ → ℕ → Slot
slot kind address place = record { kind = kind; address = address; place = place }

-- the descriptors of elements, one after the other
abbrev pub descriptors : Bool → Tables → List Slot → List ℕ
descriptors tagged t ss = joined (map (descriptor tagged t) ss)

-- the bytes of a page header and m descriptors; of none, none
unfoldable pub page_bytes : Bool → ℕ → ℕ
page_bytes tagged m = when (eqb m 0) 0 (8 + m * width tagged)

-- a page of n elements, of which these are returned
unfoldable pub shown : Bool → Tables → ℕ → ℕ → List Slot → List ℕ
shown tagged t kind n ss = when (eqb (length ss) 0) [] (page_header tagged kind n ++ descriptors tagged t ss)
