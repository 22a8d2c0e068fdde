-- What a search finds, in terms of what the code reads, and the marks of it. Assumes nothing.
use Rattle.std.specs.Prelude.{ℕ, ◌+◌, ◌*◌, ◌-◌, ◌<◌, ◌≤◌, ◌≡◌, ◌≢◌, List, [], ◌∷◌, Bool, true, length, take, drop, T, eqb}
use Rattle.rules.specs.Choice.{when, any_of, all_of, differ}
use Rattle.rules.specs.Bytes.{byte, put}
use Rattle.rules.specs.Tables.{Tables, element_at, element_size, tag_size, template_size, volume, search_type, action, next_address}
use Rattle.rules.specs.Roster.{Range, Slot}
use Rattle.rules.specs.Ranges.{total}
use Rattle.rules.specs.Listing.{of_type, at_or_above}
use Rattle.rules.specs.Search.{ANY-STRING, ANY-CHARACTER, label_matches, found}

-- ---- the marks

-- a byte for each place: of these elements, those for which the test holds have another byte than 0
abbrev pub Shows : (Slot → Bool) → List ℕ → List Slot → Type 0
Shows f marks [] = T true
Shows f marks (s ∷ ss) = (differ (byte marks s.place) 0 ≡ f s) × Shows f marks ss

abbrev pub Marked : Tables → List ℕ → List Slot → Type 0
Marked t marks ss = Shows (found t) marks ss

-- the tables have these elements, labels and this search; what is found hangs on nothing else
pub record Sought (t : Tables) (elements tags search : List ℕ) : Type 0 where
  pub elements-is : t.elements ≡ elements
  pub tags-is : t.rest.tags ≡ tags
  pub search_is : t.rest.search ≡ search

-- every volume number that stands in the element table has a label
abbrev pub AllLabelled : List ℕ → List ℕ → Type 0
AllLabelled elements tags = (p : ℕ) → element_at p + element_size ≤ length elements → tag_size * volume elements p ≤ length tags

-- what marking stands on: a record for each element of the ranges, a label for each volume, and marks enough, none of them made
pub record Searchable (rs : List Range) (elements tags marks : List ℕ) : Type 0 where
  pub stands : element_at (total rs) ≤ length elements
  pub labels : AllLabelled elements tags
  pub enough : total rs ≤ length marks
  pub unmarked : (q : ℕ) → byte marks q ≡ 0

-- ---- the template, made ready once for all labels

-- 1 where a label must have the template's own byte: "'?' will match any single character"
unfoldable pub asks : ℕ → ℕ
asks own = when (eqb own ANY-CHARACTER) 0 1

-- byte i of a template goes with that of a label
unfoldable pub goes : List ℕ → List ℕ → ℕ → Bool
goes search shown i = any_of (eqb (byte search i) ANY-CHARACTER ∷ eqb (byte search i) (byte shown i) ∷ [])

-- none of the first i bytes is '*', and it is told of each what it asks
pub record Caring (search care : List ℕ) (i : ℕ) : Type 0 where
  pub far : i ≤ template_size
  pub long : length care ≡ template_size
  pub plain : (j : ℕ) → j < i → byte search j ≢ ANY-STRING
  pub told : (j : ℕ) → j < i → byte care j ≡ asks (byte search j)

-- these are all, or the next is '*'
pub record Cared (search care : List ℕ) (k : ℕ) : Type 0 where
  pub before : Caring search care k
  pub ends : k < template_size → byte search k ≡ ANY-STRING

-- ---- what is found, as the code asks for it

-- a volume's label matches; 0 is no volume
unfoldable pub volume_fits : List ℕ → List ℕ → ℕ → Bool
volume_fits tags search v = all_of (differ v 0 ∷ label_matches search (take tag_size (drop (tag_size * (v - 1)) tags)) ∷ [])

-- there is a search, for elements of this type
unfoldable pub looks_for : List ℕ → Slot → Bool
looks_for search s = all_of (differ (action search) 0 ∷ of_type (search_type search) s ∷ [])

unfoldable pub finds : List ℕ → List ℕ → List ℕ → Slot → Bool
finds elements tags search s =
    all_of (looks_for search s ∷ at_or_above (next_address search) s ∷ volume_fits tags search (volume elements s.place) ∷ [])

abbrev pub slot : ℕ → ℕ → ℕ → Slot
slot kind address place = record { kind = kind; address = address; place = place }

-- ---- one place after the other

-- a place is marked, if its volume fits
unfoldable pub marked_at : List ℕ → List ℕ → List ℕ → ℕ → List ℕ → List ℕ
marked_at elements tags search p marks = when (volume_fits tags search (volume elements p)) (put marks p (1 ∷ [])) marks

-- what the marks of a run's places are, and that no other was touched
pub record RunMarked (r : Range) (place : ℕ) (elements tags search before after : List ℕ) : Type 0 where
  pub inside : (i : ℕ) → i < r.count → differ (byte after (place + i)) 0 ≡ finds elements tags search (slot r.kind (r.first + i) (place + i))
  pub ahead : (q : ℕ) → q < place → byte after q ≡ byte before q
  pub behind : (q : ℕ) → place + r.count ≤ q → byte after q ≡ byte before q

-- what marking a run stands on
pub record RunSearchable (r : Range) (place : ℕ) (elements tags marks : List ℕ) : Type 0 where
  pub stands : element_at (place + r.count) ≤ length elements
  pub labels : AllLabelled elements tags
  pub enough : place + r.count ≤ length marks
  pub unmarked : (q : ℕ) → place ≤ q → byte marks q ≡ 0
