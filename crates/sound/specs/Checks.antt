-- What the parts of the check are handed, and what they tell of the part of a table that they look at. Assumes nothing.
use Rattle.std.specs.Prelude.{◌≡◌, ℕ, zero, suc, ◌+◌, ◌-◌, ◌*◌, ◌/◌, ◌%◌, ◌^◌, ◌<◌, ◌≤◌, Bool, true, not, List, [], ◌∷◌, length, ◌==◌, bit_or, nat_le, slice_index, slice_set}
use Rattle.rules.specs.Choice.{when, any_of, all_of, differ, below}
use Rattle.rules.specs.Bytes.{byte}
use Rattle.rules.specs.Tables.{element_size, behind_last, search_type, next_address, volume, source, mark, holder, id, zero_byte}
use Rattle.rules.specs.Roster.{Range, Slot, kind_at, kind_of, place_of, transport, storage, drive}
use Rattle.rules.specs.Fitting.{accepts}
use Rattle.rules.specs.Sound.{mark_sound, stock_sound, hold_sound, once}
use Rattle.tables.specs.Ranges.{lies}

-- ---- an element by itself, and beside those before it; u is the unit's holder, top the last volume number

-- the last volume number that may stand in an element of a type
unfoldable pub last_of : ℕ → ℕ → ℕ
last_of top kind = when (kind == transport) 0 top

-- the mark, and the byte behind it
unfoldable pub ending_sound : ℕ → ℕ → List ℕ → ℕ → Bool
ending_sound kind v elements p = all_of (mark_sound kind v (mark elements p) ∷ (zero_byte elements p == 0) ∷ [])

-- a range has the shelves of a roster: the storage addresses are those that lie in it
abbrev pub Shelved : List Slot → Range → Type 0
Shelved ss shelves = (a : ℕ) → (kind_of ss a == storage) ≡ lies shelves a

-- "only a storage address or 0", "and 0 where empty", where a range has the shelves
unfoldable pub source_in : Range → ℕ → ℕ → Bool
source_in shelves v s = when (s == 0) true (all_of (differ v 0 ∷ lies shelves s ∷ []))

-- what stands at a place, and who holds it, as in an element of a type whose last volume number is this
unfoldable pub fit_by : ℕ → ℕ → Range → List ℕ → ℕ → ℕ → Bool
fit_by u last shelves elements kind p =
    all_of
    (nat_le (volume elements p) last
    ∷ source_in shelves (volume elements p) (source elements p)
    ∷ ending_sound kind (volume elements p) elements p
    ∷ hold_sound u (holder elements p) (id elements p)
    ∷ [])

-- the same, and no volume that stands before it
unfoldable pub passes_at : ℕ → ℕ → Range → List ℕ → ℕ → ℕ → Bool
passes_at u last shelves elements kind p = all_of (fit_by u last shelves elements kind p ∷ once elements p ∷ [])

-- of each of the n places from `first` on
unfoldable pub passes_from : ℕ → ℕ → Range → List ℕ → ℕ → ℕ → ℕ → Bool
passes_from u last shelves elements kind first n = below n (λ i. passes_at u last shelves elements kind (first + i))

-- all that is asked of the element at a place
unfoldable pub sound_at : ℕ → ℕ → List Slot → List ℕ → ℕ → Bool
sound_at u top ss elements p =
    all_of
    (stock_sound top ss (kind_at ss p) (volume elements p) (source elements p) (mark elements p)
    ∷ hold_sound u (holder elements p) (id elements p)
    ∷ (zero_byte elements p == 0)
    ∷ once elements p
    ∷ [])

-- of each of the first n
unfoldable pub sound_to : ℕ → ℕ → List Slot → List ℕ → ℕ → Bool
sound_to u top ss elements n = below n (sound_at u top ss elements)

-- how many of the n places from p on are empty
unfoldable pub empty_from : List ℕ → ℕ → ℕ → ℕ
empty_from elements p zero = 0
empty_from elements p (suc n) = when (volume elements p == 0) 1 0 + empty_from elements (suc p) n

-- ---- the volume numbers that were seen

-- the number y stands at none of the first p places
unfoldable pub absent : List ℕ → ℕ → ℕ → Bool
absent elements p y = below p (λ q. differ (volume elements q) y)

-- a bit for each number, 64 in a word: whether it is set, and the words with it set
unfoldable pub marked : List ℕ → ℕ → Bool
marked seen y = slice_index seen (y / 64) / 2 ^ (y % 64) % 2 == 1

unfoldable pub marking : List ℕ → ℕ → List ℕ
marking seen v = slice_set seen (v / 64) (bit_or (slice_index seen (v / 64)) (2 ^ (v % 64)))

-- each volume number up to the last that has a bit is marked where it stands at one of the first p places
pub record Marks (elements : List ℕ) (p : ℕ) (seen : List ℕ) : Type 0 where
  pub told : (y : ℕ) → 0 < y → y < 64 * length seen → marked seen y ≡ not (absent elements p y)

-- the places from `first` to before `end` are there, and the volumes before them are marked
pub record Run (elements : List ℕ) (first end : ℕ) (seen : List ℕ) : Type 0 where
  pub in_order : first ≤ end
  pub there : element_size * end ≤ length elements
  pub before : Marks elements first seen

-- ---- the drives

-- the k-th, whose record is at place p, is empty or takes what stands in it
unfoldable pub suited_at : List ℕ → List ℕ → List ℕ → ℕ → ℕ → Bool
suited_at elements generations masks p k =
    any_of ((volume elements p == 0) ∷ accepts (byte masks k) (byte generations (volume elements p - 1)) ∷ [])

-- the first n, whose records lie from place p on
unfoldable pub suited_to : List ℕ → List ℕ → List ℕ → ℕ → ℕ → Bool
suited_to elements generations masks p n = below n (λ k. suited_at elements generations masks (p + k) k)

-- those of a range of a roster: there is a mask for each, and each is suited
unfoldable pub drives_by : List Slot → Range → List ℕ → List ℕ → List ℕ → Bool
drives_by ss drives elements generations masks =
    all_of ((length masks == drives.count) ∷ suited_to elements generations masks (place_of ss drives.first) drives.count ∷ [])

-- ---- the search

-- the type and the next address of one that has a known action
unfoldable pub fields_sound : List ℕ → Bool
fields_sound search = all_of (nat_le (search_type search) drive ∷ nat_le (next_address search) behind_last ∷ [])
