-- "Sound tables", as one computed test: each clause of the paper, in its order. Assumes nothing.
use Rattle.std.specs.Prelude.{ℕ, suc, ◌+◌, ◌*◌, List, [], ◌∷◌, Bool, true, false, length, eqb, leb}
use Rattle.rules.specs.Choice.{when, any_of, all_of, differ, below}
use Rattle.rules.specs.Bytes.{byte}
use Rattle.rules.specs.Tables.{Tables, most_elements, most_transports, most_volumes, most_generations, behind_last, Rest, head_size, element_size, tag_size, search_size, hosts, volumes, search_type, action, next_address, unit, key, asc, ascq, attention, attentionq, volume, source, holder, id, mark, zero_byte, panel, empty_shelves}
use Rattle.rules.specs.Roster.{Slot, Range, range, ranges, roster, kind_at, kind_of, transport, storage, port, drive}
use Rattle.rules.specs.Fitting.{suited}
use Rattle.rules.specs.Search.{known_action}

-- low to high, both ends included
unfoldable pub within : ℕ → ℕ → ℕ → Bool
within low high n = all_of (leb low n ∷ leb n high ∷ [])

-- ---- "1 to 512 elements; 1 to 127 transports; at least one storage or import/export element"

unfoldable pub counts_sound : ℕ → ℕ → ℕ → ℕ → Bool
counts_sound transports storages ports drives =
    all_of (within 1 most_elements (transports + storages + ports + drives) ∷ within 1 most_transports transports ∷ leb 1 (storages + ports) ∷ [])

-- ---- "each range within 1 to 65,535 with no overlap; a count of 0 has first address 0"

-- the address behind the last
abbrev pub behind : Range → ℕ
behind r = r.first + r.count

unfoldable pub range_sound : Range → Bool
range_sound r = when (eqb r.count 0) (eqb r.first 0) (all_of (leb 1 r.first ∷ leb (behind r) behind_last ∷ []))

unfoldable pub no_overlap : Range → Range → Bool
no_overlap r s = any_of (leb (behind r) s.first ∷ leb (behind s) r.first ∷ [])

-- the range overlaps none of those
unfoldable pub clear : Range → List Range → Bool
clear r [] = true
clear r (s ∷ ss) = when (no_overlap r s) (clear r ss) false

unfoldable pub ranges_sound : List Range → Bool
ranges_sound [] = true
ranges_sound (r ∷ rs) = all_of (range_sound r ∷ clear r rs ∷ ranges_sound rs ∷ [])

-- ---- the elements, one by one

-- "Transports are empty."
unfoldable pub transport_empty : ℕ → ℕ → Bool
transport_empty kind v = when (eqb kind transport) (eqb v 0) true

-- "Sound tables now allow only a storage address or 0", "and 0 where empty"
unfoldable pub source_sound : List Slot → ℕ → ℕ → Bool
source_sound ss v s = when (eqb s 0) true (all_of (differ v 0 ∷ eqb (kind_of ss s) storage ∷ []))

-- "The mark is 1 only on a full import/export element, else 0."
unfoldable pub mark_sound : ℕ → ℕ → ℕ → Bool
mark_sound kind v m = when (eqb m 0) true (all_of (eqb m 1 ∷ eqb kind port ∷ differ v 0 ∷ []))

-- what stands in an element of a type, where top is the last volume number: "Each volume number is at most V"
unfoldable pub stock_sound : ℕ → List Slot → ℕ → ℕ → ℕ → ℕ → Bool
stock_sound top ss kind v s m = all_of (leb v top ∷ transport_empty kind v ∷ source_sound ss v s ∷ mark_sound kind v m ∷ [])

-- "Holder .. at most 8; id is 0 where there is no holder; if the unit is held, no other host holds an element."
unfoldable pub hold_sound : ℕ → ℕ → ℕ → Bool
hold_sound u h i = all_of (leb h hosts ∷ when (eqb h 0) (eqb i 0) true ∷ any_of (eqb u 0 ∷ eqb h 0 ∷ eqb h u ∷ []) ∷ [])

-- "and, 0 aside, stands at most once": the number at a place stands at no place before it
unfoldable pub once : List ℕ → ℕ → Bool
once elements p = when (eqb (volume elements p) 0) true (below p (λ q. differ (volume elements q) (volume elements p)))

-- ---- the hosts, one by one

-- "Sense key at most 15, and key 0 has codes 0."
unfoldable pub sense_sound : ℕ → ℕ → ℕ → Bool
sense_sound k a q = all_of (leb k 15 ∷ when (eqb k 0) (all_of (eqb a 0 ∷ eqb q 0 ∷ [])) true ∷ [])

-- "Attention is none, 28h/01h or 29h/00h."
unfoldable pub attention_sound : ℕ → ℕ → Bool
attention_sound a q =
    any_of
    (all_of (eqb a 0 ∷ eqb q 0 ∷ [])
    ∷ all_of (eqb a 0x28 ∷ eqb q 0x01 ∷ [])
    ∷ all_of (eqb a 0x29 ∷ eqb q 0x00 ∷ [])
    ∷ [])

-- ---- the whole

unfoldable pub head_sound : List ℕ → Bool
head_sound head =
    all_of
    (eqb (length head) head_size
    ∷ counts_sound (range head 0).count (range head 1).count (range head 2).count (range head 3).count
    ∷ ranges_sound (ranges head)
    ∷ leb (unit head) hosts
    ∷ below hosts (λ i. sense_sound (key head (suc i)) (asc head (suc i)) (ascq head (suc i)))
    ∷ below hosts (λ i. attention_sound (attention head (suc i)) (attentionq head (suc i)))
    ∷ [])

-- "V at most 512; all lengths exact"
unfoldable pub labels_sound : List ℕ → List ℕ → Bool
labels_sound tags blank = all_of (leb (volumes tags) most_volumes ∷ eqb (length tags) (tag_size * volumes tags) ∷ eqb (length blank) tag_size ∷ [])

-- "generation 1 to 8 for each volume": "Bad lengths or entries are number 1."
unfoldable pub generations_sound : ℕ → List ℕ → Bool
generations_sound top generations = all_of (eqb (length generations) top ∷ below top (λ i. within 1 most_generations (byte generations i)) ∷ [])

-- "All zeros means no search; only a wrong length, or a field's value that no search could leave, is number 1"
unfoldable pub search_sound : List ℕ → Bool
search_sound search =
    all_of
    (eqb (length search) search_size
    ∷ any_of
    (below search_size (λ i. eqb (byte search i) 0)
    ∷ all_of (known_action (action search) ∷ leb (search_type search) drive ∷ leb (next_address search) behind_last ∷ [])
    ∷ [])
    ∷ [])

-- the tables beside the head and the elements, as far as they do not hang on these
unfoldable pub rest_sound : Rest → Bool
rest_sound r =
    all_of (labels_sound r.tags r.blank ∷ generations_sound (volumes r.tags) r.generations ∷ search_sound r.search ∷ [])

unfoldable pub elements_sound : List Slot → ℕ → ℕ → List ℕ → Bool
elements_sound ss u top elements =
    all_of
    (eqb (length elements) (element_size * length ss)
    ∷ below (length ss) (λ p. stock_sound top ss (kind_at ss p) (volume elements p) (source elements p) (mark elements p))
    ∷ below (length ss) (λ p. hold_sound u (holder elements p) (id elements p))
    ∷ below (length ss) (λ p. eqb (zero_byte elements p) 0)
    ∷ below (length ss) (once elements)
    ∷ [])

-- "Sound tables have it equal to the true count, else number 1."
unfoldable pub panel_sound : Tables → Bool
panel_sound t = eqb (panel t.head) (empty_shelves (roster t.head) t.elements)

-- "for each drive a mask"; "A table that already has an ill-fitting volume in a drive is not sound."
unfoldable pub drives_sound : Tables → Range → Bool
drives_sound t drives = all_of (eqb (length t.rest.masks) drives.count ∷ below drives.count (λ k. suited t (drives.first + k)) ∷ [])

unfoldable pub sound : Tables → Bool
sound t =
    all_of
    (head_sound t.head
    ∷ rest_sound t.rest
    ∷ elements_sound (roster t.head) (unit t.head) (volumes t.rest.tags) t.elements
    ∷ panel_sound t
    ∷ drives_sound t (range t.head 3)
    ∷ [])
