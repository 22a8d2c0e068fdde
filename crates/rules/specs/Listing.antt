-- Listings, of READ ELEMENT STATUS and of a search: what is chosen, the whole answer, and what of it is returned. Assumes nothing.
use Rattle.std.specs.Prelude.{ℕ, suc, ◌+◌, ◌*◌, ◌-◌, ◌/◌, ◌%◌, List, [], ◌∷◌, ◌++◌, map, Bool, length, take, drop, eqb, leb, ltb}
use Rattle.rules.specs.Choice.{when, any_of}
use Rattle.rules.specs.Bytes.{byte, word, triple, three, high, low, cut}
use Rattle.rules.specs.Tables.{Tables, tag_size, volume, source, mark, Sense}
use Rattle.rules.specs.Roster.{Slot, Range, ranges, sorted, roster, transport, port}
use Rattle.rules.specs.Order.{Verdict, Done, GOOD}

-- "byte 1 bit 4 tags, bits 0-3 type .., 2-3 start, 4-5 most elements, 7-9 allocation"
unfoldable pub with_tags : List ℕ → Bool
with_tags block = eqb (byte block 1 / 16 % 2) 1

unfoldable pub type_code : List ℕ → ℕ
type_code block = byte block 1 % 16

-- ---- "Chosen: elements of the type at or above start, ascending, at most that many."

unfoldable pub keep : (Slot → Bool) → List Slot → List Slot
keep f [] = []
keep f (s ∷ ss) = when (f s) (s ∷ keep f ss) (keep f ss)

-- "type (0 all ..)"
unfoldable pub of_type : ℕ → Slot → Bool
of_type type s = any_of (eqb type 0 ∷ eqb type s.kind ∷ [])

unfoldable pub at_or_above : ℕ → Slot → Bool
at_or_above start s = leb start s.address

unfoldable pub chosen : ℕ → ℕ → ℕ → List Slot → List Slot
chosen type start most ss = take most (keep (at_or_above start) (keep (of_type type) ss))

-- ---- a descriptor

-- "Flags: transport 00h; storage and drive 08h, full 09h; import/export 38h, plus 01h full, plus 02h marked."
unfoldable pub flags : ℕ → ℕ → ℕ → ℕ
flags kind v m =
    when (eqb kind transport) 0x00
    (when (eqb kind port) (0x38 + when (eqb v 0) 0x00 0x01 + when (eqb m 0) 0x00 0x02)
    (when (eqb v 0) 0x08 0x09))

-- "80h if a source stands, else 0"
unfoldable pub source_stands : ℕ → ℕ
source_stands s = when (eqb s 0) 0 0x80

-- "The label shown is the volume's own record, or the blank label if empty."
unfoldable pub label : List ℕ → List ℕ → ℕ → List ℕ
label tags blank v = when (eqb v 0) blank (take tag_size (drop (tag_size * (v - 1)) tags))

-- "address; flags; six 0; 80h if a source stands, else 0; source"
unfoldable pub front : ℕ → ℕ → ℕ → List ℕ
front a f s = high a ∷ low a ∷ f ∷ 0 ∷ 0 ∷ 0 ∷ 0 ∷ 0 ∷ 0 ∷ source_stands s ∷ high s ∷ low s ∷ []

abbrev pub four_zeros : List ℕ
four_zeros = 0 ∷ 0 ∷ 0 ∷ 0 ∷ []

-- "Descriptor, 16 bytes or 52 .. with tags 36 label bytes; four 0."
unfoldable pub descriptor : Bool → Tables → Slot → List ℕ
descriptor tagged t s =
    front s.address (flags s.kind (volume t.elements s.place) (mark t.elements s.place)) (source t.elements s.place)
    ++ (when tagged (label t.rest.tags t.rest.blank (volume t.elements s.place)) [] ++ four_zeros)

unfoldable pub width : Bool → ℕ
width tagged = when tagged 52 16

-- ---- the pages: "Each type chosen, in order of its addresses, has a page header"

-- "type, 80h with tags else 0, descriptor length (2), 0, three-byte descriptor byte count"
unfoldable pub page_header : Bool → ℕ → ℕ → List ℕ
page_header tagged kind n = kind ∷ when tagged 0x80 0 ∷ high (width tagged) ∷ low (width tagged) ∷ 0 ∷ three (n * width tagged)

-- the pieces of a page that are returned whole or not at all: "a page header only together with its first descriptor"
unfoldable pub page : Bool → Tables → ℕ → List Slot → List (List ℕ)
page tagged t kind [] = []
page tagged t kind (s ∷ ss) = (page_header tagged kind (suc (length ss)) ++ descriptor tagged t s) ∷ map (descriptor tagged t) ss

-- the pages of the ranges, ascending by address, of the elements chosen
unfoldable pub pages : Bool → Tables → List Range → List Slot → List (List ℕ)
pages tagged t [] ss = []
pages tagged t (r ∷ rs) ss = page tagged t r.kind (keep (of_type r.kind) ss) ++ pages tagged t rs ss

unfoldable pub joined : List (List ℕ) → List ℕ
joined [] = []
joined (p ∷ ps) = p ++ joined ps

-- ---- the header: "first chosen address (0 if none), number chosen, 0, three-byte count of all page bytes"; a search tells its action in the
-- fifth byte

unfoldable pub first_address : List Slot → ℕ
first_address [] = 0
first_address (s ∷ ss) = s.address

unfoldable pub header : ℕ → ℕ → ℕ → ℕ → List ℕ
header a n code bytes = high a ∷ low a ∷ high n ∷ low n ∷ code ∷ three bytes

-- "Counts are never cut to the allocation."
unfoldable pub header_of : ℕ → List Slot → List (List ℕ) → List ℕ
header_of code ss ps = header (first_address ss) (length ss) code (length (joined ps))

-- ---- what is returned

-- as many whole pieces as fit
unfoldable pub fitting : ℕ → List (List ℕ) → List ℕ
fitting room [] = []
fitting room (p ∷ ps) = when (leb (length p) room) (p ++ fitting (room - length p) ps) []

-- "below 8, the first allocation bytes of the header; else the header and as many whole descriptors as fit"
unfoldable pub returned : ℕ → List ℕ → List (List ℕ) → List ℕ
returned allocation head ps = when (ltb allocation 8) (cut allocation head) (head ++ fitting (allocation - 8) ps)

-- how many pieces are returned whole
unfoldable pub wholes : ℕ → List (List ℕ) → ℕ
wholes room [] = 0
wholes room (p ∷ ps) = when (leb (length p) room) (suc (wholes (room - length p) ps)) 0

-- what a block chooses of elements
unfoldable pub chosen_of : List Slot → List ℕ → List Slot
chosen_of ss block = chosen (type_code block) (word block 2) (word block 4) ss

-- of all
unfoldable pub chosen_by : Tables → List ℕ → List Slot
chosen_by t block = chosen_of (roster t.head) block

unfoldable pub pages_of : Bool → Tables → List Slot → List (List ℕ)
pages_of tagged t ss = pages tagged t (sorted (ranges t.head)) ss

-- the bytes returned for the elements chosen
unfoldable pub listing : ℕ → Bool → Tables → ℕ → List Slot → List ℕ
listing code tagged t allocation ss = returned allocation (header_of code ss (pages_of tagged t ss)) (pages_of tagged t ss)

-- READ ELEMENT STATUS, from step 5 on
unfoldable pub read_status : Tables → ℕ → List ℕ → Verdict
read_status t h block = Done GOOD (listing 0 (with_tags block) t (triple block 7) (chosen_by t block)) (Sense h 0 0 0 ∷ [])
