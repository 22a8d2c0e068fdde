-- MODE SENSE, from step 5 on: the three pages as document 001 lays them out, current values only, no block descriptors. Assumes nothing.
use Rattle.std.specs.Prelude.{ℕ, zero, suc, ◌+◌, ◌/◌, ◌%◌, List, [], ◌∷◌, ◌++◌, Bool, not, length, eqb, ltb}
use Rattle.rules.specs.Choice.{when, any_of, differ}
use Rattle.rules.specs.Bytes.{byte, high, low, cut}
use Rattle.rules.specs.Tables.{Tables, Sense}
use Rattle.rules.specs.Roster.{Range, range, ranges}
use Rattle.rules.specs.Order.{Verdict, Done, GOOD}

-- byte 2: page control, page code
unfoldable pub page_control : List ℕ → ℕ
page_control block = byte block 2 / 64

unfoldable pub page_code : List ℕ → ℕ
page_code block = byte block 2 % 64

-- "pages 1Dh, 1Eh, 1Fh and 3Fh for all"
abbrev pub ADDRESSES : ℕ
ADDRESSES = 0x1D

abbrev pub GEOMETRY : ℕ
GEOMETRY = 0x1E

abbrev pub CAPABILITIES : ℕ
CAPABILITIES = 0x1F

abbrev pub ALL-PAGES : ℕ
ALL-PAGES = 0x3F

-- a page: its code ("PS is 0"), the number of bytes that follow, and these
unfoldable pub paged : ℕ → List ℕ → List ℕ
paged code parameters = code ∷ length parameters ∷ parameters

-- ---- 001, table 33, the element address assignment page: of each type the first address and the number, then two reserved bytes

unfoldable pub assigned : Range → List ℕ
assigned r = high r.first ∷ low r.first ∷ high r.count ∷ low r.count ∷ []

unfoldable pub assignments : List Range → List ℕ
assignments [] = 0 ∷ 0 ∷ []
assignments (r ∷ rs) = assigned r ++ assignments rs

-- ---- 001, tables 34 and 35, the transport geometry page: "There is one robotics set without rotation", whose first member has number 0

-- n transports, from number i on
unfoldable pub members : ℕ → ℕ → List ℕ
members zero i = []
members (suc n) i = 0 ∷ i ∷ members n (suc i)

-- ---- 001, table 32, the device capabilities page: in each byte bit 0 is for transports, 1 for storage, 2 for import/export, 3 for drives

-- "shelves, slots and drives store and exchange with each other and their own kind, transports don't"
abbrev pub these : ℕ
these = 0x0E

abbrev pub none : ℕ
none = 0x00

-- which types store; for each type as source, to which types it moves; with which types it exchanges
unfoldable pub capabilities : List ℕ
capabilities =
    these ∷ 0
    ∷ none ∷ these ∷ these ∷ these ∷ 0 ∷ 0 ∷ 0 ∷ 0
    ∷ none ∷ these ∷ these ∷ these ∷ 0 ∷ 0 ∷ 0 ∷ 0
    ∷ []

-- ---- the answer

-- a page is asked for by its code, or with all
unfoldable pub sought : ℕ → ℕ → Bool
sought code page = any_of (eqb code page ∷ eqb code ALL-PAGES ∷ [])

-- "3Fh goes by rising page code"
unfoldable pub mode_pages : List ℕ → ℕ → List ℕ
mode_pages head code =
    when (sought code ADDRESSES) (paged ADDRESSES (assignments (ranges head))) []
    ++ (when (sought code GEOMETRY) (paged GEOMETRY (members (range head 0).count 0)) []
    ++ when (sought code CAPABILITIES) (paged CAPABILITIES capabilities) [])

-- the mode header: how many bytes follow its first, then three zeros
unfoldable pub mode_whole : List ℕ → ℕ → List ℕ
mode_whole head code = (3 + length (mode_pages head code)) ∷ 0 ∷ 0 ∷ 0 ∷ mode_pages head code

-- "other page controls and pages give 5/24/00"; "Over 256 bytes before cutting gives 5/24/00"
unfoldable pub known_page : ℕ → Bool
known_page code = any_of (eqb code ADDRESSES ∷ eqb code GEOMETRY ∷ eqb code CAPABILITIES ∷ eqb code ALL-PAGES ∷ [])

unfoldable pub no_answer : List ℕ → List ℕ → Bool
no_answer head block =
    any_of (differ (page_control block) 0 ∷ not (known_page (page_code block)) ∷ ltb 256 (length (mode_whole head (page_code block))) ∷ [])

-- "Answers are cut at the allocation, while inner lengths stay true": byte 4 is the allocation
unfoldable pub mode_sense : Tables → ℕ → List ℕ → Verdict
mode_sense t h block = Done GOOD (cut (byte block 4) (mode_whole t.head (page_code block))) (Sense h 0 0 0 ∷ [])
