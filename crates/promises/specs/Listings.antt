-- "I paid for ninety shelves and you sold me forty": whatever the allocation, a listing says how much there is, and what it returns is
-- the beginning of the whole; of READ ELEMENT STATUS and of a search alike. Assumes nothing.
use Rattle.std.specs.Prelude.{ℕ, ◌+◌, ◌<◌, ◌≤◌, ◌≡◌, ◌⊎◌, length, take, drop}
use mathlib.Core.List.{List, ◌∷◌, ◌++◌, Memᴰ}
use Rattle.rules.specs.Bytes.{byte, word, triple}
use Rattle.rules.specs.Tables.{Tables, action}
use Rattle.rules.specs.Roster.{Slot}
use Rattle.rules.specs.Operation.{READ-ELEMENT-STATUS, REQUEST-VOLUME-ELEMENT-ADDRESS}
use Rattle.rules.specs.Order.{Outcome, GOOD}
use Rattle.rules.specs.Command.{Request, Command, serve}
use Rattle.rules.specs.Listing.{with_tags, chosen_by, pages_of, joined, first_address, header_of, descriptor, listing}
use Rattle.rules.specs.Search.{found_by}

-- of elements ss, with a code in the header's fifth byte: the whole answer, the header and all pages
abbrev pub whole_answer : ℕ → Tables → List ℕ → List Slot → List ℕ
whole_answer code t block ss = header_of code ss (pages_of (with_tags block) t ss) ++ joined (pages_of (with_tags block) t ss)

-- the bytes returned for a block, with an allocation
abbrev pub returned_for : ℕ → Tables → List ℕ → ℕ → List Slot → List ℕ
returned_for code t block allocation ss = listing code (with_tags block) t allocation ss

pub record Honest (code : ℕ) (t : Tables) (block : List ℕ) (allocation : ℕ) (ss : List Slot) : Type 0 where
  -- "first chosen address (0 if none), number chosen, 0, three-byte count of all page bytes": of all that was chosen, never cut
  pub first-address : 8 ≤ allocation → word (returned_for code t block allocation ss) 0 ≡ first_address ss
  pub number-chosen : 8 ≤ allocation → word (returned_for code t block allocation ss) 2 ≡ length ss
  pub page-bytes : 8 ≤ allocation → triple (returned_for code t block allocation ss) 5 ≡ length (joined (pages_of (with_tags block) t ss))
  -- what is returned is a prefix of the whole answer ..
  pub prefix : take (length (returned_for code t block allocation ss)) (whole_answer code t block ss) ≡ returned_for code t block allocation ss
  -- .. that is the header alone, or ends with the descriptor of an element chosen; such pieces there are, one for each element chosen
  pub ends-whole : 8 ≤ allocation
      → (returned_for code t block allocation ss ≡ header_of code ss (pages_of (with_tags block) t ss))
      ⊎ ((front : List ℕ) × (s : Slot) × Memᴰ s ss × (returned_for code t block allocation ss ≡ front ++ descriptor (with_tags block) t s))
  pub one_each : length (pages_of (with_tags block) t ss) ≡ length ss
  -- "as many whole descriptors as fit": never more than the allocation; and it is all, or the next piece (a descriptor, with its page header where it
  -- is the first of its page) would not have fitted
  pub within-allocation : length (returned_for code t block allocation ss) ≤ allocation
  pub as-many-as-fit : 8 ≤ allocation
      → (returned_for code t block allocation ss ≡ whole_answer code t block ss)
      ⊎ ((before : List (List ℕ)) × (next : List ℕ) × (after : List (List ℕ))
      × (pages_of (with_tags block) t ss ≡ before ++ (next ∷ after))
      × (returned_for code t block allocation ss ≡ header_of code ss (pages_of (with_tags block) t ss) ++ joined before)
      × (allocation < length (returned_for code t block allocation ss) + length next))
  -- room for all of it returns all of it, and more room extends it
  pub whole : length (whole_answer code t block ss) ≤ allocation → returned_for code t block allocation ss ≡ whole_answer code t block ss
  pub grows : (more : ℕ) → allocation ≤ more
      → take (length (returned_for code t block allocation ss)) (returned_for code t block more ss) ≡ returned_for code t block allocation ss

-- what READ ELEMENT STATUS chooses, and what REQUEST VOLUME ELEMENT ADDRESS finds
pub record BothHonest (t : Tables) (block : List ℕ) (allocation : ℕ) : Type 0 where
  pub read : Honest 0 t block allocation (chosen_by t block)
  pub search : Honest (action t.rest.search) t block allocation (found_by t block)

abbrev pub HonestListings : Type 0
HonestListings = (t : Tables) (block : List ℕ) (allocation : ℕ) → BothHonest t block allocation

-- a call that ends with GOOD: these bytes, for its own allocation, stand at the front of its buffer, and what is behind them stays
pub record Listed (code : ℕ) (t : Tables) (r : Request) (allocation : ℕ) (ss : List Slot) (o : Outcome) : Type 0 where
  pub count-is : o.count ≡ length (returned_for code t r.block allocation ss)
  pub buffer-is : o.buffer ≡ returned_for code t r.block allocation ss ++ drop o.count r.buffer
  pub honest : Honest code t r.block allocation ss

abbrev pub ListingsReturned : Type 0
ListingsReturned =
    (t : Tables) (r : Request) → byte r.block 0 ≡ READ-ELEMENT-STATUS → (serve t (Command r)).number ≡ 0 → (serve t (Command r)).status ≡ GOOD
    → Listed 0 t r (triple r.block 7) (chosen_by t r.block) (serve t (Command r))

abbrev pub SearchesReturned : Type 0
SearchesReturned =
    (t : Tables) (r : Request) → byte r.block 0 ≡ REQUEST-VOLUME-ELEMENT-ADDRESS → (serve t (Command r)).number ≡ 0 → (serve t (Command r)).status ≡ GOOD
    → Listed (action t.rest.search) t r (word r.block 7) (found_by t r.block) (serve t (Command r))
