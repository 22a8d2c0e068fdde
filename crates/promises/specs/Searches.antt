-- "Find by label": what a search tells, and what keeps it. Assumes nothing.
use Rattle.std.specs.Prelude.{ℕ, suc, ◌≤◌, ◌<◌, ◌≡◌, true, false, length, take, replicate}
use mathlib.Core.List.{List, [], ◌∷◌, ◌++◌, Memᴰ}
use Rattle.rules.specs.Bytes.{byte, word}
use Rattle.rules.specs.Tables.{Tables, next_at, next_address, action}
use Rattle.rules.specs.Roster.{roster}
use Rattle.rules.specs.Sound.{sound}
use Rattle.rules.specs.Operation.{REQUEST-VOLUME-ELEMENT-ADDRESS}
use Rattle.rules.specs.Order.{Outcome, GOOD}
use Rattle.rules.specs.Listing.{with_tags, type_code, keep, pages_of, joined, header_of}
use Rattle.rules.specs.Search.{found, found_by, told_by}
use Rattle.rules.specs.Command.{Request, Call, Command, serve}
use Rattle.rules.specs.Histories.{History, Mixing, From, run_requests}
use Rattle.rules.specs.Told.{addresses, goes_on, renews, told_in, one_search}

-- ---- no address is told twice

-- each above the one before, from a on
abbrev pub Rising : ℕ → List ℕ → Type 0
Rising a [] = Unit {0}
Rising a (x ∷ xs) = (a ≤ x) × Rising (suc x) xs

-- "no address is told twice in one search": in any history within one search, whatever else is called, all that is told rises, from the search's
-- next address on
abbrev pub NoneTwice : Type 0
NoneTwice =
    (t u : Tables) (cs : List Call) (os : List Outcome) (hs : History t cs os u) → sound t ≡ true → one_search hs ≡ true
    → Rising (next_address t.rest.search) (told_in hs)

-- ---- "only descriptors returned whole count as told"

-- a REQUEST VOLUME ELEMENT ADDRESS that ended with GOOD
pub record WholeAlone (t : Tables) (r : Request) (o : Outcome) : Type 0 where
  -- what it returned is the header and the pieces of those told, and of no other; with less than 8 bytes it told nothing
  pub returned : 8 ≤ word r.block 7 → take o.count o.buffer
      ≡ header_of (action t.rest.search) (found_by t r.block) (pages_of (with_tags r.block) t (found_by t r.block))
      ++ joined (take (length (told_by t r.block)) (pages_of (with_tags r.block) t (found_by t r.block)))
  pub header-alone : word r.block 7 < 8 → told_by t r.block ≡ []
  -- the search is as it was, but for its next address
  pub search-else : (j : ℕ) → j < next_at → byte o.tables.rest.search j ≡ byte t.rest.search j

abbrev pub OnlyWhole : Type 0
OnlyWhole = (t : Tables) (r : Request) → goes_on (Command r) (serve t (Command r)) ≡ true → WholeAlone t r (serve t (Command r))

-- ---- "going on with enough calls tells every match there is then, in address order"

-- a request for all types from address 0 on, for one element at the least and with room for its descriptor behind the headers
pub record AsksForAll (r : Request) : Type 0 where
  pub first-is : byte r.block 0 ≡ REQUEST-VOLUME-ELEMENT-ADDRESS
  pub all_types : type_code r.block ≡ 0
  pub from_start : word r.block 2 ≡ 0
  pub some : 1 ≤ word r.block 4
  pub room : 68 ≤ word r.block 7

-- sent as often as there are matches, each time with GOOD
abbrev pub EveryMatch : Type 0
EveryMatch =
    (t u : Tables) (r : Request) (n : ℕ) (os : List Outcome) (hs : History t (replicate n (Command r)) os u) → sound t ≡ true → AsksForAll r
    → ((o : Outcome) → Memᴰ o os → (o.number ≡ 0) × (o.status ≡ GOOD))
    → length (keep (found t) (roster t.head)) ≤ n
    → told_in hs ≡ addresses (keep (found t) (roster t.head))

-- ---- what keeps the search

-- every call but a SEND VOLUME TAG with GOOD, a REQUEST VOLUME ELEMENT ADDRESS with GOOD and a reset: so "any end but GOOD" keeps the old search, and
-- number 5 tells nothing
abbrev pub SearchKept : Type 0
SearchKept =
    (t : Tables) (c : Call) → renews c (serve t c) ≡ false → goes_on c (serve t c) ≡ false → (serve t c).tables.rest.search ≡ t.rest.search

-- "Neither joins the commands of demand 3": a mixing of these leaves the search
abbrev pub MixingsKeepSearch : Type 0
MixingsKeepSearch =
    (h g : ℕ) (xs ys zs : List Request) → From h xs → From g ys → Mixing xs ys zs → (t : Tables)
    → (run_requests t zs).rest.search ≡ t.rest.search
