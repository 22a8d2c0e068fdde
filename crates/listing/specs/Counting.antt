-- The stands of a listing from range to range, and what the whole comes to. Assumes nothing.
use Rattle.std.specs.Prelude.{ℕ, ◌+◌, ◌*◌, ◌-◌, ◌≤◌, ◌<◌, ◌≡◌, List, [], ◌∷◌, Result, Ok, Err, length, take, eqb}
use Rattle.rules.specs.Choice.{when}
use Rattle.rules.specs.Bytes.{word}
use Rattle.rules.specs.Tables.{Tables, lent, element_at, bare}
use Rattle.rules.specs.Roster.{Slot, Range, spread}
use Rattle.rules.specs.Sound.{behind}
use Rattle.rules.specs.Order.{outcome, fits, Done, GOOD}
use Rattle.rules.specs.Listing.{with_tags, type_code, keep, chosen, pages, first_address, header_of, returned, fitting, wholes}
use Rattle.rules.specs.Search.{behind_all}
use Rattle.rules.specs.Ranges.{Each, Pairs, Differ, total}
use Rattle.tables.specs.declared.Range.{Range as Declared}
use Rattle.tables.specs.Ranges.{meant, Runs}
use Rattle.order.specs.Ending.{ended, numbered, told}
use Rattle.order.specs.declared.House.{House}
use Rattle.order.specs.declared.Reply.{Reply}
use Rattle.pages.specs.Marks.{marked, reach_of}
use Rattle.pages.specs.Pages.{Labelled, page_bytes, shown}
use Rattle.listing.specs.Plan.{skips, picked_of, fits_in, room_behind, planned}
use Rattle.listing.specs.declared.Query.{Query}
use Rattle.listing.specs.declared.Tally.{Tally}
use Rattle.listing.specs.declared.Part.{Part}

-- a range of addresses that two bytes hold
pub record Inside (r : Range) : Type 0 where
  pub begins : r.first < 65536
  pub ends : behind r ≤ 65536

-- ---- from stand to stand

-- which of a range are chosen at a stand, how many they are, and how many of those fit
abbrev pub picked_at : List ℕ → Query → Tally → Range → List Slot
picked_at marks q s r = picked_of marks q.code q.start s.left s.place r

abbrev pub chosen_at : List ℕ → Query → Tally → Range → ℕ
chosen_at marks q s r = length (picked_at marks q s r)

abbrev pub fitting_at : List ℕ → Query → Tally → Range → ℕ
fitting_at marks q s r = fits_in q.tagged s.room (chosen_at marks q s r)

unfoldable pub step_of : List ℕ → Query → Tally → Range → Tally
step_of marks q s r =
    record {
      place = s.place + r.count;
      left = s.left - chosen_at marks q s r;
      room = room_behind q.tagged s.room (chosen_at marks q s r) (fitting_at marks q s r);
      at = s.at + page_bytes q.tagged (fitting_at marks q s r);
      number = s.number + chosen_at marks q s r;
      total = s.total + page_bytes q.tagged (chosen_at marks q s r);
      first = when (eqb s.number 0) (first_address (picked_at marks q s r)) s.first;
      next = behind_all s.next (take (fitting_at marks q s r) (picked_at marks q s r));
    }

-- the bytes that a range adds
unfoldable pub step_bytes : List ℕ → Query → Tables → Tally → Range → List ℕ
step_bytes marks q t s r =
    shown q.tagged t r.kind (chosen_at marks q s r) (take (fitting_at marks q s r) (picked_at marks q s r))

-- the stand behind ranges, and the bytes that they add
unfoldable pub counted : List ℕ → Query → Tally → List Range → Tally
counted marks q s [] = s
counted marks q s (r ∷ rs) = counted marks q (step_of marks q s r) rs

unfoldable pub added : List ℕ → Query → Tables → Tally → List Range → List ℕ
added marks q t s rs = fitting s.room (planned marks q.tagged t q.code q.start s.left s.place rs)

-- where a listing begins, behind its header, and the address behind all that was told before it
abbrev pub outset : ℕ → ℕ → ℕ → Tally
outset most room from = record { place = 0; left = most; room = room - 8; at = 8; number = 0; total = 0; first = 0; next = from }

-- ---- the same in numbers, as the code has it

-- how far the range reaches to the m-th that is marked, from start on
abbrev pub reach_at : List ℕ → Query → Tally → Range → ℕ → ℕ
reach_at marks q s r m = reach_of marks m (r.count - skips q.start r) (s.place + skips q.start r)

-- 1 where there is one, to look for
unfoldable pub some : ℕ → ℕ
some n = when (eqb n 0) 0 1

abbrev pub part_of : List ℕ → Query → Tally → Range → Part
part_of marks q s r =
    record {
      n = chosen_at marks q s r;
      m = fitting_at marks q s r;
      lead = reach_at marks q s r (some (chosen_at marks q s r));
      run = reach_at marks q s r (fitting_at marks q s r);
    }

-- the first address chosen, and the one behind the last that fits
unfoldable pub lead_of : ℕ → ℕ → ℕ → ℕ → ℕ
lead_of number n address first = when (eqb number 0) (when (eqb n 0) 0 address) first

unfoldable pub next_of : ℕ → ℕ → ℕ → ℕ
next_of m address next = when (eqb m 0) next address

unfoldable pub step_by : Query → Tally → Range → Part → Tally
step_by q s r p =
    record {
      place = s.place + r.count;
      left = s.left - p.n;
      room = room_behind q.tagged s.room p.n p.m;
      at = s.at + page_bytes q.tagged p.m;
      number = s.number + p.n;
      total = s.total + page_bytes q.tagged p.n;
      first = lead_of s.number p.n (r.first + skips q.start r + p.lead - 1) s.first;
      next = next_of p.m (r.first + skips q.start r + p.run) s.next;
    }

-- the numbers of a part are small
pub record Small (s : Tally) (p : Part) : Type 0 where
  pub sum : s.number + p.n < 65536
  pub few : p.m ≤ p.n
  pub lead : p.lead ≤ 65536
  pub run : p.run ≤ 65536

-- k ranges on, the numbers are far below what a machine number holds: a page of 65,535 descriptors has fewer than 4,000,000 bytes
pub record Within (k : ℕ) (s : Tally) : Type 0 where
  pub place : s.place ≤ k * 65536
  pub sum : s.number + s.left < 65536
  pub at : s.at ≤ 8 + k * 4000000
  pub total : s.total ≤ k * 4000000
  pub first : s.first < 65536
  pub next : s.next ≤ 65536

-- ---- the whole

-- what a block asks for, with the action that the header tells
abbrev pub asked : List ℕ → ℕ → Query
asked block action = record { tagged = with_tags block; code = type_code block; start = word block 2; action = action }

-- the elements chosen, of those of the ranges that are marked, and their pages
abbrev pub selected : List ℕ → Query → List Range → ℕ → List Slot
selected marks q rs most = chosen q.code q.start most (keep (marked marks) (spread 0 rs))

-- the bytes returned with a most and an allocation, of ranges in the order of their addresses
unfoldable pub listed : List ℕ → Query → Tables → List Range → ℕ → ℕ → List ℕ
listed marks q t rs most room =
    returned room (header_of q.action (selected marks q rs most) (pages q.tagged t rs (selected marks q rs most)))
    (pages q.tagged t rs (selected marks q rs most))

-- the address behind all that are told whole
unfoldable pub passed : List ℕ → Query → Tables → List Range → ℕ → ℕ → ℕ → ℕ
passed marks q t rs most room from =
    behind_all from (take (wholes (room - 8) (pages q.tagged t rs (selected marks q rs most))) (selected marks q rs most))

-- what of ranges and tables a listing stands on; sound tables have it
pub record Listable (rs : List Range) (t : Tables) : Type 0 where
  pub inside : Each Inside rs
  pub typed : Each (λ r. r.kind ≡ 0 → ⊥) rs
  pub differ : Pairs Differ rs
  pub stands : element_at (total rs) ≤ length t.elements
  pub labels : Labelled t

-- what the command stands on: the runs of a head, and tables that can be listed by them
pub record Readable (runs : List Declared) (head : List ℕ) (t : Tables) : Type 0 where
  pub runs-are : Runs runs head
  pub listable : Listable (meant runs) t

-- the reply of a call that hands back so many bytes, or why none
abbrev pub reply_of : Result ℕ House → Reply
reply_of (Ok count) = told 0x00 count
reply_of (Err why) = numbered why

-- what a GOOD reply with these bytes leaves of an answer buffer: house number 5 and nothing changed where they do not fit
abbrev pub Answers : List ℕ → List ℕ → List ℕ → Reply → Type 0
Answers bytes entry exit r = ended r (lent [] [] bare) exit ≡ outcome (lent [] [] bare) entry (fits entry (Done GOOD bytes []))
