-- The bytes of the whole listing are what the counts and the ranges make up, and a reply that carries them out. Assumes nothing.
use Prim.Native.Nat.{ℕ, ◌+◌, ◌-◌, ◌≤◌, ◌<◌, min}
use native.Mathlib.Nat.{zero-add}
use native.Mathlib.Omega.{arith}
use mathlib.Core.Path.{◌≡◌, refl, sym, ap, ◌∙◌}
use mathlib.Core.List.{List, [], ◌++◌}
use lib.ListN.{length, take, length-append, length-map}
use lib.Dec.{leb}
use borrow.Author.Tests.{lt-ltb, le-ltb, le-leb, lt-leb}
use Rattle.rules.specs.Bytes.{put, three, cut}
use Rattle.rules.specs.Tables.{Tables, element_at, changes}
use Rattle.rules.specs.Roster.{Slot, Range}
use Rattle.rules.specs.Order.{outcome, fits, Number, Done, GOOD}
use Rattle.rules.specs.Listing.{header, header_of, returned, wholes, joined, first_address}
use Rattle.rules.specs.Search.{behind_all}
use Rattle.rules.proofs.Ladder.{when_true, when_false}
use Rattle.rules.specs.Ranges.{Each, total}
use Rattle.tables.specs.declared.Range.{Range as Code}
use Rattle.tables.specs.Ranges.{meaning, meant}
use Rattle.rules.proofs.Writes.{put-append, cut-length, cut-least}
use Rattle.order.specs.declared.Reply.{Reply}
use Rattle.order.specs.Ending.{numbered, told}
use Rattle.order.specs.declared.House.TheVariants.{ShortBuffer}
use Rattle.listing.specs.declared.Query.{Query}
use Rattle.listing.specs.declared.Tally.{Tally}
use Rattle.listing.specs.Plan.{planned}
use Rattle.listing.specs.Counting.{Inside, counted, added, outset, Within, listed, passed, Listable, Answers}
use Rattle.listing.proofs.Choosing.{picked, chosen_is, pages-are}
use Rattle.listing.proofs.Counted.{counted-at, counted-number, counted-total, counted-first, counted_next, counted-within}

pub header-length : (first number code bytes : ℕ) → length (header first number code bytes) ≡ 8
unfolding header three
header-length first number code bytes = refl

pub begins-within : (most room from : ℕ) → most < 65536 → from ≤ 65536 → Within 0 (outset most room from)
begins-within most room from h g =
    record { place = omega arith; sum = omega arith; at = omega arith; total = omega arith; first = omega arith; next = g }

-- ---- the reply

pub answers-told : (bytes entry exit : List ℕ) (n : ℕ) → exit ≡ put entry 0 bytes → n ≡ length bytes → n ≤ length entry
    → Answers bytes entry exit (told 0x00 n)
unfolding outcome fits changes
answers-told bytes entry exit n e c h =
    rw (when_true (leb (length bytes) (length entry)) (Done GOOD bytes []) (Number 5) (le-leb (length bytes) (length entry) (omega arith)), e, c)

pub answers-refused : (bytes entry : List ℕ) → length entry < length bytes → Answers bytes entry entry (numbered ShortBuffer)
unfolding outcome fits numbered
answers-refused bytes entry h = rw (when_false (leb (length bytes) (length entry)) (Done GOOD bytes []) (Number 5) (lt-leb _ _ h))

-- ---- the listing

-- the header of a stand, and an action
abbrev pub header_at : ℕ → Tally → List ℕ
header_at action x = header x.first x.number action x.total

-- below 8, so many of its bytes
pub header-cut : (allocation action : ℕ) (x : Tally) → cut (min allocation 8) (header_at action x) ≡ cut allocation (header_at action x)
unfolding header three
header-cut allocation action x = cut-least allocation (header_at action x)

pub header-cut-length : (allocation action : ℕ) (x : Tally) → length (cut allocation (header_at action x)) ≡ min allocation 8
unfolding header three
header-cut-length allocation action x = cut-length allocation (header_at action x)

pub four : (rs : List Code) → length rs ≡ 4 → length (meant rs) ≡ 4
unfolding meant
four rs n = length-map rs meaning ∙ n

-- the counts behind four ranges are small
pub last_within : (marks : List ℕ) (q : Query) (rs : List Range) (most room from : ℕ) → Each Inside rs → length rs ≡ 4 → q.start < 65536 → most < 65536
    → from ≤ 65536 → Within 4 (counted marks q (outset most room from) rs)
last_within marks q rs most room from i n b m f =
    let e : 0 + length rs ≡ 4 = omega arith in
    rw e at (counted-within marks 0 q (outset most room from) rs b i (begins-within most room from m f))

-- x is the stand behind all ranges
module _ (marks : List ℕ) (q : Query) (t : Tables) (rs : List Range) (most room from : ℕ) (ok : Listable rs t) (x : Tally)
    (last : x ≡ counted marks q (outset most room from) rs) where
  stands : element_at (0 + total rs) ≤ length t.elements
  stands = omega (arith, ok.stands)

  abbrev chosen-slots : List Slot
  chosen-slots = picked marks q.code q.start most 0 rs

  abbrev plan : List (List ℕ)
  plan = planned marks q.tagged t q.code q.start most 0 rs

  -- the counts are those of all elements chosen and all their pages
  listed-is : listed marks q t rs most room ≡ returned room (header_at q.action x) plan
  unfolding listed header_of
  listed-is =
      let n : length chosen-slots ≡ x.number =
      sym (zero-add _) ∙ counted-number marks q t ok.labels (outset most room from) rs ∙ ap (λ (y : Tally). y.number) (sym last) in
      let b : length (joined plan) ≡ x.total =
      sym (zero-add _) ∙ counted-total marks q t ok.labels (outset most room from) rs stands ∙ ap (λ (y : Tally). y.total) (sym last) in
      let f : first_address chosen-slots ≡ x.first =
      counted-first marks q t ok.labels most room from rs ∙ ap (λ (y : Tally). y.first) (sym last) in
      rw (
        chosen_is marks q.code q.start most 0 rs,
        pages-are marks q.tagged t q.code q.start most 0 rs ok.typed ok.differ,
        f,
        n,
        b,
      )

  -- and the address behind all that are told whole is the stand's
  pub passed_is : x.next ≡ passed marks q t rs most room from
  unfolding passed
  passed_is =
      let e : x.next ≡ behind_all from (take (wholes (room - 8) plan) chosen-slots) =
      ap (λ (y : Tally). y.next) last ∙ sym (counted_next marks q t ok.labels (outset most room from) rs stands) in
      rw (chosen_is marks q.code q.start most 0 rs, pages-are marks q.tagged t q.code q.start most 0 rs ok.typed ok.differ) e

  pub listed-short : room < 8 → listed marks q t rs most room ≡ cut room (header_at q.action x)
  unfolding returned
  listed-short h = listed-is ∙ when_true _ _ _ (lt-ltb room 8 h)

  pub listed-long : 8 ≤ room → listed marks q t rs most room ≡ header_at q.action x ++ added marks q t (outset most room from) rs
  unfolding returned added
  listed-long h = listed-is ∙ when_false _ _ _ (le-ltb room 8 h)

  pub added-length : 8 + length (added marks q t (outset most room from) rs) ≡ x.at
  added-length = counted-at marks q t ok.labels (outset most room from) rs stands ∙ ap (λ (y : Tally). y.at) (sym last)

  pub listed-length : 8 ≤ room → length (listed marks q t rs most room) ≡ x.at
  listed-length h =
      let n = header-length x.first x.number q.action x.total in
      let e = ap length (listed-long h) ∙ length-append (header_at q.action x) (added marks q t (outset most room from) rs) in
      let d = added-length in
      omega arith

  -- the header and what the ranges add, written one after the other
  pub written : (l : List ℕ) → 8 ≤ room
      → put (put l 0 (header_at q.action x)) 8 (added marks q t (outset most room from) rs) ≡ put l 0 (listed marks q t rs most room)
  written l h =
      put-append l 0 8 (header_at q.action x) (added marks q t (outset most room from) rs) (zero-add _ ∙ header-length x.first x.number q.action x.total)
      ∙ ap (put l 0) (sym (listed-long h))

  -- what ends a listing below 8, and from 8 on
  pub short-answers : (entry exit : List ℕ) (r : Reply) → room < 8 → Answers (cut room (header_at q.action x)) entry exit r
      → Answers (listed marks q t rs most room) entry exit r
  short-answers entry exit r h a = rw (listed-short h) a

  pub long-answers : (entry exit : List ℕ) → 8 ≤ room → x.at ≤ length entry
      → exit ≡ put (put entry 0 (header_at q.action x)) 8 (added marks q t (outset most room from) rs)
      → Answers (listed marks q t rs most room) entry exit (told 0x00 x.at)
  long-answers entry exit h l e = answers-told _ entry exit x.at (e ∙ written entry h) (sym (listed-length h)) l

  pub long-refused : (entry : List ℕ) → 8 ≤ room → length entry < x.at → Answers (listed marks q t rs most room) entry entry (numbered ShortBuffer)
  long-refused entry h l = answers-refused _ entry (omega (arith, listed-length h))
