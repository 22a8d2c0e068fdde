-- What was marked, listed and counted is what the rules find and tell, and each way out ends as they say. Assumes nothing.
use Prim.Native.Nat.{ℕ, zero, suc, ◌≤◌}
use native.Mathlib.Omega.{arith}
use mathlib.Core.Path.{◌≡◌, refl, ◌∙◌}
use mathlib.Core.Logic.{◌≢◌}
use mathlib.Core.List.{List, [], ◌∷◌}
use lib.ListN.{length, replicate, length-replicate}
use Rattle.rules.specs.Bytes.{byte, word, three, put}
use Rattle.rules.specs.Tables.{Tables, lent, searching, most_elements, element_at, next_at, next_address, action, sensed, Change, Sense, GoOn, in_head, in_search, change, changes}
use Rattle.rules.specs.Roster.{Slot, Range as Meant, spread, roster}
use Rattle.rules.specs.Ranges.{total}
use Rattle.rules.specs.Order.{outcome, fits, after}
use Rattle.rules.specs.Listing.{keep, chosen_of}
use Rattle.rules.specs.Search.{found, found_by, told_by, behind_all, request_address}
use Rattle.tables.specs.declared.Range.{Range}
use Rattle.tables.specs.Ranges.{meant, Runs}
use Rattle.order.specs.declared.Reply.{Reply}
use Rattle.order.specs.Ending.{ended}
use Rattle.pages.specs.Pages.{stock}
use Rattle.pages.specs.Marks.{marked}
use Rattle.pages.proofs.Marked.{told-by}
use Rattle.search.specs.Marks.{Marked, AllLabelled, Searchable}
use Rattle.listing.specs.Counting.{Answers, asked, selected, listed, passed}
use Rattle.listing.proofs.Ends.{listed-as, passed-as, good-ends, refused-ends}

-- ---- marks of which none is made

unmarked : (n q : ℕ) → byte (replicate n 0) q ≡ 0
unfolding byte
unmarked zero q = refl
unmarked (suc n) zero = refl
unmarked (suc n) (suc q) = unmarked n q

pub fresh : (rs : List Meant) (elements tags : List ℕ) → element_at (total rs) ≤ length elements → AllLabelled elements tags → total rs ≤ most_elements
    → Searchable rs elements tags (replicate most_elements 0)
fresh rs elements tags s l f =
    record { stands = s; labels = l; enough = omega (arith, length-replicate {A = ℕ} most_elements 0); unmarked = unmarked most_elements }

-- ---- what is marked is what is found

kept : (t : Tables) (marks : List ℕ) (ss : List Slot) → length marks ≢ 0 → Marked t marks ss → keep (marked marks) ss ≡ keep (found t) ss
unfolding keep
kept t marks [] n m = refl
kept t marks (s ∷ ss) n m = rw (told-by marks s.place n, m.0, kept t marks ss n m.1)

module _ (t : Tables) (runs : List Range) (marks block : List ℕ) (is : Runs runs t.head) (n : length marks ≢ 0)
    (m : Marked t marks (spread 0 (meant runs))) (host : ℕ) where
  selected-is : selected marks (asked block (action t.rest.search)) (meant runs) (word block 4) ≡ found_by t block
  unfolding found_by chosen_of roster
  selected-is = rw (kept t marks (spread 0 (meant runs)) n m, is) refl

  -- the changes that a request makes
  abbrev gone : List Change
  gone = Sense host 0 0 0 ∷ GoOn (behind_all (next_address t.rest.search) (told_by t block)) ∷ []

  gone-to : changes gone t
      ≡ lent (sensed t.head host 0 0 0) t.elements
      (searching t.rest (put t.rest.search next_at (three (behind_all (next_address t.rest.search) (told_by t block)))))
  unfolding changes change in_head in_search
  gone-to = refl

  -- the next address that was counted
  next-is : passed marks (asked block (action t.rest.search)) (stock t.elements t.rest.tags t.rest.blank) (meant runs) (word block 4) (word block 7) (next_address t.rest.search)
      ≡ behind_all (next_address t.rest.search) (told_by t block)
  unfolding told_by
  next-is = passed-as marks (asked block (action t.rest.search)) t runs (word block 4) (word block 7) (found_by t block) is selected-is (next_address t.rest.search)

  module _ (head search : List ℕ) (next : ℕ) (e : head ≡ sensed t.head host 0 0 0) (f : search ≡ put t.rest.search next_at (three next))
      (g : next ≡ passed marks (asked block (action t.rest.search)) (stock t.elements t.rest.tags t.rest.blank) (meant runs) (word block 4) (word block 7) (next_address t.rest.search)) where
    left : lent head t.elements (searching t.rest search) ≡ changes gone t
    left = rw (e, f, g ∙ next-is) (rw gone-to refl)

    -- without an answer
    pub goes_on : lent head t.elements (searching t.rest search) ≡ after (request_address t host block) t
    unfolding request_address after
    goes_on = left

    pub ends-good : (entry exit : List ℕ) (r : Reply)
        → Answers (listed marks (asked block (action t.rest.search)) (stock t.elements t.rest.tags t.rest.blank) (meant runs) (word block 4) (word block 7)) entry exit r
        → r.number ≡ 0
        → ended r (lent head t.elements (searching t.rest search)) exit ≡ outcome t entry (fits entry (request_address t host block))
    unfolding request_address
    ends-good entry exit r a z =
        rw left
        (good-ends t gone _ entry exit r
        (rw (listed-as marks (asked block (action t.rest.search)) t runs (word block 4) (word block 7) (found_by t block) is selected-is) at a) z)

  pub ends-refused : (entry exit : List ℕ) (r : Reply)
      → Answers (listed marks (asked block (action t.rest.search)) (stock t.elements t.rest.tags t.rest.blank) (meant runs) (word block 4) (word block 7)) entry exit r
      → r.number ≢ 0 → ended r t exit ≡ outcome t entry (fits entry (request_address t host block))
  unfolding request_address
  ends-refused entry exit r a z =
      refused-ends t gone _ entry exit r
      (rw (listed-as marks (asked block (action t.rest.search)) t runs (word block 4) (word block 7) (found_by t block) is selected-is) at a) z
