-- Sound tables can be listed, and READ ELEMENT STATUS of them ends as the rules say. Assumes nothing.
use Prim.Native.Nat.{ℕ, ◌-◌, ◌≤◌}
use native.Mathlib.Omega.{arith}
use mathlib.Core.Path.{◌≡◌, refl, ap}
use mathlib.Core.Logic.{◌≢◌}
use mathlib.Core.Bool.{Bool, true, false}
use mathlib.Core.List.{List, [], ◌∷◌}
use lib.ListN.{length, take}
use lib.Dec.{leb}
use Rattle.rules.specs.Choice.{when}
use Rattle.rules.specs.Bytes.{word, triple}
use Rattle.rules.specs.Tables.{Tables, lent, sensed, Change, Sense, in_head, change, changes, bare}
use Rattle.rules.specs.Roster.{Slot, Range, ranges, sorted, spread, roster}
use Rattle.rules.specs.Sound.{sound}
use Rattle.rules.specs.Order.{Outcome, outcome, fits, Number, Done, GOOD}
use Rattle.rules.specs.Listing.{with_tags, keep, of_type, descriptor, page, pages, wholes, chosen_of, chosen_by, pages_of, listing, read_status}
use Rattle.rules.specs.Search.{behind_all}
use Rattle.rules.proofs.Ladder.{either}
use Rattle.rules.proofs.Soundness.{sound-true, RangeFits}
use Rattle.rules.proofs.Places.{spread-length}
use Rattle.rules.proofs.Ascending.{each_map, sorted-fit, ranges-sound, kinds-differ, kinds-stand}
use Rattle.order.specs.declared.Reply.{Reply}
use Rattle.order.specs.Ending.{ended, numbered}
use Rattle.order.specs.declared.House.{House}
use Rattle.order.specs.declared.House.TheVariants.{UnsoundTables, UnknownHost, BlockLength, ParameterLength, ShortBuffer, UnknownPort, Prevented, PortContent, WrongVolume}
use Rattle.pages.specs.Pages.{stock}
use Rattle.tables.specs.declared.Range.{Range as Code}
use Rattle.tables.specs.Ranges.{meant, Runs}
use Rattle.pages.proofs.Marked.{keep-unmarked}
use Rattle.listing.specs.declared.Query.{Query}
use Rattle.listing.specs.Counting.{Inside, Listable, Readable, Answers, asked, selected, listed, passed}

-- ---- sound tables can be listed

inside : (r : Range) → RangeFits r → Inside r
inside r f =
    either r.count 0 (λ z. let a = f.none z in record { begins = omega arith; ends = omega arith })
    λ n. let b = f.high n in record { begins = omega arith; ends = b }

listable : (t : Tables) → sound t ≡ true → Listable (sorted (ranges t.head)) (stock t.elements t.rest.tags t.rest.blank)
unfolding roster
listable t e =
    let s = sound-true t e in
    let n = s.elements-fit.length-is in
    let k = spread-length 0 (sorted (ranges t.head)) in
    record {
      inside = each_map RangeFits Inside inside (sorted (ranges t.head)) (sorted-fit (ranges t.head) (ranges-sound t e));
      typed = each_map (λ r. 1 ≤ r.kind) (λ r. r.kind ≡ 0 → ⊥) (λ r l z. omega arith) (sorted (ranges t.head)) (kinds-stand t.head);
      differ = kinds-differ t.head;
      stands = omega arith;
      labels = record {
        blank = s.rest-fits.labels-fit.blank-length;
        volumes = λ p h. let v = (s.elements-fit.stocks p (omega arith)).small in let g = s.rest-fits.labels-fit.tags-length in omega arith;
      };
    }

-- and read, by their runs
pub readable : (t : Tables) (runs : List Code) → sound t ≡ true → Runs runs t.head → Readable runs t.head (stock t.elements t.rest.tags t.rest.blank)
readable t runs e is = record { runs-are = is; listable = rw is (listable t e) }

-- ---- the bytes are the rules'

same-page : (tagged : Bool) (t : Tables) (kind : ℕ) (ss : List Slot)
    → page tagged (stock t.elements t.rest.tags t.rest.blank) kind ss ≡ page tagged t kind ss
unfolding page descriptor
same-page tagged t kind [] = refl
same-page tagged t kind (s ∷ ss) = refl

same-pages : (tagged : Bool) (t : Tables) (rs : List Range) (ss : List Slot)
    → pages tagged (stock t.elements t.rest.tags t.rest.blank) rs ss ≡ pages tagged t rs ss
unfolding pages
same-pages tagged t [] ss = refl
same-pages tagged t (r ∷ rs) ss = rw (same-page tagged t r.kind (keep (of_type r.kind) ss), same-pages tagged t rs ss)

-- a listing of the runs, by the elements that it selects
module _ (marks : List ℕ) (q : Query) (t : Tables) (runs : List Code) (most room : ℕ) (ss : List Slot) (is : Runs runs t.head)
    (e : selected marks q (meant runs) most ≡ ss) where
  pub listed-as : listed marks q (stock t.elements t.rest.tags t.rest.blank) (meant runs) most room ≡ listing q.action q.tagged t room ss
  unfolding listing listed pages_of
  listed-as = rw (e, is, same-pages q.tagged t (sorted (ranges t.head)) ss)

  pub passed-as : (from : ℕ)
      → passed marks q (stock t.elements t.rest.tags t.rest.blank) (meant runs) most room from
      ≡ behind_all from (take (wholes (room - 8) (pages_of q.tagged t ss)) ss)
  unfolding passed pages_of
  passed-as from = rw (e, is, same-pages q.tagged t (sorted (ranges t.head)) ss)

-- without marks it is of all elements that the block chooses
all-selected : (t : Tables) (runs : List Code) (block : List ℕ) → Runs runs t.head → selected [] (asked block 0) (meant runs) (word block 4) ≡ chosen_by t block
unfolding chosen_by chosen_of roster
all-selected t runs block is = rw (is, keep-unmarked [] (spread 0 (sorted (ranges t.head))) refl)

-- ---- the ways out

-- no house number is 0
pub some_number : (why : House) → (numbered why).number ≢ 0
unfolding numbered
some_number UnsoundTables e = absurd (omega arith)
some_number UnknownHost e = absurd (omega arith)
some_number BlockLength e = absurd (omega arith)
some_number ParameterLength e = absurd (omega arith)
some_number ShortBuffer e = absurd (omega arith)
some_number UnknownPort e = absurd (omega arith)
some_number (Prevented preventers lowest) e = absurd (omega arith)
some_number PortContent e = absurd (omega arith)
some_number WrongVolume e = absurd (omega arith)

-- an outcome with other tables
abbrev leaving : Tables → Outcome → Outcome
leaving t o =
    record {
      number = o.number;
      status = o.status;
      count = o.count;
      preventers = o.preventers;
      lowest = o.lowest;
      tables = t;
      buffer = o.buffer;
    }

-- a GOOD reply whose bytes have room, and one whose bytes have none
module _ (t : Tables) (cs : List Change) (bytes entry exit : List ℕ) (r : Reply) (a : Answers bytes entry exit r) where
  pub good-ends : r.number ≡ 0 → ended r (changes cs t) exit ≡ outcome t entry (fits entry (Done GOOD bytes cs))
  unfolding fits outcome when
  good-ends z = go (leb (length bytes) (length entry)) a
    where
      go : (b : Bool) → ended r (lent [] [] bare) exit ≡ outcome (lent [] [] bare) entry (when b (Done GOOD bytes []) (Number 5))
          → ended r (changes cs t) exit ≡ outcome t entry (when b (Done GOOD bytes cs) (Number 5))
      go true e = ap (leaving (changes cs t)) e
      go false e = let n = ap (λ (o : Outcome). o.number) e in absurd (omega arith)

  pub refused-ends : r.number ≢ 0 → ended r t exit ≡ outcome t entry (fits entry (Done GOOD bytes cs))
  unfolding fits outcome when
  refused-ends z = go (leb (length bytes) (length entry)) a
    where
      go : (b : Bool) → ended r (lent [] [] bare) exit ≡ outcome (lent [] [] bare) entry (when b (Done GOOD bytes []) (Number 5))
          → ended r t exit ≡ outcome t entry (when b (Done GOOD bytes cs) (Number 5))
      go true e = absurd (z (ap (λ (o : Outcome). o.number) e))
      go false e = ap (leaving t) e

-- the command
module _ (t : Tables) (runs : List Code) (host : ℕ) (block entry exit : List ℕ) (r : Reply) (is : Runs runs t.head)
    (a : Answers (listed [] (asked block 0) (stock t.elements t.rest.tags t.rest.blank) (meant runs) (word block 4) (triple block 7)) entry exit r) where
  abbrev Ends : List ℕ → Type 0
  Ends head = ended r (lent head t.elements t.rest) exit ≡ outcome t entry (fits entry (read_status t host block))

  answered : Answers (listing 0 (with_tags block) t (triple block 7) (chosen_by t block)) entry exit r
  answered = rw (listed-as [] (asked block 0) t runs (word block 4) (triple block 7) (chosen_by t block) is (all-selected t runs block is)) at a

  wiped : changes (Sense host 0 0 0 ∷ []) t ≡ lent (sensed t.head host 0 0 0) t.elements t.rest
  unfolding changes change in_head
  wiped = refl

  pub ends-good : (head : List ℕ) → r.number ≡ 0 → head ≡ sensed t.head host 0 0 0 → Ends head
  unfolding read_status
  ends-good head z e = rw (e, ← wiped) (good-ends t (Sense host 0 0 0 ∷ []) _ entry exit r answered z)

  pub ends-refused : r.number ≢ 0 → Ends t.head
  unfolding read_status
  ends-refused z = refused-ends t (Sense host 0 0 0 ∷ []) _ entry exit r answered z
