-- What sound tables supply to the commands. Assumes nothing.
use Prim.Native.Nat.{ℕ, ◌*◌, ◌≤◌}
use native.Mathlib.Omega.{arith}
use mathlib.Core.Path.{◌≡◌}
use mathlib.Core.Bool.{true}
use mathlib.Core.List.{List}
use lib.ListN.{length}
use Rattle.rules.specs.Tables.{Rest, lent, most_elements, element_size, search_size, behind_last, next_address}
use Rattle.rules.specs.Roster.{ranges, sorted, roster}
use Rattle.rules.specs.Ranges.{total}
use Rattle.rules.specs.Bytes.{word, triple}
use Rattle.rules.specs.Sound.{sound, search_sound}
use Rattle.rules.proofs.Places.{roster-length, spread-length}
use Rattle.rules.proofs.Soundness.{sound-true, elements-length}
use Rattle.rules.proofs.KeepSearch.{search-length, search-cases}
use Rattle.tables.specs.declared.Range.{Range}
use Rattle.tables.specs.declared.Fixed.{Fixed}
use Rattle.tables.specs.Ranges.{meant, Runs}
use Rattle.tables.specs.Lent.{rest_of}
use Rattle.moves.specs.Judged.{Ready}
use Rattle.pages.specs.Pages.{stock}
use Rattle.finding.specs.Findable.{Findable, Countable}
use Rattle.listing.specs.Counting.{Readable}
use Rattle.listing.proofs.Ends.{readable}
use Rattle.acts.specs.Suited.{Suited}

-- no search, and none that is sound, has come past the last address
near : (search : List ℕ) → search_sound search ≡ true → next_address search ≤ behind_last
unfolding next_address triple word
near search e = search-cases search e (λ z. omega (arith, z 38 (omega arith), z 39 (omega arith), z 40 (omega arith))) (λ f. f.next-is)

module _ (head elements : List ℕ) (rest : Rest) (s : sound (lent head elements rest) ≡ true) where
  pub records : length elements ≡ element_size * length (roster head)
  records = elements-length (lent head elements rest) (sound-true (lent head elements rest) s)

  pub search-long : length rest.search ≡ search_size
  search-long = search-length _ (sound-true (lent head elements rest) s).rest-fits.search-fits

  module _ (runs : List Range) (is : Runs runs head) where
    pub movable : Ready runs head elements
    movable =
        let f = sound-true (lent head elements rest) s in
        record {
          runs-are = is;
          records = records;
          few = omega (arith, roster-length head, f.head-fits.elements-most);
          panel-true = f.panel-true;
        }

    pub readable-by : Readable runs head (stock elements rest.tags rest.blank)
    readable-by = readable (lent head elements rest) runs s is

-- with the tables that no command writes lent beside
pub suited : (head elements : List ℕ) (fixed : Fixed) (search : List ℕ) → sound (lent head elements (rest_of fixed search)) ≡ true → (runs : List Range) → Runs runs head
    → Suited runs head elements fixed search
suited head elements fixed search s runs is =
    record {
      ready-to-move = movable head elements (rest_of fixed search) s runs is;
      ready-to-list = readable-by head elements (rest_of fixed search) s runs is;
      search-near = near _ (sound-true (lent head elements (rest_of fixed search)) s).rest-fits.search-fits;
    }

-- what a request of the search stands on: no more elements than there are marks
few-runs : (runs : List Range) (head : List ℕ) → Runs runs head → length (roster head) ≤ most_elements → total (meant runs) ≤ most_elements
unfolding roster
few-runs runs head is few = rw is (omega (arith, spread-length 0 (sorted (ranges head))))

module _ (runs : List Range) (head elements : List ℕ) (fixed : Fixed) (search : List ℕ) (s : Suited runs head elements fixed search) where
  pub findable : Findable runs head (stock elements fixed.tags.now fixed.blank.now) search
  findable =
      record {
        reads = s.ready-to-list;
        near = s.search-near;
        few = few-runs runs head s.ready-to-move.runs-are s.ready-to-move.few;
      }

  pub countable : Countable runs head elements fixed.tags.now search
  countable =
      let r = s.ready-to-list in
      record {
        runs-are = r.runs-are;
        inside = r.listable.inside;
        stands = r.listable.stands;
        labelled = r.listable.labels.volumes;
        near = s.search-near;
        few = few-runs runs head s.ready-to-move.runs-are s.ready-to-move.few;
      }
