-- What a request stands on; sound tables have it. Assumes nothing.
use Rattle.std.specs.Prelude.{ℕ, ◌≤◌, List, length}
use Rattle.rules.specs.Tables.{Tables, most_elements, element_at, behind_last, next_address}
use Rattle.rules.specs.Ranges.{Each, total}
use Rattle.tables.specs.declared.Range.{Range}
use Rattle.tables.specs.Ranges.{meant, Runs}
use Rattle.listing.specs.Counting.{Inside, Readable}
use Rattle.search.specs.Marks.{AllLabelled}

-- tables that can be read, a search that is no further on than an address can be, and no more elements than there are marks
pub record Findable (runs : List Range) (head : List ℕ) (t : Tables) (search : List ℕ) : Type 0 where
  pub reads : Readable runs head t
  pub near : next_address search ≤ behind_last
  pub few : total (meant runs) ≤ most_elements

-- the same, where no descriptor is written
pub record Countable (runs : List Range) (head elements tags search : List ℕ) : Type 0 where
  pub runs-are : Runs runs head
  pub inside : Each Inside (meant runs)
  pub stands : element_at (total (meant runs)) ≤ length elements
  pub labelled : AllLabelled elements tags
  pub near : next_address search ≤ behind_last
  pub few : total (meant runs) ≤ most_elements
