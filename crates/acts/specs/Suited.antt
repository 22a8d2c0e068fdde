-- What the commands stand on. Assumes nothing.
use Rattle.std.specs.Prelude.{ℕ, ◌≤◌, List}
use Rattle.rules.specs.Tables.{behind_last, next_address}
use Rattle.tables.specs.declared.Range.{Range}
use Rattle.tables.specs.declared.Fixed.{Fixed}
use Rattle.operation.specs.declared.Operation.{Operation}
use Rattle.operation.specs.Meaning.{Fitting}
use Rattle.moves.specs.Judged.{Ready}
use Rattle.pages.specs.Pages.{stock}
use Rattle.listing.specs.Counting.{Readable}

-- of the tables: sound ones have it, whatever else is lent
pub record Suited (runs : List Range) (head elements : List ℕ) (fixed : Fixed) (search : List ℕ) : Type 0 where
  pub ready-to-move : Ready runs head elements
  pub ready-to-list : Readable runs head (stock elements fixed.tags.now fixed.blank.now)
  pub search-near : next_address search ≤ behind_last

-- and of what a command is called with: house number 3
pub record Served (op : Operation) (runs : List Range) (head elements : List ℕ) (fixed : Fixed) (search block : List ℕ) : Type 0 where
  pub suited : Suited runs head elements fixed search
  pub fitting : Fitting op block
