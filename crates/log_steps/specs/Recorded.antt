-- What a recorded command stands on: what sound tables have, and house number 3. Assumes nothing.
use Rattle.std.specs.Prelude.{ℕ, ◌≡◌, List, length}
use Rattle.rules.specs.Tables.{Rest}
use Rattle.tables.specs.declared.Range.{Range}
use Rattle.tables.specs.declared.Fixed.{Fixed}
use Rattle.operation.specs.declared.Operation.{Operation}
use Rattle.operation.specs.Meaning.{Fitting}
use Rattle.moves.specs.Judged.{Ready}
use Rattle.finding.specs.Findable.{Countable}

pub record Recorded (op : Operation) (runs : List Range) (head elements : List ℕ) (fixed : Fixed) (search block : List ℕ) : Type 0 where
  pub ready : Ready runs head elements
  pub counts : length block ≡ 12 → Countable runs head elements fixed.tags.now search
  pub fitting : Fitting op block

-- what a recorded command reads and never writes: it leaves what the rules say for any rest that has these, whatever else it has
pub record Given (rest : Rest) (fixed : Fixed) : Type 0 where
  pub tags-is : rest.tags ≡ fixed.tags.now
  pub generations-is : rest.generations ≡ fixed.generations.now
  pub masks-is : rest.masks ≡ fixed.masks.now
