-- What sound tables supply to a line. Assumes nothing.
use Prim.Native.Nat.{ℕ}
use mathlib.Core.Path.{◌≡◌}
use mathlib.Core.Bool.{true}
use mathlib.Core.List.{List}
use Rattle.rules.specs.Tables.{Rest, lent, searching}
use Rattle.rules.specs.Sound.{sound}
use Rattle.rules.proofs.Soundness.{sound-true}
use Rattle.tables.specs.declared.Range.{Range}
use Rattle.tables.specs.declared.Fixed.{Fixed}
use Rattle.tables.specs.Ranges.{meant, Runs}
use Rattle.ports.specs.Judged.{Importable}
use Rattle.pages.specs.Pages.{stock}
use Rattle.listing.specs.Counting.{Listable}
use Rattle.moves.specs.Judged.{Ready}
use Rattle.finding.specs.Findable.{Countable}
use Rattle.acts.proofs.Supply.{records, movable, readable-by, suited, countable}
use Rattle.log_steps.specs.Recorded.{Given}

-- lent tables with a rest's in the place of those that no command writes
abbrev lending : Fixed → Rest → Fixed
lending f rest =
    record f {
      tags = record f.tags { now = rest.tags };
      blank = record f.blank { now = rest.blank };
      generations = record f.generations { now = rest.generations };
      masks = record f.masks { now = rest.masks };
    }

module _ (head elements : List ℕ) (fixed : Fixed) (search : List ℕ) (rest : Rest) (given : Given rest fixed) (s : sound (lent head elements (searching rest search)) ≡ true)
    (runs : List Range) (is : Runs runs head) where
  pub ready : Ready runs head elements
  ready = movable head elements (searching rest search) s runs is

  pub counts : Countable runs head elements fixed.tags.now search
  counts = rw (← given.tags-is) (countable runs head elements (lending fixed rest) search (suited head elements (lending fixed rest) search s runs is))

  pub importable : Importable runs head elements fixed.tags.now
  importable =
      rw (← given.tags-is)
      record {
        ported = record { runs-are = is; elements-long = records head elements (searching rest search) s };
        volumes-few = (sound-true (lent head elements (searching rest search)) s).rest-fits.labels-fit.volumes-most;
      }

  pub listable : Listable (meant runs) (stock elements rest.tags rest.blank)
  listable = (readable-by head elements (searching rest search) s runs is).listable
