-- What sound tables supply to the events, and the lengths that they have. Assumes nothing.
use Prim.Native.Nat.{ℕ}
use mathlib.Core.Path.{◌≡◌}
use mathlib.Core.Bool.{true}
use mathlib.Core.List.{List}
use lib.ListN.{length}
use Rattle.rules.specs.Tables.{Rest, lent, head_size, search_size}
use Rattle.rules.specs.Sound.{sound}
use Rattle.rules.proofs.Soundness.{sound-true}
use Rattle.tables.specs.declared.Range.{Range}
use Rattle.tables.specs.Ranges.{Runs}
use Rattle.ports.specs.Judged.{Importable}
use Rattle.acts.proofs.Supply.{records, search-long}

module _ (head elements : List ℕ) (rest : Rest) (s : sound (lent head elements rest) ≡ true) where
  pub head-whole : length head ≡ head_size
  head-whole = (sound-true (lent head elements rest) s).head-fits.length-is

  pub search-whole : length rest.search ≡ search_size
  search-whole = search-long head elements rest s

  pub importable : (runs : List Range) → Runs runs head → Importable runs head elements rest.tags
  importable runs is =
      record {
        ported = record { runs-are = is; elements-long = records head elements rest s };
        volumes-few = (sound-true (lent head elements rest) s).rest-fits.labels-fit.volumes-most;
      }
