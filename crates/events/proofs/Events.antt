-- Where an import is possible, each event is: for callers. Assumes nothing.
use Prim.Native.Nat.{ℕ}
use mathlib.Core.List.{List}
use Rattle.tables.specs.declared.Range.{Range}
use Rattle.ports.specs.Judged.{Importable}
use Rattle.events.specs.declared.Event.{Event}
use Rattle.events.specs.declared.Event.TheVariants.{Import, Export, Reset}
use Rattle.events.specs.Occurring.{Possible}

pub possible : (e : Event) (runs : List Range) (head elements tags : List ℕ) → Importable runs head elements tags → Possible e runs head elements tags
possible (Import address volume) runs head elements tags i = i
possible (Export address) runs head elements tags i = i.ported
possible Reset runs head elements tags i = tt
