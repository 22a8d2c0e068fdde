-- What the rules say of an event. Assumes nothing.
use Rattle.std.specs.Prelude.{ℕ, List}
use Rattle.rules.specs.Tables.{Tables}
use Rattle.rules.specs.Order.{Verdict}
use Rattle.rules.specs.Events.{importing, exporting, resetting}
use Rattle.tables.specs.declared.Range.{Range}
use Rattle.ports.specs.Judged.{Ported, Importable}
use Rattle.events.specs.declared.Event.{Event}
use Rattle.events.specs.declared.Event.TheVariants.{Import, Export, Reset}

unfoldable pub occurring : Tables → Event → Verdict
occurring t (Import address volume) = importing t address volume
occurring t (Export address) = exporting t address
occurring t Reset = resetting t

-- what an event stands on: import on a volume number that can be told, export on an element table that is the runs', a reset on nothing
abbrev pub Possible : Event → List Range → List ℕ → List ℕ → List ℕ → Type 0
Possible (Import address volume) runs head elements tags = Importable runs head elements tags
Possible (Export address) runs head elements tags = Ported runs head elements
Possible Reset runs head elements tags = Unit {0}
