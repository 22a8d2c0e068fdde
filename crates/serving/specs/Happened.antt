-- What an event ends with, by the rules. Assumes nothing.
use Rattle.rules.specs.Tables.{Tables}
use Rattle.rules.specs.Order.{Outcome}
use Rattle.rules.specs.Command.{import, export, reset}
use Rattle.events.specs.declared.Event.{Event}
use Rattle.events.specs.declared.Event.TheVariants.{Import, Export, Reset}

abbrev pub happened : Event → Tables → Outcome
happened (Import address volume) t = import t address volume
happened (Export address) t = export t address
happened Reset t = reset t
