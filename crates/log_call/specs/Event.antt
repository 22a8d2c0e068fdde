-- The event that a line records. Assumes nothing.
use Rattle.std.specs.Prelude.{ℕ, Option, Some, None}
use Rattle.rules.specs.Command.{Import as ImportCall, Export as ExportCall, Reset as ResetCall}
use Rattle.rules.specs.Log.{Line, Other, Entry}
use Rattle.events.specs.declared.Event.{Event}
use Rattle.events.specs.declared.Event.TheVariants.{Import, Export, Reset}

-- as a line of number k
unfoldable pub recorded : ℕ → Option Event → Line
recorded k None = Other
recorded k (Some (Import address volume)) = Entry k (ImportCall address volume)
recorded k (Some (Export address)) = Entry k (ExportCall address)
recorded k (Some Reset) = Entry k ResetCall
