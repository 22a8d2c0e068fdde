-- What a call leaves: the rules' own outcome. Assumes nothing.
use Rattle.std.specs.Prelude.{ℕ, List}
use Rattle.rules.specs.Tables.{Tables}
use Rattle.rules.specs.Order.{Outcome}
use Rattle.rules.specs.Command.{command, import, export, reset}
use Rattle.case_script.specs.declared.word.Word.{Word}
use Rattle.case_script.specs.declared.word.Word.TheVariants as word

-- an event's outcome, with the answer buffer beside it, which an event is not lent
unfoldable pub beside : List ℕ → Outcome → Outcome
beside buffer o =
    record {
      number = o.number;
      status = o.status;
      count = o.count;
      preventers = o.preventers;
      lowest = o.lowest;
      tables = o.tables;
      buffer = buffer;
    }

-- the event that a line names
unfoldable pub event : Word → ℕ → ℕ → Tables → Outcome
event word.Import first second t = import t first second
event word.Export first second t = export t first
event _ first second t = reset t

-- the call that a line names
unfoldable pub called : Word → ℕ → ℕ → Tables → ℕ → List ℕ → List ℕ → List ℕ → Outcome
called word.Command first second t host block parameters buffer = command t host block parameters buffer
called w first second t host block parameters buffer = beside buffer (event w first second t)
