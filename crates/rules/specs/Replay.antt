-- "Replay of the day's log": what a line does to tables, and all that a call of replay ends with. Assumes nothing.
use Rattle.std.specs.Prelude.{ℕ, zero, suc, ◌+◌, List, Bool, true, false, length, eqb, ltb}
use Rattle.rules.specs.Choice.{when}
use Rattle.rules.specs.Tables.{Tables}
use Rattle.rules.specs.Sound.{sound}
use Rattle.rules.specs.Order.{Verdict, Number, after}
use Rattle.rules.specs.Command.{Call, Command, Import, Export, Reset, after_numbers, steps, verdict}
use Rattle.rules.specs.Log.{LINE-FEED, first_of, before, beyond, Line, Other, Entry, line_of}

-- ---- one line on tables

-- "Answers aren't kept, so number 5 doesn't arise": the verdict of a call, but for the length of its answer buffer
unfoldable pub answerless : Tables → Call → Verdict
answerless t (Command r) = when (sound t) (after_numbers r (steps t r.host r.block r.parameters)) (Number 1)
answerless t (Import address volume) = verdict t (Import address volume)
answerless t (Export address) = verdict t (Export address)
answerless t Reset = verdict t Reset

-- "A line the core refuses by number counts as applied."
unfoldable pub after_line : Tables → Call → Tables
after_line t c = after (answerless t c) t

-- whether a line was applied, and the tables after it
pub record Turn : Type 0 where
  pub applied : Bool
  pub tables : Tables

abbrev pub idle : Tables → Turn
idle t = record { applied = false; tables = t }

-- "A line of another form or number .. stops with the tables as after the line before"
unfoldable pub turn_on : Tables → ℕ → Line → Turn
turn_on t e Other = idle t
turn_on t e (Entry k c) = when (eqb k e) (record { applied = true; tables = after_line t c }) (idle t)

-- "lines of at most 512 bytes"
abbrev pub longest_line : ℕ
longest_line = 512

-- the line that a text begins with: ".. and a line feed", which is not counted in the 512
unfoldable pub turn : Tables → ℕ → List ℕ → Turn
turn t e s =
    when (eqb (first_of LINE-FEED s) (length s)) (idle t)
    (when (ltb longest_line (first_of LINE-FEED s)) (idle t) (turn_on t e (line_of (before LINE-FEED s))))

-- ---- the whole

-- what a call of replay ends with: house number 0, 1 or 10, lines applied, bytes that they take, the number expected next, the tables
pub record Replayed : Type 0 where
  pub number : ℕ
  pub lines : ℕ
  pub place : ℕ
  pub expected : ℕ
  pub tables : Tables

abbrev pub stopped : ℕ → ℕ → Tables → Replayed
stopped n e t = record { number = n; lines = 0; place = 0; expected = e; tables = t }

-- behind so many lines, which take so many bytes
abbrev pub ahead : ℕ → ℕ → Replayed → Replayed
ahead l p r = record { number = r.number; lines = l + r.lines; place = p + r.place; expected = r.expected; tables = r.tables }

-- "Each call does at most a stated number of lines, stops sooner only at number 1 or 10 or the log's end": the log s from here, with a
-- budget; "an expected number that rises by one a line"; number 10 "with the expected number .. and the tables as after the line before"
unfoldable pub turns : ℕ → Tables → List ℕ → ℕ → Replayed
turns zero t s e = stopped 0 e t
turns (suc n) t s e =
    when (eqb (length s) 0) (stopped 0 e t)
    (when (turn t e s).applied (ahead 1 (first_of LINE-FEED s + 1) (turns n (turn t e s).tables (beyond LINE-FEED s) (e + 1)))
    (stopped 10 e t))

-- "Replay starts from given tables and an expected number ..; unsound tables give 1."
unfoldable pub replay : Tables → List ℕ → ℕ → ℕ → Replayed
replay t log e budget = when (sound t) (turns budget t log e) (stopped 1 e t)
