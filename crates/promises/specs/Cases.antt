-- P1 to P12, READ all, the errors that were shipped, and a row for each house number, step and command. Assumes nothing.
use Rattle.std.specs.Prelude.{◌≡◌}
use mathlib.Core.List.{Memᴰ}
use Rattle.rules.specs.Command.{serve}
use Rattle.rules.specs.Cases.{Case, cases}

-- every row of the table ends as it says: house number, status, count, preventers, lowest, tables, buffer
abbrev pub CasesHold : Type 0
CasesHold = (c : Case) → Memᴰ c cases → serve c.on c.call ≡ c.gives
