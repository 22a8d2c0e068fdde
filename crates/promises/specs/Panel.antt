-- "how many storage elements are empty": what the panel shows, after any history. Assumes nothing.
use Rattle.std.specs.Prelude.{◌≡◌, true, List}
use Rattle.rules.specs.Roster.{roster}
use Rattle.rules.specs.Tables.{Tables, panel, empty_shelves}
use Rattle.rules.specs.Sound.{sound}
use Rattle.rules.specs.Order.{Outcome}
use Rattle.rules.specs.Command.{Call}
use Rattle.rules.specs.Histories.{History}

-- "Every move, exchange, import, export and reset keeps it true": the number in the head is that of the storage elements without a volume, in the
-- tables as the history leaves them.
abbrev pub PanelTrue : Type 0
PanelTrue =
    (t u : Tables) (cs : List Call) (os : List Outcome) → History t cs os u → sound t ≡ true
    → panel u.head ≡ empty_shelves (roster u.head) u.elements
