-- "the last storage element that held it": what a source tells, after any history. Assumes nothing.
use Rattle.std.specs.Prelude.{ℕ, ◌<◌, ◌≡◌, ◌≢◌, true, List}
use Rattle.rules.specs.Tables.{Tables, volume, source, places}
use Rattle.rules.specs.Sound.{sound}
use Rattle.rules.specs.Order.{Outcome}
use Rattle.rules.specs.Command.{Call}
use Rattle.rules.specs.Histories.{History}
use Rattle.rules.specs.Shelves.{last_shelf, source_in}

-- The source of every volume present is the last storage element that it left since it last came in; if it left none since then, none if it
-- came in during the history, and what stood in the tables at the start if it was there from the start.
abbrev pub LastShelf : Type 0
LastShelf =
    (t u : Tables) (cs : List Call) (os : List Outcome) (hs : History t cs os u) → sound t ≡ true
    → (p : ℕ) → p < places u.elements → volume u.elements p ≢ 0
    → source u.elements p ≡ last_shelf (volume u.elements p) hs (source_in (volume u.elements p) t)
