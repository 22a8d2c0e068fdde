-- What the structs of a listing mean: the tables that are shown, an element, and those of a run that are marked. Assumes nothing.
use Rattle.std.specs.Prelude.{ℕ, List}
use Rattle.rules.specs.Tables.{Tables}
use Rattle.rules.specs.Roster.{Slot as Meant}
use Rattle.pages.specs.declared.subject.Slot.{Slot}
use Rattle.pages.specs.declared.subject.Stock.{Stock}
use Rattle.pages.specs.Marks.{marked_of}
use Rattle.pages.specs.Pages.{stock, slot}

-- the tables of a stock
abbrev pub tables_of : Stock → Tables
tables_of s = stock s.elements.now s.tags.now s.blank.now

-- an element
abbrev pub slot_of : Slot → Meant
slot_of s = slot s.kind s.address s.place

-- those that are marked of n elements, from one on
abbrev pub marked_from : List ℕ → Slot → ℕ → List Meant
marked_from marks s n = marked_of marks s.kind s.address s.place n
