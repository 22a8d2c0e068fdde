-- The tables and the log that a call is lent. Assumes nothing.
use Rattle.std.specs.Prelude.{ℕ, List, take, drop}
use Rattle.rules.specs.Tables.{Tables, Rest, lent, others}
use Rattle.case_rooms.specs.declared.State.{State}
use Rattle.case_rooms.specs.declared.parts.Table.{Table}
use Rattle.case_rooms.specs.Parts.{part, length_of, number_of, begin_of, HEAD, ELEMENTS, TAGS, BLANK, GENERATIONS, MASKS, SEARCH, tags_at, blank_at, generations_at, masks_at, log_at}

-- how long a table is, and the table as it lies in the room
abbrev pub size_of : State → Table → ℕ
size_of s table = length_of s.sizes (number_of table)

abbrev pub lies : State → Table → List ℕ → List ℕ
lies s table room = part room (begin_of table) (size_of s table)

-- what a call is lent beside head and elements: the search, and the others as they lie in the room
abbrev pub around : State → List ℕ → List ℕ → Rest
around s room search =
    others (part room tags_at (length_of s.sizes TAGS)) (part room blank_at (length_of s.sizes BLANK))
    (part room generations_at (length_of s.sizes GENERATIONS)) (part room masks_at (length_of s.sizes MASKS)) search

-- the tables of a case as they lie: head, elements and search at the front of the copies that a call changes, the others in the room
abbrev pub lying : State → List ℕ → List ℕ → List ℕ → List ℕ → Tables
lying s head elements room search =
    lent (take (length_of s.sizes HEAD) head) (take (length_of s.sizes ELEMENTS) elements) (around s room (take (length_of s.sizes SEARCH) search))

-- the log of a case, from a place of it on
abbrev pub log_from : State → ℕ → List ℕ → List ℕ
log_from s at room = drop at (part room log_at s.log.length)
