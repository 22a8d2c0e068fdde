-- The last shelf that a volume left, read from a history by where the volume stands before and after each call. Assumes nothing.
use Rattle.std.specs.Prelude.{ℕ, zero, suc, List, [], ◌∷◌, eqb}
use Rattle.rules.specs.Choice.{when, all_of, differ}
use Rattle.rules.specs.Tables.{Tables, volume, source, places}
use Rattle.rules.specs.Roster.{Slot, roster, storage}
use Rattle.rules.specs.Order.{Outcome}
use Rattle.rules.specs.Command.{Call}
use Rattle.rules.specs.Histories.{History, begun, called, imported}

-- the address of the storage element in which the volume w stood before and stands no more; where there is none, s
unfoldable pub vacated : ℕ → List ℕ → List ℕ → List Slot → ℕ → ℕ
vacated w before behind [] s = s
vacated w before behind (x ∷ xs) s =
    when (all_of (eqb x.kind storage ∷ eqb (volume before x.place) w ∷ differ (volume behind x.place) w ∷ [])) x.address
    (vacated w before behind xs s)

-- after one call on tables t, where s was the last shelf before it: none if w comes in, the one that it leaves, else as it was
unfoldable pub shelf_after : ℕ → Tables → Call → Outcome → ℕ → ℕ
shelf_after w t c o s = when (eqb (imported w t c o) 1) 0 (vacated w t.elements o.tables.elements (roster t.head) s)

-- after a history
unfoldable pub last_shelf : {t u : Tables} {cs : List Call} {os : List Outcome} → ℕ → History t cs os u → ℕ → ℕ
last_shelf w begun s = s
last_shelf w (called {t = t} {c = c} {o = o} e hs) s = last_shelf w hs (shelf_after w t c o s)

-- the source that stands beside the volume w at the first n places; 0 where w is not
unfoldable pub beside : ℕ → List ℕ → ℕ → ℕ
beside w elements zero = 0
beside w elements (suc n) = when (eqb (volume elements n) w) (source elements n) (beside w elements n)

unfoldable pub source_in : ℕ → Tables → ℕ
source_in w t = beside w t.elements (places t.elements)
