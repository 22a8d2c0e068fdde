-- The three events, with house numbers 1, 6, 7, 8, 9 in this order. Assumes nothing.
use Rattle.std.specs.Prelude.{ℕ, zero, suc, ◌+◌, List, [], ◌∷◌, Bool, eqb, ltb}
use Rattle.rules.specs.Choice.{when, any_of, differ, any_from}
use Rattle.rules.specs.Tables.{Tables, hosts, places, volumes, mask, prevents, volume, Change, Sense, Attention, Announce, HoldUnit, Prevent, Fill, Free, Anyone, Seek}
use Rattle.rules.specs.Roster.{roster, place_of, kind_of, port}
use Rattle.rules.specs.Sound.{sound}
use Rattle.rules.specs.Order.{Verdict, Number, Prevented, Done, GOOD, volume_of}
use Rattle.rules.specs.Search.{no_search}

-- "how many hosts prevent removal": of the n hosts from h on
unfoldable pub preventers_from : ℕ → ℕ → ℕ → ℕ
preventers_from m zero h = 0
preventers_from m (suc n) h = when (prevents m h) 1 0 + preventers_from m n (suc h)

unfoldable pub preventers : ℕ → ℕ
preventers m = preventers_from m hosts 1

-- "the lowest such host": of the n hosts from h on
unfoldable pub lowest_from : ℕ → ℕ → ℕ → ℕ
lowest_from m zero h = 0
lowest_from m (suc n) h = when (prevents m h) h (lowest_from m n (suc h))

unfoldable pub lowest : ℕ → ℕ
lowest m = lowest_from m hosts 1

-- number 6: "address is no import/export element"
unfoldable pub no_port : Tables → ℕ → Bool
no_port t a = differ (kind_of (roster t.head) a) port

-- numbers 1, 6 and 7, then the rest
unfoldable pub at_port : Tables → ℕ → Verdict → Verdict
at_port t a rest =
    when (sound t)
    (when (no_port t a) (Number 6)
    (when (differ (mask t.head) 0) (Prevented (preventers (mask t.head)) (lowest (mask t.head))) rest))
    (Number 1)

-- "already in the library"
unfoldable pub present : List ℕ → ℕ → Bool
present elements v = any_from (λ p. eqb (volume elements p) v) (places elements) 0

-- number 9: "volume number 0, above V, or already in the library"
unfoldable pub wrong_volume : Tables → ℕ → Bool
wrong_volume t v = any_of (eqb v 0 ∷ ltb (volumes t.rest.tags) v ∷ present t.elements v ∷ [])

-- "status and count are then 0, as they are for events"
unfoldable pub done : List Change → Verdict
done cs = Done GOOD [] cs

-- "Import fills an element with source 0, mark 1 .. Both set attention 28h/01h for each host with none"
unfoldable pub importing : Tables → ℕ → ℕ → Verdict
importing t a v =
    at_port t a
    (when (differ (volume_of t a) 0) (Number 8)
    (when (wrong_volume t v) (Number 9) (done (Fill (place_of (roster t.head) a) v 0 1 ∷ Announce 0x28 0x01 ∷ []))))

-- "export empties it, mark 0, source 0"
unfoldable pub exporting : Tables → ℕ → Verdict
exporting t a =
    at_port t a
    (when (eqb (volume_of t a) 0) (Number 8) (done (Fill (place_of (roster t.head) a) 0 0 0 ∷ Announce 0x28 0x01 ∷ [])))

-- of the n hosts from h on: "clears .. sense, sets attention 29h/00h"
unfoldable pub restarted_from : ℕ → ℕ → List Change
restarted_from zero h = []
restarted_from (suc n) h = Sense h 0 0 0 ∷ Attention h 0x29 0x00 ∷ restarted_from n (suc h)

-- "Reset frees all reservations, clears mask and sense, sets attention 29h/00h for all; volumes stay."; of a search: "reset clears it"
unfoldable pub resetting : Tables → Verdict
resetting t = when (sound t) (done (HoldUnit 0 ∷ Free Anyone ∷ Seek no_search ∷ Prevent 0 ∷ restarted_from hosts 1)) (Number 1)
