-- What a search tells in a history of calls, and what ends a search. Assumes nothing.
use Rattle.std.specs.Prelude.{ℕ, List, [], ◌∷◌, ◌++◌, map, Bool, true, false, not, eqb}
use Rattle.rules.specs.Choice.{when, all_of}
use Rattle.rules.specs.Bytes.{byte}
use Rattle.rules.specs.Tables.{Tables}
use Rattle.rules.specs.Roster.{Slot}
use Rattle.rules.specs.Operation.{SEND-VOLUME-TAG, REQUEST-VOLUME-ELEMENT-ADDRESS}
use Rattle.rules.specs.Order.{Outcome, GOOD}
use Rattle.rules.specs.Command.{Call, Command, Import, Export, Reset, Request}
use Rattle.rules.specs.Search.{told_by}
use Rattle.rules.specs.Histories.{History, begun, called}

-- a request with this first byte that ended with GOOD
unfoldable pub went_well : ℕ → Request → Outcome → Bool
went_well first r o = all_of (eqb (byte r.block 0) first ∷ eqb o.number 0 ∷ eqb o.status GOOD ∷ [])

abbrev pub addresses : List Slot → List ℕ
addresses ss = map (λ s. s.address) ss

-- a call that goes on with the search
unfoldable pub goes_on : Call → Outcome → Bool
goes_on (Command r) o = went_well REQUEST-VOLUME-ELEMENT-ADDRESS r o
goes_on (Import address volume) o = false
goes_on (Export address) o = false
goes_on Reset o = false

-- the addresses that a call on tables tells, by its outcome: "only descriptors returned whole count as told"
unfoldable pub tells : Tables → Call → Outcome → List ℕ
tells t (Command r) o = when (goes_on (Command r) o) (addresses (told_by t r.block)) []
tells t (Import address volume) o = []
tells t (Export address) o = []
tells t Reset o = []

-- "A new search replaces it; reset clears it."
unfoldable pub renews : Call → Outcome → Bool
renews (Command r) o = went_well SEND-VOLUME-TAG r o
renews (Import address volume) o = false
renews (Export address) o = false
renews Reset o = eqb o.number 0

-- of a history: all that is told in it; and that it lies within one search
unfoldable pub told_in : {t u : Tables} {cs : List Call} {os : List Outcome} → History t cs os u → List ℕ
told_in begun = []
told_in (called {t = t} {c = c} {o = o} e hs) = tells t c o ++ told_in hs

unfoldable pub one_search : {t u : Tables} {cs : List Call} {os : List Outcome} → History t cs os u → Bool
one_search begun = true
one_search (called {c = c} {o = o} e hs) = all_of (not (renews c o) ∷ one_search hs ∷ [])
