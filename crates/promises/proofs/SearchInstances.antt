-- The promises of searches are met by calls on the small library with films in it, whose outcomes compute. Assumes nothing.
use Prim.Native.Nat.{ℕ}
use native.Mathlib.Omega.{arith}
use mathlib.Core.Path.{◌≡◌, refl}
use mathlib.Core.Logic.{⊎_elim}
use mathlib.Core.Bool.{true}
use mathlib.Core.List.Memᴰ
use mathlib.Core.List.{List, [], ◌∷◌, Memᴰ}
use lib.ListN.{length}
use Rattle.rules.specs.Tables.{Tables, next_address}
use Rattle.rules.specs.Roster.{roster}
use Rattle.rules.specs.Sound.{sound}
use Rattle.rules.specs.Order.{Outcome, GOOD}
use Rattle.rules.specs.Listing.{keep}
use Rattle.rules.specs.Search.{found, found_by, told_by}
use Rattle.rules.specs.Command.{Request, Call, Command, serve}
use Rattle.rules.specs.Histories.{History, run_requests, none, left, right, end, more}
use Rattle.rules.specs.Told.{addresses, goes_on, told_in, one_search}
use Rattle.rules.specs.Small.{quiet_head, small_elements, films, request_block, move_block, lent_buffer}
use Rattle.rules.specs.Cases.{FILM-any, films_from}
use Rattle.rules.proofs.Opened.{opened}
use Rattle.promises.specs.Listings.{Listed}
use Rattle.promises.specs.Searches.{Rising, WholeAlone, AsksForAll}
use Rattle.promises.proofs.Instances.{passes, gives, history}
use Rattle.promises.proofs.Listings.{searches-returned}
use Rattle.promises.proofs.Searches.{none-twice, only-whole, every-match, search-kept, mixings-keep-search}

-- a search for FILM* that has told nothing yet
sought : Tables
sought = films (films_from 0) quiet_head small_elements

sought-sound : sound sought ≡ true
unfolding opened sought films_from FILM-any
sought-sound = refl

-- for all types from address 0 on, with an allocation
asking : ℕ → Request
asking allocation = record { host = 1; block = request_block 0 0 9 allocation; parameters = []; buffer = lent_buffer 100 }

-- ---- no address is told twice: one film, then a move of the other to a higher shelf, then that one

day : List Call
day = Command (asking 47) ∷ Command (record { host = 2; block = move_block 0x1002 0x1003; parameters = []; buffer = [] }) ∷ Command (asking 256) ∷ []

day-lived : History sought day (gives sought day) (passes sought day)
day-lived = history sought day

day-told : told_in day-lived ≡ 0x1000 ∷ 0x1003 ∷ []
unfolding opened day-lived day asking sought films_from FILM-any history gives passes
day-told = refl

day-one : one_search day-lived ≡ true
unfolding opened day-lived day asking sought films_from FILM-any history gives passes
day-one = refl

day-rises : Rising (next_address sought.rest.search) (told_in day-lived)
day-rises = none-twice sought (passes sought day) day (gives sought day) day-lived sought-sound day-one

-- ---- only descriptors returned whole: two are found, one byte is missing for the second

cut-goes-on : goes_on (Command (asking 47)) (serve sought (Command (asking 47))) ≡ true
unfolding opened sought asking films_from FILM-any
cut-goes-on = refl

cut-whole : WholeAlone sought (asking 47) (serve sought (Command (asking 47)))
cut-whole = only-whole sought (asking 47) cut-goes-on

cut-found : addresses (found_by sought (request_block 0 0 9 47)) ≡ 0x1000 ∷ 0x1002 ∷ []
unfolding opened sought films_from FILM-any
cut-found = refl

cut-told : addresses (told_by sought (request_block 0 0 9 47)) ≡ 0x1000 ∷ []
unfolding opened sought films_from FILM-any
cut-told = refl

cut-listed : Listed 5 sought (asking 47) 47 (found_by sought (request_block 0 0 9 47)) (serve sought (Command (asking 47)))
unfolding opened sought asking films_from FILM-any
cut-listed = searches-returned sought (asking 47) refl refl refl

-- ---- every match: with room for one descriptor at a time, two calls tell both

one_by_one : Request
one_by_one = record { host = 1; block = request_block 0 0 1 68; parameters = []; buffer = lent_buffer 100 }

asks-for-all : AsksForAll one_by_one
unfolding opened one_by_one
asks-for-all = record { first-is = refl; all_types = refl; from_start = refl; some = omega arith; room = omega arith }

twice : List Call
twice = Command one_by_one ∷ Command one_by_one ∷ []

twice-lived : History sought twice (gives sought twice) (passes sought twice)
twice-lived = history sought twice

twice-told : told_in twice-lived ≡ 0x1000 ∷ 0x1002 ∷ []
unfolding opened twice-lived twice one_by_one sought films_from FILM-any history gives passes
twice-told = refl

twice-good : (o : Outcome) → Memᴰ o (gives sought twice) → (o.number ≡ 0) × (o.status ≡ GOOD)
unfolding opened twice one_by_one sought films_from FILM-any gives
twice-good o m =
    ⊎_elim (λ (e : o ≡ _). rw e (refl, refl))
    (λ n. ⊎_elim (λ (e : o ≡ _). rw e (refl, refl)) (λ k. absurd (Memᴰ.not-nil k)) (Memᴰ.cases_cons n)) (Memᴰ.cases_cons m)

two-match : length (keep (found sought) (roster sought.head)) ≡ 2
unfolding opened sought films_from FILM-any
two-match = refl

twice-all : told_in twice-lived ≡ addresses (keep (found sought) (roster sought.head))
unfolding twice
twice-all =
    every-match sought (passes sought twice) one_by_one 2 (gives sought twice) twice-lived sought-sound asks-for-all twice-good (omega (arith, two-match))

-- ---- what keeps the search: number 5; an import; a mixing

short : Request
short = record { host = 1; block = request_block 0 0 9 256; parameters = []; buffer = lent_buffer 47 }

short-five : (serve sought (Command short)).number ≡ 5
unfolding opened sought short films_from FILM-any
short-five = refl

short-keeps : (serve sought (Command short)).tables.rest.search ≡ sought.rest.search
unfolding opened sought short films_from FILM-any
short-keeps = search-kept sought (Command short) refl refl

mixed : List Request
mixed = record { host = 2; block = move_block 0x1002 0x1003; parameters = []; buffer = [] } ∷ record { host = 1; block = move_block 0x1000 0x0100; parameters = []; buffer = [] } ∷ []

mixed-keeps : (run_requests sought mixed).rest.search ≡ sought.rest.search
unfolding opened mixed
mixed-keeps = mixings-keep-search 1 2 _ _ mixed (more refl refl end) (more refl refl end) (right (left none)) sought
