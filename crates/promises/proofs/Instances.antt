-- None of the promises is hollow: each is met by calls on the small library, whose outcomes compute. Assumes nothing.
use Prim.Native.Nat.{ℕ, ◌+◌, ◌-◌, ◌≤◌}
use native.Mathlib.Omega.{arith}
use mathlib.Core.Path.{◌≡◌, refl, sym, ap, subst, ◌∙◌}
use mathlib.Core.Logic.{◌≢◌, ⊎_elim}
use mathlib.Core.Bool.{Bool, true, false}
use mathlib.Core.List.Memᴰ
use mathlib.Core.List.{List, [], ◌∷◌, ◌++◌, map, Memᴰ}
use lib.ListN.{length}
use lib.Dec.{leb}
use borrow.Author.Tests.{leb-true}
use Rattle.rules.specs.Choice.{when, differ}
use Rattle.rules.specs.Bytes.{byte}
use Rattle.rules.specs.Roster.{roster}
use Rattle.rules.specs.Tables.{Tables, volume, source, panel, empty_shelves}
use Rattle.rules.specs.Fitting.{accepts}
use Rattle.rules.specs.Sound.{sound}
use Rattle.rules.specs.Order.{Outcome, held_by_other, volume_of, GOOD, CHECK-CONDITION, RESERVATION-CONFLICT}
use Rattle.rules.specs.Listing.{chosen_by}
use Rattle.rules.specs.Moves.{transport_used}
use Rattle.rules.specs.Command.{Request, Call, Command, Import, Export, Reset, serve}
use Rattle.rules.specs.Numbers.{conditions, Foremost}
use Rattle.rules.specs.Histories.{next, History, begun, called, imports, exports, Reply, told_to, run_requests, replies, Mixing, none, left, right, named, From, end, more, Apart, AsGiven}
use Rattle.rules.specs.Shelves.{last_shelf, source_in}
use Rattle.rules.specs.Small.{quiet, element, empty, loaded, elements_of, library_of, library, quiet_showing, quiet_head, small_elements, small, move_block, exchange_block, read_block, sends, asks, lent_buffer, refuses}
use Rattle.rules.specs.Cases.{Case, numbers, event_numbers, twice, laden, locked, address_page, geometry_page, capability_page, whole_modes, mode_block, three_arms, arms_of}
use Rattle.rules.proofs.Ladder.{differ-true}
use Rattle.rules.proofs.Same.{unfit-names-none}
use Rattle.promises.specs.Refusals.{Untouched, OwnBytesAlone, Kept, Reads}
use Rattle.promises.specs.Listings.{whole_answer, returned_for, Honest, Listed}
use Rattle.promises.specs.Modes.{codes_of, uncut, CutAlone}
use Rattle.promises.specs.Demand3.{AsIfAlone}
use Rattle.promises.specs.Sequences.{AsTheRules}
use Rattle.promises.specs.Volumes.{standing}
use Rattle.promises.specs.Arms.{OpenArm}
use Rattle.rules.proofs.Opened.{opened}
use Rattle.promises.proofs.SoundStays.{sound-stays-promised}
use Rattle.promises.proofs.Numbers.{numbers-exact}
use Rattle.promises.proofs.Refusals.{by_number, by-status, buffer-kept, only-reads}
use Rattle.promises.proofs.Listings.{honest-listings, listings-returned}
use Rattle.promises.proofs.Modes.{cut-once}
use Rattle.promises.proofs.Demand3.{demand3, runs-are-histories}
use Rattle.promises.proofs.Sequences.{sequences}
use Rattle.promises.proofs.Volumes.{volumes-promised, never-twice}
use Rattle.promises.proofs.Shelves.{last-shelf}
use Rattle.promises.proofs.Panel.{panel-true}
use Rattle.promises.proofs.Drives.{tables-as-given, right-drives}
use Rattle.promises.proofs.Arms.{free-arm}

-- ---- a test at every member of a list

unfoldable pub every : {A : Type 0} → (A → Bool) → List A → Bool
unfolding when
every f [] = true
every f (a ∷ l) = when (f a) (every f l) false

when-first : (b c : Bool) → when b c false ≡ true → b ≡ true
unfolding when
when-first true c e = refl
when-first false c e = e

when-rest : (b c : Bool) → when b c false ≡ true → c ≡ true
unfolding when
when-rest true c e = e
when-rest false c e = cc

pub at_each : {A : Type 0} (f : A → Bool) (l : List A) → every f l ≡ true → (a : A) → Memᴰ a l → f a ≡ true
unfolding every
at_each f [] e a m = absurd (Memᴰ.not-nil m)
at_each f (b ∷ l) e a m =
    ⊎_elim (λ (i : a ≡ b). rw i (when-first (f b) (every f l) e)) (λ n. at_each f l (when-rest (f b) (every f l) e) a n) (Memᴰ.cases_cons m)

pub small-sound : sound small ≡ true
unfolding opened
small-sound = refl

-- ---- sound stays sound: of P1, which is carried out

p1 : Call
p1 = asks (move_block 0x1000 0x0100)

p1-moves : next small p1 ≡ library (quiet_showing 3) (elements_of empty (element 1 0x1000 0 0 0) empty empty (loaded 2) empty)
unfolding opened p1
p1-moves = refl

p1-stays : sound (next small p1) ≡ true
p1-stays = sound-stays-promised small p1 small-sound

-- ---- demand 1: of a refusal by each number, and by either status

refusals : List Case
refusals = numbers ++ event_numbers

number_of : Case → ℕ
number_of c = (serve c.on c.call).number

each_number : map number_of refusals ≡ 1 ∷ 2 ∷ 3 ∷ 4 ∷ 5 ∷ 6 ∷ 7 ∷ 8 ∷ 8 ∷ 9 ∷ []
unfolding opened refusals number_of numbers event_numbers twice laden locked refuses
each_number = refl

-- the first of them: the tables are not sound, nor is the host one, nor does the block fit
three-hold : conditions twice (sends 0 [] [] (lent_buffer 1)) ≡ false ∷ true ∷ true ∷ true ∷ false ∷ false ∷ []
unfolding opened twice
three-hold = refl

first-told : Foremost twice (sends 0 [] [] (lent_buffer 1)) 1
unfolding opened twice
first-told = (numbers-exact twice (sends 0 [] [] (lent_buffer 1)) 1).only-when refl

-- a buffer one byte too short, and one that is just long enough
listed : ℕ → Call
listed bytes = sends 1 (read_block 2 2 47) [] (lent_buffer bytes)

one-short : conditions small (listed 31) ≡ false ∷ false ∷ false ∷ false ∷ false ∷ true ∷ []
unfolding opened listed
one-short = refl

five-told : Foremost small (listed 31) 5
unfolding opened listed
five-told = (numbers-exact small (listed 31) 5).only-when refl

none-short : Foremost small (listed 32) 0
unfolding opened listed
none-short = (numbers-exact small (listed 32) 0).only-when refl

none_done : every (λ c. differ (number_of c) 0) refusals ≡ true
unfolding every opened refusals number_of numbers event_numbers twice laden locked refuses
none_done = refl

each-refusal-untouched : (c : Case) → Memᴰ c refusals → Untouched c.on c.call (serve c.on c.call)
unfolding number_of
each-refusal-untouched c m = by_number c.on c.call (differ-true _ 0 (at_each (λ c. differ (number_of c) 0) refusals none_done c m))

-- P2: CHECK CONDITION stores host 1's sense and nothing else
asked : List ℕ → Request
asked block = record { host = 1; block = block; parameters = []; buffer = [] }

p2 : Request
p2 = asked (move_block 0x1001 0x0100)

p2-checks : (serve small (Command p2)).status ≡ CHECK-CONDITION
unfolding opened p2 asked
p2-checks = refl

p2-alone : OwnBytesAlone small p2 (serve small (Command p2))
p2-alone = by-status small p2 (λ e. let z : ◌≡◌ {A = ℕ} 2 0 = sym p2-checks ∙ e in omega arith)

-- P11: RESERVATION CONFLICT
p11-on : Tables
p11-on = library quiet_head (elements_of empty empty (loaded 1) empty (element 2 0 2 0 0) empty)

p11 : Request
p11 = asked (move_block 0x1000 0x1002)

p11-conflicts : (serve p11-on (Command p11)).status ≡ RESERVATION-CONFLICT
unfolding opened p11-on p11 asked
p11-conflicts = refl

p11-alone : OwnBytesAlone p11-on p11 (serve p11-on (Command p11))
p11-alone = by-status p11-on p11 (λ e. let z : ◌≡◌ {A = ℕ} 0x18 0 = sym p11-conflicts ∙ e in omega arith)

-- P12: bytes are returned, and two of the buffer's stay
p12 : Request
p12 = record { host = 1; block = read_block 2 2 48; parameters = []; buffer = lent_buffer 50 }

p12-counts : (serve small (Command p12)).count ≡ 48
unfolding opened p12
p12-counts = refl

p12-reads : ((serve small (Command p12)).status ≡ GOOD) × Reads (Command p12)
p12-reads = only-reads small (Command p12) (λ e. let z : ◌≡◌ {A = ℕ} 48 0 = sym p12-counts ∙ e in omega arith)

p12-keeps : Kept (Command p12) (serve small (Command p12))
p12-keeps = buffer-kept small (Command p12)

-- its bytes stand in the buffer; with an allocation of 47 the second descriptor would not have fitted
p12-listed : Listed 0 small p12 48 (chosen_by small (read_block 2 2 48)) (serve small (Command p12))
unfolding opened p12
p12-listed = listings-returned small p12 refl refl refl

cut-47 : length (returned_for 0 small (read_block 2 2 47) 47 (chosen_by small (read_block 2 2 47))) ≡ 32
unfolding opened
cut-47 = refl

whole-48 : length (whole_answer 0 small (read_block 2 2 47) (chosen_by small (read_block 2 2 47))) ≡ 48
unfolding opened
whole-48 = refl

cut-47-honest : Honest 0 small (read_block 2 2 47) 47 (chosen_by small (read_block 2 2 47))
cut-47-honest = (honest-listings small (read_block 2 2 47) 47).read

-- ---- MODE SENSE: all pages of the small library, whole and cut in the middle of a page

modes : ℕ → Request
modes allocation = record { host = 1; block = mode_block 0x3F allocation; parameters = []; buffer = lent_buffer 50 }

modes-are : uncut small (modes 255) ≡ whole_modes
unfolding opened modes mode_block whole_modes address_page geometry_page capability_page
modes-are = refl

three-pages : codes_of 0x3F ≡ 0x1D ∷ 0x1E ∷ 0x1F ∷ []
unfolding opened codes_of
three-pages = refl

whole-cut : CutAlone small (modes 255) (serve small (Command (modes 255)))
unfolding opened modes mode_block
whole-cut = cut-once small (modes 255) refl refl refl

five-cut : CutAlone small (modes 5) (serve small (Command (modes 5)))
unfolding opened modes mode_block
five-cut = cut-once small (modes 5) refl refl refl

five-counted : (serve small (Command (modes 5))).count ≡ 5
unfolding opened modes mode_block
five-counted = refl

-- ---- histories

-- the history that the rules themselves make
unfoldable pub passes : Tables → List Call → Tables
passes t [] = t
passes t (c ∷ cs) = passes (serve t c).tables cs

unfoldable pub gives : Tables → List Call → List Outcome
gives t [] = []
gives t (c ∷ cs) = serve t c ∷ gives (serve t c).tables cs

unfoldable pub history : (t : Tables) (cs : List Call) → History t cs (gives t cs) (passes t cs)
unfolding passes gives
history t [] = begun
history t (c ∷ cs) = called refl (history (serve t c).tables cs)

-- ---- demand 3: two hosts that really move reels, in all six mixings

sent : ℕ → ℕ → ℕ → Request
sent host from to = record { host = host; block = move_block from to; parameters = []; buffer = [] }

-- host 1 takes volume 1 to the drive and on to another shelf; host 2 takes volume 2 to another shelf and back
a₁ : Request
a₁ = sent 1 0x1000 0x0100

a₂ : Request
a₂ = sent 1 0x0100 0x1001

b₁ : Request
b₁ = sent 2 0x1002 0x1003

b₂ : Request
b₂ = sent 2 0x1003 0x1002

ones : List Request
ones = a₁ ∷ a₂ ∷ []

twos : List Request
twos = b₁ ∷ b₂ ∷ []

-- a list that keeps each host's order
record Mixed : Type 0 where
  order : List Request
  mixing : Mixing ones twos order

mixings : List Mixed
unfolding ones twos
mixings =
    record { order = a₁ ∷ a₂ ∷ b₁ ∷ b₂ ∷ []; mixing = left (left (right (right none))) }
    ∷ record { order = a₁ ∷ b₁ ∷ a₂ ∷ b₂ ∷ []; mixing = left (right (left (right none))) }
    ∷ record { order = a₁ ∷ b₁ ∷ b₂ ∷ a₂ ∷ []; mixing = left (right (right (left none))) }
    ∷ record { order = b₁ ∷ a₁ ∷ a₂ ∷ b₂ ∷ []; mixing = right (left (left (right none))) }
    ∷ record { order = b₁ ∷ a₁ ∷ b₂ ∷ a₂ ∷ []; mixing = right (left (right (left none))) }
    ∷ record { order = b₁ ∷ b₂ ∷ a₁ ∷ a₂ ∷ []; mixing = right (right (left (left none))) }
    ∷ []

-- host 1 names addresses up to 1001h, host 2 above
low_ones : every (λ x. every (λ a. leb a 0x1001) (named x.block)) ones ≡ true
unfolding every opened ones a₁ a₂ sent
low_ones = refl

high-twos : every (λ y. every (λ a. leb 0x1002 a) (named y.block)) twos ≡ true
unfolding every opened twos b₁ b₂ sent
high-twos = refl

apart : Apart ones twos
apart x y m n a i j =
    let low : a ≤ 0x1001 = leb-true _ _ (at_each (λ a. leb a 0x1001) _ (at_each (λ x. every (λ a. leb a 0x1001) (named x.block)) ones low_ones x m) a i) in
    let high : 0x1002 ≤ a = leb-true _ _ (at_each (λ a. leb 0x1002 a) _ (at_each (λ y. every (λ a. leb 0x1002 a) (named y.block)) twos high-twos y n) a j) in
    omega arith

from_one : From 1 ones
unfolding opened ones a₁ a₂ sent
from_one = more refl refl (more refl refl end)

from-two : From 2 twos
unfolding opened twos b₁ b₂ sent
from-two = more refl refl (more refl refl end)

each-mixing : (m : Mixed) → AsIfAlone 1 2 ones twos m.order small
each-mixing m = demand3 1 2 (λ e. omega arith) ones twos m.order from_one from-two apart m.mixing small

-- what each host is told alone, and where the reels are at the end, each with the last shelf that it left
answer : ℕ → Reply
answer number = record { number = number; status = 0; count = 0; preventers = 0; lowest = 0; buffer = [] }

one-alone : replies 1 small ones ≡ answer 0 ∷ answer 0 ∷ []
unfolding opened ones a₁ a₂ sent answer
one-alone = refl

two-alone : replies 2 small twos ≡ answer 0 ∷ answer 0 ∷ []
unfolding opened twos b₁ b₂ sent answer
two-alone = refl

moved : Tables
moved = library quiet_head (elements_of empty empty empty (element 1 0x1000 0 0 0) (element 2 0x1003 0 0 0) empty)

all_moved : run_requests small (ones ++ twos) ≡ moved
unfolding opened ones twos a₁ a₂ b₁ b₂ sent moved
all_moved = refl

each-moved : (m : Mixed) → run_requests small m.order ≡ moved
each-moved m = (each-mixing m).tables ∙ all_moved

-- the history in which the hosts take turns: its outcomes tell each host what it is told alone
turns : List Request
turns = a₁ ∷ b₁ ∷ a₂ ∷ b₂ ∷ []

turns-told : (h : ℕ) → told_to h turns (gives small (map Command turns)) ≡ replies h small turns
turns-told h = (runs-are-histories small turns).tells (passes small (map Command turns)) _ (history small (map Command turns)) h

turns-one : told_to 1 turns (gives small (map Command turns)) ≡ answer 0 ∷ answer 0 ∷ []
unfolding opened turns gives a₁ a₂ b₁ b₂ sent answer
turns-one = refl

-- two hosts that each send a block of one byte name no address, and are told number 3 in either order
short : ℕ → Request
short host = record { host = host; block = 0xA5 ∷ []; parameters = []; buffer = [] }

names-none : named (short 1).block ≡ []
unfolding opened short
names-none = unfit-names-none (0xA5 ∷ []) refl

short-apart : Apart (short 1 ∷ []) (short 2 ∷ [])
short-apart x y m n a i j =
    ⊎_elim (λ (e : x ≡ short 1). Memᴰ.not-nil (subst (Memᴰ a) (ap (λ (r : Request). named r.block) e ∙ names-none) i))
    (λ r. absurd (Memᴰ.not-nil r)) (Memᴰ.cases_cons m)

short-mixed : AsIfAlone 1 2 (short 1 ∷ []) (short 2 ∷ []) (short 2 ∷ short 1 ∷ []) small
unfolding opened short
short-mixed = demand3 1 2 (λ e. omega arith) _ _ _ (more refl refl end) (more refl refl end) short-apart (right (left none)) small

short-told : replies 1 small (short 1 ∷ []) ≡ answer 3 ∷ []
unfolding opened short answer
short-told = refl

-- "Demand 3's final tables include it": each host takes a volume off a shelf, and in either order the panel shows both shelves
off₁ : Request
off₁ = sent 1 0x1000 0x0100

off₂ : Request
off₂ = sent 2 0x1002 0x0010

-- no address of the one is one of the other's
differing : Request → Request → Bool
differing x y = every (λ a. every (differ a) (named y.block)) (named x.block)

off-differ : every (λ x. every (differing x) (off₂ ∷ [])) (off₁ ∷ []) ≡ true
unfolding every differing opened off₁ off₂ sent
off-differ = refl

off-apart : Apart (off₁ ∷ []) (off₂ ∷ [])
unfolding differing
off-apart x y m n a i j =
    let pair : differing x y ≡ true = at_each (differing x) _ (at_each (λ x. every (differing x) (off₂ ∷ [])) _ off-differ x m) y n in
    differ-true a a (at_each (differ a) _ (at_each (λ a. every (differ a) (named y.block)) _ pair a i) a j) refl

off-mixed : AsIfAlone 1 2 (off₁ ∷ []) (off₂ ∷ []) (off₂ ∷ off₁ ∷ []) small
unfolding opened off₁ off₂ sent
off-mixed = demand3 1 2 (λ e. omega arith) _ _ _ (more refl refl end) (more refl refl end) off-apart (right (left none)) small

off-after : panel (run_requests small (off₁ ∷ off₂ ∷ [])).head ≡ 4
unfolding opened off₁ off₂ sent
off-after = refl

off-either : panel (run_requests small (off₂ ∷ off₁ ∷ [])).head ≡ 4
off-either = ap (λ (u : Tables). panel u.head) off-mixed.tables ∙ off-after

-- ---- sequences and volumes: a history with an import and an export

-- volume 3 comes in and goes to a shelf, volume 1 goes out; host 1 is told of the import in between
day : List Call
day =
    Import 0x0010 3
    ∷ asks (0x00 ∷ 0 ∷ 0 ∷ 0 ∷ 0 ∷ 0 ∷ [])
    ∷ asks (move_block 0x0010 0x1001)
    ∷ asks (move_block 0x1000 0x0010)
    ∷ Export 0x0010
    ∷ []

statuses : List Outcome → List ℕ
statuses [] = []
statuses (o ∷ os) = o.status ∷ statuses os

day-answered : statuses (gives small day) ≡ 0x00 ∷ 0x02 ∷ 0x00 ∷ 0x00 ∷ 0x00 ∷ []
unfolding opened day gives statuses
day-answered = refl

day-ends : AsTheRules small day (gives small day) (passes small day)
day-ends = sequences _ _ _ _ (history small day) small-sound

-- volume 3 left no shelf yet
evening : (passes small day).elements ≡ elements_of empty empty empty (loaded 3) (loaded 2) empty
unfolding opened day passes
evening = refl

-- w stands so often after it, was exported, stood before it, was imported
record Count (w after went before came : ℕ) : Type 0 where
  now-is : standing w (passes small day) ≡ after
  went-is : exports w (history small day) ≡ went
  then_is : standing w small ≡ before
  came-is : imports w (history small day) ≡ came

volume-1 : Count 1 0 1 1 0
unfolding opened day passes gives history
volume-1 = record { now-is = refl; went-is = refl; then_is = refl; came-is = refl }

volume-2 : Count 2 1 0 1 0
unfolding opened day passes gives history
volume-2 = record { now-is = refl; went-is = refl; then_is = refl; came-is = refl }

volume-3 : Count 3 1 0 0 1
unfolding opened day passes gives history
volume-3 = record { now-is = refl; went-is = refl; then_is = refl; came-is = refl }

day-volumes : (w : ℕ) → w ≢ 0
    → standing w (passes small day) + exports w (history small day) ≡ standing w small + imports w (history small day)
day-volumes w z = volumes-promised _ _ _ _ (history small day) small-sound w z

once-each : (w : ℕ) → w ≢ 0 → standing w (passes small day) ≤ 1
once-each w z = never-twice (passes small day) day-ends.sound-still w z

-- ---- the last shelf: the way of a volume, and what its source tells at the end

-- after the calls on the tables volume w stands at place p with source s, and s is the last shelf that the history tells
record Shelved (t : Tables) (calls : List Call) (p w s : ℕ) : Type 0 where
  stands : volume (passes t calls).elements p ≡ w
  told : source (passes t calls).elements p ≡ s
  last : last_shelf w (history t calls) (source_in w t) ≡ s

-- "A reel went from shelf to drive to mail slot": the shelf, not the drive
mailed : List Call
mailed = asks (move_block 0x1000 0x0100) ∷ asks (move_block 0x0100 0x0010) ∷ []

mailed-shelf : Shelved small mailed 1 1 0x1000
unfolding opened mailed passes gives history
mailed-shelf = record { stands = refl; told = refl; last = refl }

-- the promise says so
mailed-promised : source (passes small mailed).elements 1 ≡ last_shelf 1 (history small mailed) (source_in 1 small)
unfolding opened mailed passes gives history
mailed-promised = last-shelf small _ _ _ (history small mailed) small-sound 1 (omega arith) (λ e. omega (arith, e))

-- "a move from the drive back to a shelf shows the old shelf"
reshelved : List Call
reshelved = asks (move_block 0x1000 0x0100) ∷ asks (move_block 0x0100 0x1003) ∷ []

reshelved-shelf : Shelved small reshelved 6 1 0x1000
unfolding opened reshelved passes gives history
reshelved-shelf = record { stands = refl; told = refl; last = refl }

-- "none included": volume 3 comes in and goes to the drive; host 1 is told of the import in between
brought : List Call
brought = Import 0x0010 3 ∷ asks (0x00 ∷ 0 ∷ 0 ∷ 0 ∷ 0 ∷ 0 ∷ []) ∷ asks (move_block 0x0010 0x0100) ∷ []

brought-shelf : Shelved small brought 2 3 0
unfolding opened brought passes gives history
brought-shelf = record { stands = refl; told = refl; last = refl }

-- volume 1 leaves its shelf, goes out and comes in again: that shelf is told no more
returned : List Call
returned = asks (move_block 0x1000 0x0010) ∷ Export 0x0010 ∷ Import 0x0010 1 ∷ []

returned-shelf : Shelved small returned 1 1 0
unfolding opened returned passes gives history
returned-shelf = record { stands = refl; told = refl; last = refl }

-- in the drive from the start, with a source: that source goes with it to the mail slot
mounted : Tables
mounted = library (quiet_showing 3) (elements_of empty (element 1 0x1003 0 0 0) empty empty (loaded 2) empty)

mounted-shelf : Shelved mounted (asks (move_block 0x0100 0x0010) ∷ []) 1 1 0x1003
unfolding opened mounted passes gives history
mounted-shelf = record { stands = refl; told = refl; last = refl }

-- ---- the panel: how many of the four shelves are empty, after each call of a history

shows : Tables → List Call → List ℕ
shows t [] = []
shows t (c ∷ cs) = panel (serve t c).tables.head ∷ shows (serve t c).tables cs

-- TEST UNIT READY
ready : Call
ready = asks (0x00 ∷ 0 ∷ 0 ∷ 0 ∷ 0 ∷ 0 ∷ [])

-- shelves are left and filled, a volume comes in, two change places, one goes out; host 1 is told of the import and of the reset
shift : List Call
shift =
    asks (move_block 0x1000 0x0100)
    ∷ Import 0x0010 3
    ∷ ready
    ∷ asks (move_block 0x0010 0x1001)
    ∷ asks (exchange_block 0x1002 0x0100 0x0010)
    ∷ Export 0x0010
    ∷ Reset
    ∷ ready
    ∷ asks (move_block 0x1001 0x1003)
    ∷ asks (move_block 0x0100 0x1000)
    ∷ []

shift-answered : statuses (gives small shift) ≡ 0x00 ∷ 0x00 ∷ 0x02 ∷ 0x00 ∷ 0x00 ∷ 0x00 ∷ 0x00 ∷ 0x02 ∷ 0x00 ∷ 0x00 ∷ []
unfolding opened shift ready gives statuses
shift-answered = refl

shift-shown : shows small shift ≡ 3 ∷ 3 ∷ 3 ∷ 2 ∷ 3 ∷ 3 ∷ 3 ∷ 3 ∷ 3 ∷ 2 ∷ []
unfolding opened shift ready shows
shift-shown = refl

shift-ends : (passes small shift).elements ≡ elements_of empty empty (element 2 0x1002 0 0 0) empty empty (element 3 0x1001 0 0 0)
unfolding opened shift ready passes
shift-ends = refl

shift-true : panel (passes small shift).head ≡ empty_shelves (roster (passes small shift).head) (passes small shift).elements
shift-true = panel-true _ _ _ _ (history small shift) small-sound

shift-empty : empty_shelves (roster (passes small shift).head) (passes small shift).elements ≡ 2
unfolding opened shift ready passes
shift-empty = refl

-- ---- the drives: volume 1 is of generation 2, and the drive takes 1 and 3

mixed : Tables
mixed = library_of (2 ∷ 1 ∷ 3 ∷ []) (0x05 ∷ []) quiet_head small_elements

mixed-sound : sound mixed ≡ true
unfolding opened mixed
mixed-sound = refl

-- volume 1 is refused; volume 2 goes into the drive; an exchange that would bring volume 1 there is refused; volume 3 comes in, and takes the drive's place
loads : List Call
loads =
    asks (move_block 0x1000 0x0100)
    ∷ asks (move_block 0x1002 0x0100)
    ∷ asks (exchange_block 0x1000 0x0100 0x1001)
    ∷ Import 0x0010 3
    ∷ ready
    ∷ asks (exchange_block 0x0010 0x0100 0x1001)
    ∷ []

loads-answered : statuses (gives mixed loads) ≡ 0x02 ∷ 0x00 ∷ 0x02 ∷ 0x00 ∷ 0x02 ∷ 0x00 ∷ []
unfolding opened mixed loads ready gives statuses
loads-answered = refl

-- the drive, at place 2, has volume 3
loads-end : volume (passes mixed loads).elements 2 ≡ 3
unfolding opened mixed loads ready passes
loads-end = refl

loads-right : let v = volume_of (passes mixed loads) 0x0100 in v ≢ 0 → accepts (byte (0x05 ∷ []) 0) (byte (2 ∷ 1 ∷ 3 ∷ []) (v - 1)) ≡ true
unfolding opened mixed
loads-right = right-drives mixed _ loads _ (history mixed loads) mixed-sound 0 (leb-true _ _ refl)

loads-given : AsGiven mixed (passes mixed loads)
loads-given = tables-as-given _ _ _ _ (history mixed loads)

-- ---- the arms: three of them, and who holds each

armed : ℕ → ℕ → ℕ → Tables
armed a b c = library (three_arms 2 quiet) (arms_of a b c small_elements)

-- the arm that host 1 uses with the arms so held
record Uses (a b c arm : ℕ) : Type 0 where
  armed-sound : sound (armed a b c) ≡ true
  used-is : transport_used (armed a b c) 1 0 ≡ arm

-- by nobody; by one other host; by two; by host 1 itself, first or between the others; all by others, where the first stands for them
nobody : Uses 0 0 0 0x0001
unfolding opened armed three_arms arms_of
nobody = record { armed-sound = refl; used-is = refl }

one-other : Uses 2 0 0 0x0002
unfolding opened armed three_arms arms_of
one-other = record { armed-sound = refl; used-is = refl }

two-others : Uses 2 3 0 0x0003
unfolding opened armed three_arms arms_of
two-others = record { armed-sound = refl; used-is = refl }

its_own : Uses 1 0 0 0x0001
unfolding opened armed three_arms arms_of
its_own = record { armed-sound = refl; used-is = refl }

its-own-between : Uses 2 1 3 0x0002
unfolding opened armed three_arms arms_of
its-own-between = record { armed-sound = refl; used-is = refl }

all_others : Uses 2 3 2 0x0001
unfolding opened armed three_arms arms_of
all_others = record { armed-sound = refl; used-is = refl }

-- the promise says of the third arm that the two below it are held, and that it is not; and of the first, where it is held, that the third is too
third : OpenArm (armed 2 3 0) 1 0x0003
third = rw two-others.used-is at (free-arm (armed 2 3 0) two-others.armed-sound 1)

second-held : held_by_other (armed 2 3 0) 1 0x0002 ≡ true
unfolding opened armed three_arms arms_of
second-held = third.none-lower 0x0002 refl (omega arith)

third-free : held_by_other (armed 2 3 0) 1 0x0003 ≡ false
unfolding opened armed three_arms arms_of
third-free = refl

all_held : held_by_other (armed 2 3 2) 1 0x0003 ≡ true
unfolding opened armed three_arms arms_of
all_held = (rw all_others.used-is at (free-arm (armed 2 3 2) all_others.armed-sound 1)).held-last refl 0x0003 refl
