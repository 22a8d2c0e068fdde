-- Calls one after the other, mixings of two hosts' commands, and the volumes that come and go: the words of "How promises are judged" and
-- of demand 3. Assumes nothing.
use Rattle.std.specs.Prelude.{ℕ, zero, suc, ◌+◌, ◌≡◌, Bool, true, false, eqb}
use mathlib.Core.List.{List, [], ◌∷◌, map, Memᴰ}
use Rattle.rules.specs.Choice.{when}
use Rattle.rules.specs.Bytes.{word}
use Rattle.rules.specs.Tables.{Tables, volume}
use Rattle.rules.specs.Order.{Outcome, after, volume_of}
use Rattle.rules.specs.Command.{Request, Call, Command, Import, Export, Reset, block_fits, verdict, serve}
use Rattle.rules.specs.Operation.{Operation, TestUnitReady, RequestSense, Reserve, Release, PreventAllow, MoveMedium, ExchangeMedium, ReadElementStatus, ModeSense, SendVolumeTag, RequestVolumeElementAddress, Unknown, operation}

-- ---- calls one after the other, by the rules

-- the tables after a call, and after a list of calls
unfoldable pub next : Tables → Call → Tables
next t c = after (verdict t c) t

unfoldable pub run : Tables → List Call → Tables
run t [] = t
run t (c ∷ cs) = run (next t c) cs

unfoldable pub outcomes : Tables → List Call → List Outcome
outcomes t [] = []
outcomes t (c ∷ cs) = serve t c ∷ outcomes (next t c) cs

-- ---- calls one after the other, as a core answers them: each outcome is the one that an entry's statement names, and the next call
-- finds the tables that this one left

-- from tables, these calls with these outcomes, to tables
pub data History : Tables → List Call → List Outcome → Tables → Type 0 where
  begun : {t : Tables} → History t [] [] t
  called : {t u : Tables} {c : Call} {o : Outcome} {cs : List Call} {os : List Outcome}
      → o ≡ serve t c → History o.tables cs os u → History t (c ∷ cs) (o ∷ os) u

-- "with both tables as given and unchanged", as are the labels
pub record AsGiven (t u : Tables) : Type 0 where
  pub tags-are : u.rest.tags ≡ t.rest.tags
  pub blank-is : u.rest.blank ≡ t.rest.blank
  pub generations-are : u.rest.generations ≡ t.rest.generations
  pub masks-are : u.rest.masks ≡ t.rest.masks

-- ---- "the volumes present equal those loaded plus imports less exports, read from the history"

-- 1 where the two are equal, else 0
unfoldable pub one : ℕ → ℕ → ℕ
one v w = when (eqb v w) 1 0

-- how often the volume number w stands at the first n places
unfoldable pub times : ℕ → List ℕ → ℕ → ℕ
times w elements zero = 0
times w elements (suc n) = one (volume elements n) w + times w elements n

-- of one call on tables, with its outcome: w imported, w exported
unfoldable pub imported : ℕ → Tables → Call → Outcome → ℕ
imported w t (Command r) o = 0
imported w t (Import a v) o = when (eqb o.number 0) (one v w) 0
imported w t (Export a) o = 0
imported w t Reset o = 0

unfoldable pub exported : ℕ → Tables → Call → Outcome → ℕ
exported w t (Command r) o = 0
exported w t (Import a v) o = 0
exported w t (Export a) o = when (eqb o.number 0) (one (volume_of t a) w) 0
exported w t Reset o = 0

-- of a history
unfoldable pub imports : {t u : Tables} {cs : List Call} {os : List Outcome} → ℕ → History t cs os u → ℕ
imports w begun = 0
imports w (called {t = t} {c = c} {o = o} e hs) = imported w t c o + imports w hs

unfoldable pub exports : {t u : Tables} {cs : List Call} {os : List Outcome} → ℕ → History t cs os u → ℕ
exports w begun = 0
exports w (called {t = t} {c = c} {o = o} e hs) = exported w t c o + exports w hs

-- ---- demand 3

-- what a host is told: all of an outcome but the tables
pub record Reply : Type 0 where
  pub number : ℕ
  pub status : ℕ
  pub count : ℕ
  pub preventers : ℕ
  pub lowest : ℕ
  pub buffer : List ℕ

unfoldable pub reply : Outcome → Reply
reply o =
    record { number = o.number; status = o.status; count = o.count; preventers = o.preventers; lowest = o.lowest; buffer = o.buffer }

-- of the outcomes of requests, what host h is told
unfoldable pub told_to : ℕ → List Request → List Outcome → List Reply
told_to h [] os = []
told_to h (r ∷ rs) [] = []
told_to h (r ∷ rs) (o ∷ os) = when (eqb r.host h) (reply o ∷ told_to h rs os) (told_to h rs os)

-- requests one after the other: the tables after them, and the replies that host h gets
unfoldable pub run_requests : Tables → List Request → Tables
run_requests t rs = run t (map Command rs)

unfoldable pub replies : ℕ → Tables → List Request → List Reply
replies h t rs = told_to h rs (outcomes t (map Command rs))

-- "every mixing that keeps each host's order": zs has the requests of xs and of ys, each list in its own order
pub data Mixing : List Request → List Request → List Request → Type 0 where
  none : Mixing [] [] []
  left : {x : Request} {xs ys zs : List Request} → Mixing xs ys zs → Mixing (x ∷ xs) ys (x ∷ zs)
  right : {y : Request} {xs ys zs : List Request} → Mixing xs ys zs → Mixing xs (y ∷ ys) (y ∷ zs)

-- "moves, exchanges, readiness tests and sense requests"
unfoldable pub joins : Operation → Bool
joins TestUnitReady = true
joins RequestSense = true
joins Reserve = false
joins Release = false
joins PreventAllow = false
joins MoveMedium = true
joins ExchangeMedium = true
joins ReadElementStatus = false
joins ModeSense = false
joins SendVolumeTag = false
joins RequestVolumeElementAddress = false
joins Unknown = false

unfoldable pub mixes : List ℕ → Bool
mixes block = joins (operation block)

-- the source and destination addresses of a block of each operation
unfoldable pub named_by : Operation → List ℕ → List ℕ
named_by TestUnitReady block = []
named_by RequestSense block = []
named_by Reserve block = []
named_by Release block = []
named_by PreventAllow block = []
named_by MoveMedium block = word block 4 ∷ word block 6 ∷ []
named_by ExchangeMedium block = word block 4 ∷ word block 6 ∷ word block 8 ∷ []
named_by ReadElementStatus block = []
named_by ModeSense block = []
named_by SendVolumeTag block = []
named_by RequestVolumeElementAddress block = []
named_by Unknown block = []

-- the source and destination addresses that a block names: one "of wrong length" (number 3) has no such bytes, and names nothing
unfoldable pub named : List ℕ → List ℕ
named block = when (block_fits block) (named_by (operation block) block) []

-- each request is host h's, and one of the four commands
pub data From (h : ℕ) : List Request → Type 0 where
  end : From h []
  more : {r : Request} {rs : List Request} → r.host ≡ h → mixes r.block ≡ true → From h rs → From h (r ∷ rs)

abbrev pub Disjoint : List ℕ → List ℕ → Type 0
Disjoint xs ys = (a : ℕ) → Memᴰ a xs → Memᴰ a ys → ⊥

-- "over disjoint addresses": no address of one list stands in the other
abbrev pub Apart : List Request → List Request → Type 0
Apart xs ys = (x y : Request) → Memᴰ x xs → Memᴰ y ys → Disjoint (named x.block) (named y.block)
