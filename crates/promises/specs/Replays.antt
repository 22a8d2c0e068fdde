-- "Replay of the day's log": what follows from its definition, for any tables, log, expected number and budget. Assumes nothing.
use Rattle.std.specs.Prelude.{ℕ, suc, ◌+◌, ◌<◌, ◌≤◌, ◌≡◌, ◌≢◌, ◌⊎◌, true, false, length, drop}
use mathlib.Core.List.{List, [], ◌∷◌, map, Memᴰ}
use Rattle.rules.specs.Tables.{Tables}
use Rattle.rules.specs.Sound.{sound}
use Rattle.rules.specs.Order.{Outcome}
use Rattle.rules.specs.Command.{Call, Command, Import, Export, Reset, serve}
use Rattle.rules.specs.Histories.{History}
use Rattle.rules.specs.Log.{LINE-FEED, first_of, before, beyond, Other, Entry, line_of}
use Rattle.rules.specs.Replay.{longest_line, Replayed, stopped, ahead, replay}

-- ---- budgets

-- a second call that goes on from where one ended
abbrev pub going_on : Replayed → List ℕ → ℕ → Replayed
going_on r log budget = replay r.tables (drop r.place log) r.expected budget

-- "Two calls, the first ending with 0 and the second going on from there, end as one call with the sum of their budgets, where it fits": lines and bytes
-- of both are counted together; here every sum fits
abbrev pub GoesOn : Type 0
GoesOn =
    (t : Tables) (log : List ℕ) (e m n : ℕ) → (replay t log e m).number ≡ 0
    → ahead (replay t log e m).lines (replay t log e m).place (going_on (replay t log e m) log n) ≡ replay t log e (m + n)

-- "Each call does at most a stated number of lines"; "an expected number that rises by one a line"
abbrev pub WithinBudget : Type 0
WithinBudget =
    (t : Tables) (log : List ℕ) (e n : ℕ) → ((replay t log e n).lines ≤ n) × ((replay t log e n).expected ≡ e + (replay t log e n).lines)

-- the bytes that the lines take are of the log
abbrev pub WithinLog : Type 0
WithinLog = (t : Tables) (log : List ℕ) (e n : ℕ) → (replay t log e n).place ≤ length log

-- ---- where it stops

-- "stops sooner only at number 1 or 10 or the log's end"; "unsound tables give 1", at once and with nothing changed, and nothing else does
pub record Ends (t : Tables) (log : List ℕ) (e budget : ℕ) (r : Replayed) : Type 0 where
  pub numbers : (r.number ≡ 0) ⊎ (r.number ≡ 1) ⊎ (r.number ≡ 10)
  pub zero : r.number ≡ 0 → (r.lines ≡ budget) ⊎ (r.place ≡ length log)
  pub unsound : sound t ≡ false → r ≡ stopped 1 e t
  pub one-alone : r.number ≡ 1 → sound t ≡ false

abbrev pub StopsOnly : Type 0
StopsOnly = (t : Tables) (log : List ℕ) (e n : ℕ) → Ends t log e n (replay t log e n)

-- ---- number 10

-- what a text begins with is no line to be applied: "lines of at most 512 bytes and a line feed", "a line of another form or number"
pub data Faulty (e : ℕ) (s : List ℕ) : Type 0 where
  no-line-feed : first_of LINE-FEED s ≡ length s → Faulty e s
  too_long : longest_line < first_of LINE-FEED s → Faulty e s
  another-form : line_of (before LINE-FEED s) ≡ Other → Faulty e s
  another-number : {k : ℕ} {c : Call} → line_of (before LINE-FEED s) ≡ Entry k c → k ≢ e → Faulty e s

-- "A line of another form or number gives new number 10 with the expected number": whatever the budget, if there is one
abbrev pub FaultyStops : Type 0
FaultyStops =
    (t : Tables) (s : List ℕ) (e n : ℕ) → sound t ≡ true → length s ≢ 0 → Faulty e s → replay t s e (suc n) ≡ stopped 10 e t

-- "replay stops with the tables as after the line before; number 10 alone keeps what earlier lines did, and their count": but for the number, it ended
-- as the call whose budget is the lines applied, and the log goes on with a faulty line that was within the budget
pub record Kept (t : Tables) (log : List ℕ) (e budget : ℕ) (r : Replayed) : Type 0 where
  pub kept : replay t log e r.lines ≡ record { number = 0; lines = r.lines; place = r.place; expected = r.expected; tables = r.tables }
  pub sooner : r.lines < budget
  pub more : r.place < length log
  pub faulty : Faulty r.expected (drop r.place log)

abbrev pub TenKeeps : Type 0
TenKeeps = (t : Tables) (log : List ℕ) (e n : ℕ) → (replay t log e n).number ≡ 10 → Kept t log e n (replay t log e n)

-- ---- lines that are applied

-- a text begins with a line of the form and of number e, which records a call
pub record Begins (e : ℕ) (s : List ℕ) (c : Call) : Type 0 where
  pub line-feed : first_of LINE-FEED s ≢ length s
  pub short : first_of LINE-FEED s ≤ longest_line
  pub form : line_of (before LINE-FEED s) ≡ Entry e c

-- "A line the core refuses by number counts as applied", and the tables stay as they were; "number 5 doesn't arise"
abbrev pub RefusedCounts : Type 0
RefusedCounts =
    (t : Tables) (s : List ℕ) (e n : ℕ) (c : Call) → sound t ≡ true → Begins e s c → (serve t c).number ≢ 0 → (serve t c).number ≢ 5
    → replay t s e (suc n) ≡ ahead 1 (first_of LINE-FEED s + 1) (replay t (beyond LINE-FEED s) (e + 1) n)

-- sound tables stay sound
abbrev pub StaysSound : Type 0
StaysSound = (t : Tables) (log : List ℕ) (e n : ℕ) → sound t ≡ true → sound (replay t log e n).tables ≡ true

-- ---- the same calls made one by one

-- a text begins with the lines of these calls, numbered from e on; `left` is what follows them
pub data Lines : ℕ → List ℕ → List Call → List ℕ → Type 0 where
  none : {e : ℕ} {s : List ℕ} → Lines e s [] s
  more : {e : ℕ} {s left : List ℕ} {c : Call} {cs : List Call} → Begins e s c → Lines (e + 1) (beyond LINE-FEED s) cs left → Lines e s (c ∷ cs) left

-- a call but for the answer buffer that it lends
unfoldable pub bufferless : Call → Call
bufferless (Command r) = Command (record { host = r.host; block = r.block; parameters = r.parameters; buffer = [] })
bufferless (Import a v) = Import a v
bufferless (Export a) = Export a
bufferless Reset = Reset

-- these calls made one by one through the entries, each with an answer buffer that is long enough, lead from tables t to u
pub record Made (t : Tables) (cs : List Call) (u : Tables) : Type 0 where
  pub calls : List Call
  pub outcomes : List Outcome
  pub same-calls : map bufferless calls ≡ map bufferless cs
  pub long-enough : (o : Outcome) → Memᴰ o outcomes → o.number ≢ 5
  pub history : History t calls outcomes u

-- "The count is that of the lines the definition steps through", and the tables are those after the calls that these lines record: so they can be made,
-- and whoever reads them from the lines, and makes them in whatever way, ends there
pub record AsCalled (t : Tables) (log : List ℕ) (e : ℕ) (r : Replayed) : Type 0 where
  pub calls : List Call
  pub lines_are : Lines e log calls (drop r.place log)
  pub count-is : r.lines ≡ length calls
  pub made : Made t calls r.tables
  pub one_end : (cs : List Call) (left : List ℕ) (u : Tables) → Lines e log cs left → length cs ≡ r.lines → Made t cs u → u ≡ r.tables

abbrev pub OneByOne : Type 0
OneByOne = (t : Tables) (log : List ℕ) (e n : ℕ) → sound t ≡ true → AsCalled t log e (replay t log e n)
