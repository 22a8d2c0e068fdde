-- Demand 1: what a call that is refused leaves as it was, for any tables and any input. Assumes nothing.
use Rattle.std.specs.Prelude.{ℕ, ◌+◌, ◌<◌, ◌≤◌, ◌≡◌, ◌≢◌, ◌⊎◌, length}
use Rattle.rules.specs.Bytes.{byte}
use Rattle.rules.specs.Tables.{Tables, host_at}
use Rattle.rules.specs.Order.{Outcome, GOOD, CHECK-CONDITION, RESERVATION-CONFLICT}
use Rattle.rules.specs.Operation.{REQUEST-SENSE, READ-ELEMENT-STATUS, MODE-SENSE, REQUEST-VOLUME-ELEMENT-ADDRESS}
use Rattle.rules.specs.Command.{Request, Call, Command, Import, Export, Reset, buffer_of, serve}

-- ---- refused by a house number

-- "Any other [than 0] leaves all tables and the answer buffer untouched; status and count are then 0"
pub record Untouched (t : Tables) (c : Call) (o : Outcome) : Type 0 where
  pub tables-is : o.tables ≡ t
  pub buffer-is : o.buffer ≡ buffer_of c
  pub status-is : o.status ≡ 0
  pub count-is : o.count ≡ 0

abbrev pub ByNumber : Type 0
ByNumber = (t : Tables) (c : Call) → (serve t c).number ≢ 0 → Untouched t c (serve t c)

-- "Number 7 also returns how many hosts prevent removal and the lowest such host; else both are 0."
abbrev pub SevenAlone : Type 0
SevenAlone = (t : Tables) (c : Call) → (serve t c).number ≢ 7 → ((serve t c).preventers ≡ 0) × ((serve t c).lowest ≡ 0)

-- ---- refused by a status, CHECK CONDITION or RESERVATION CONFLICT

-- "GOOD is 00h, CHECK CONDITION 02h, RESERVATION CONFLICT 18h.": there is no fourth
abbrev pub ThreeStatuses : Type 0
ThreeStatuses =
    (t : Tables) (c : Call)
    → ((serve t c).status ≡ GOOD) ⊎ ((serve t c).status ≡ CHECK-CONDITION) ⊎ ((serve t c).status ≡ RESERVATION-CONFLICT)

-- the host's own five bytes of the head may change (sense and attention), and nothing else
pub record OwnBytesAlone (t : Tables) (r : Request) (o : Outcome) : Type 0 where
  pub elements-is : o.tables.elements ≡ t.elements
  pub rest-is : o.tables.rest ≡ t.rest
  pub head-length : length o.tables.head ≡ length t.head
  pub head-else : (j : ℕ) → (host_at r.host ≤ j → j < host_at (1 + r.host) → ⊥) → byte o.tables.head j ≡ byte t.head j
  pub buffer-is : o.buffer ≡ r.buffer
  pub count-is : o.count ≡ 0

abbrev pub ByStatus : Type 0
ByStatus = (t : Tables) (r : Request) → (serve t (Command r)).status ≢ GOOD → OwnBytesAlone t r (serve t (Command r))

-- ---- bytes returned

-- "An answer buffer keeps every byte past the count returned", and is never too short for it
pub record Kept (c : Call) (o : Outcome) : Type 0 where
  pub past-the-count : (j : ℕ) → o.count ≤ j → byte o.buffer j ≡ byte (buffer_of c) j
  pub length-is : length o.buffer ≡ length (buffer_of c)
  pub fits : o.count ≤ length (buffer_of c)

abbrev pub BufferKept : Type 0
BufferKept = (t : Tables) (c : Call) → Kept c (serve t c)

-- "Only REQUEST SENSE and READ ELEMENT STATUS with GOOD return bytes; every other count is 0." MODE SENSE is a third, REQUEST VOLUME
-- ELEMENT ADDRESS a fourth
abbrev pub Reads : Call → Type 0
Reads (Command r) =
    (byte r.block 0 ≡ REQUEST-SENSE) ⊎ (byte r.block 0 ≡ READ-ELEMENT-STATUS) ⊎ (byte r.block 0 ≡ MODE-SENSE)
    ⊎ (byte r.block 0 ≡ REQUEST-VOLUME-ELEMENT-ADDRESS)
Reads (Import address volume) = ⊥
Reads (Export address) = ⊥
Reads Reset = ⊥

abbrev pub OnlyReads : Type 0
OnlyReads = (t : Tables) (c : Call) → (serve t c).count ≢ 0 → ((serve t c).status ≡ GOOD) × Reads c
