-- "Order for a command": verdicts, the steps that all commands share, and what a verdict leaves. Assumes nothing.
use Rattle.std.specs.Prelude.{ℕ, List, [], ◌∷◌, Bool, length, eqb, leb}
use Rattle.rules.specs.Choice.{when, all_of, differ}
use Rattle.rules.specs.Bytes.{put}
use Rattle.rules.specs.Tables.{Tables, unit, attention, attentionq, holder, volume, source, Change, Sense, Attention, changes}
use Rattle.rules.specs.Roster.{roster, place_of}

-- A call is judged, then carried out. `Number n`: refused by house number n. `Prevented n h`: refused by house number 7, n hosts prevent
-- removal, h is the lowest. `Done status bytes changes`: house number 0.
pub data Verdict : Type 0 where
  Number : ℕ → Verdict
  Prevented : ℕ → ℕ → Verdict
  Done : ℕ → List ℕ → List Change → Verdict

-- All that a call ends with.
pub record Outcome : Type 0 where
  pub number : ℕ
  pub status : ℕ
  pub count : ℕ
  pub preventers : ℕ
  pub lowest : ℕ
  pub tables : Tables
  pub buffer : List ℕ

-- "GOOD is 00h, CHECK CONDITION 02h, RESERVATION CONFLICT 18h."
abbrev pub GOOD : ℕ
GOOD = 0x00

abbrev pub CHECK-CONDITION : ℕ
CHECK-CONDITION = 0x02

abbrev pub RESERVATION-CONFLICT : ℕ
RESERVATION-CONFLICT = 0x18

-- the tables that a verdict leaves; "Any other [than 0] leaves all tables and the answer buffer untouched"
unfoldable pub after : Verdict → Tables → Tables
after (Number n) t = t
after (Prevented n h) t = t
after (Done status bytes cs) t = changes cs t

-- what a call with this verdict ends with: "status and count are then 0"; "An answer buffer keeps every byte past the count returned."
unfoldable pub outcome : Tables → List ℕ → Verdict → Outcome
outcome t buffer (Number n) =
    record { number = n; status = 0; count = 0; preventers = 0; lowest = 0; tables = t; buffer = buffer }
outcome t buffer (Prevented n h) =
    record { number = 7; status = 0; count = 0; preventers = n; lowest = h; tables = t; buffer = buffer }
outcome t buffer (Done status bytes cs) =
    record {
      number = 0;
      status = status;
      count = length bytes;
      preventers = 0;
      lowest = 0;
      tables = changes cs t;
      buffer = put buffer 0 bytes;
    }

-- house number 5, "judged after all the rest": "answer buffer shorter than the bytes to be returned"
unfoldable pub fits : List ℕ → Verdict → Verdict
fits buffer (Number n) = Number n
fits buffer (Prevented n h) = Prevented n h
fits buffer (Done status bytes cs) = when (leb (length bytes) (length buffer)) (Done status bytes cs) (Number 5)

-- ---- the three statuses: "first clears its host's sense; CHECK CONDITION then stores the new one"

unfoldable pub good : ℕ → List Change → Verdict
good h cs = Done GOOD [] (Sense h 0 0 0 ∷ cs)

-- "5/24/00" is key, ASC, ASCQ
unfoldable pub check : ℕ → ℕ → ℕ → ℕ → Verdict
check h k a q = Done CHECK-CONDITION [] (Sense h k a q ∷ [])

-- why a command is refused with key 5; a field of the block that is at fault, with its byte
pub data Cause : Type 0 where
  InvalidOperation : Cause
  InvalidField : ℕ → Cause
  ListLength : Cause
  ListField : Cause
  WrongAddress : Cause
  SourceEmpty : Cause
  DestinationFull : Cause
  IncompatibleMedium : Cause

unfoldable pub refused : ℕ → Cause → Verdict
refused h InvalidOperation = check h 5 0x20 0x00
refused h (InvalidField at) = check h 5 0x24 0x00
refused h ListLength = check h 5 0x1A 0x00
refused h ListField = check h 5 0x26 0x00
refused h WrongAddress = check h 5 0x21 0x01
refused h SourceEmpty = check h 5 0x3B 0x0E
refused h DestinationFull = check h 5 0x3B 0x0D
refused h IncompatibleMedium = check h 5 0x30 0x12

unfoldable pub conflict : ℕ → Verdict
conflict h = Done RESERVATION-CONFLICT [] (Sense h 0 0 0 ∷ [])

-- ---- what the steps ask of the tables

-- held, and not by host h
unfoldable pub other : ℕ → ℕ → Bool
other h owner = all_of (differ owner 0 ∷ differ owner h ∷ [])

-- of the element at an address: held by another host than h; its volume; its source
unfoldable pub held_by_other : Tables → ℕ → ℕ → Bool
held_by_other t h a = other h (holder t.elements (place_of (roster t.head) a))

unfoldable pub volume_of : Tables → ℕ → ℕ
volume_of t a = volume t.elements (place_of (roster t.head) a)

unfoldable pub source_of : Tables → ℕ → ℕ
source_of t a = source t.elements (place_of (roster t.head) a)

-- ---- steps 2 and 3

-- "2. Attention pending and not REQUEST SENSE: 6 with its codes, attention cleared."
unfoldable pub after_attention : Tables → ℕ → Verdict → Verdict
after_attention t h rest =
    when (eqb (attention t.head h) 0) rest
    (Done CHECK-CONDITION [] (Sense h 6 (attention t.head h) (attentionq t.head h) ∷ Attention h 0 0 ∷ []))

-- "3. Unit held by another host: 18h (never for RELEASE, REQUEST SENSE)."
unfoldable pub after_unit : Tables → ℕ → Verdict → Verdict
after_unit t h rest = when (other h (unit t.head)) (conflict h) rest

unfoldable pub guarded : Tables → ℕ → Verdict → Verdict
guarded t h rest = after_attention t h (after_unit t h rest)
