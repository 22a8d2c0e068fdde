-- What the core hands back, as an outcome of the rules. Assumes nothing.
use Rattle.std.specs.Prelude.{ℕ, List, ◌≡◌}
use Rattle.rules.specs.Tables.{Tables, Rest}
use Rattle.rules.specs.Order.{Outcome, Verdict, refused, conflict, Cause, InvalidOperation, InvalidField, ListLength, ListField, WrongAddress, SourceEmpty, DestinationFull, IncompatibleMedium}
use Rattle.order.specs.declared.Reply.{Reply}
use Rattle.order.specs.declared.House.{House}
use Rattle.order.specs.declared.House.TheVariants.{UnsoundTables, UnknownHost, BlockLength, ParameterLength, ShortBuffer, UnknownPort, Prevented, PortContent, WrongVolume}
use Rattle.order.specs.declared.Status.{Status}
use Rattle.order.specs.declared.Status.TheVariants.{Good, CheckCondition, ReservationConflict}
use Rattle.order.specs.declared.Refusal.{Refusal}
use Rattle.order.specs.declared.Refusal.TheVariants.{For, Conflict}
use Rattle.order.specs.declared.Cause.{Cause as Declared}
use Rattle.order.specs.declared.Cause.TheVariants as declared

-- the reply, with the tables and the buffer as they then are
abbrev pub ended : Reply → Tables → List ℕ → Outcome
ended r t buffer =
    record {
      number = r.number;
      status = r.status;
      count = r.count;
      preventers = r.preventers;
      lowest = r.lowest;
      tables = t;
      buffer = buffer;
    }

abbrev pub bare : ℕ → Reply
bare n = record { number = n; status = 0; preventers = 0; lowest = 0; count = 0 }

-- "number 7 .. with how many hosts prevent removal and the lowest such host"
unfoldable pub numbered : House → Reply
numbered UnsoundTables = bare 1
numbered UnknownHost = bare 2
numbered BlockLength = bare 3
numbered ParameterLength = bare 4
numbered ShortBuffer = bare 5
numbered UnknownPort = bare 6
numbered (Prevented preventers lowest) = record { number = 7; status = 0; preventers = preventers; lowest = lowest; count = 0 }
numbered PortContent = bare 8
numbered WrongVolume = bare 9

-- "GOOD is 00h, CHECK CONDITION 02h, RESERVATION CONFLICT 18h."
abbrev pub code : Status → ℕ
code Good = 0x00
code CheckCondition = 0x02
code ReservationConflict = 0x18

abbrev pub told : ℕ → ℕ → Reply
told status count = record { number = 0; status = status; preventers = 0; lowest = 0; count = count }

-- a cause of the code, as the rules name it
unfoldable pub reason : Declared → Cause
reason declared.InvalidOperation = InvalidOperation
reason (declared.InvalidField at) = InvalidField at
reason declared.ListLength = ListLength
reason declared.ListField = ListField
reason declared.WrongAddress = WrongAddress
reason declared.SourceEmpty = SourceEmpty
reason declared.DestinationFull = DestinationFull
reason declared.IncompatibleMedium = IncompatibleMedium

-- what the rules say of a command that is not carried out
unfoldable pub verdict : ℕ → Refusal → Verdict
verdict h (For cause) = refused h (reason cause)
verdict h Conflict = conflict h

-- the labels of the rest are those that are lent
pub record Lends (rest : Rest) (tags blank : List ℕ) : Type 0 where
  pub tags-is : rest.tags ≡ tags
  pub blank-is : rest.blank ≡ blank
