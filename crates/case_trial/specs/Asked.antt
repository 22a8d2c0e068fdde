-- The value that a line asks for, as the rules name it. Assumes nothing.
use Rattle.std.specs.Prelude.{ℕ, ◌+◌, ◌*◌, min, List, Option, Some, None, Result, Ok, Err, length, leb, ltb}
use Rattle.rules.specs.Choice.{when}
use Rattle.rules.specs.Tables.{head_size, hosts, places, volume, source, holder, id, mark, unit, mask, panel, key, asc, ascq, attention, attentionq}
use Rattle.rules.specs.Roster.{roster}
use Rattle.rules.specs.Sound.{within}
use Rattle.order.specs.declared.Reply.{Reply}
use Rattle.tables.specs.declared.Types.TheVariants.{Any}
use Rattle.tables.specs.LookUp.{found}
use Rattle.case_script.specs.declared.word.Word.{Word}
use Rattle.case_script.specs.declared.word.Word.TheVariants as word
use Rattle.case_script.specs.declared.class.Class.{Class}
use Rattle.case_script.specs.declared.class.Class.TheVariants as class
use Rattle.case_script.specs.declared.fault.Fault.{Fault}
use Rattle.case_script.specs.declared.fault.Fault.TheVariants.{NoElement, NoHost, Outside, NotReplayed, Replayed as BehindReplay}
use Rattle.case_script.specs.Names.{class_of}
use Rattle.case_rooms.specs.Alike.{compared}
use Rattle.case_rooms.specs.declared.Replayed.{Replayed}
use Rattle.case_rooms.specs.declared.Ending.{Ending}
use Rattle.case_rooms.specs.declared.Ending.TheVariants as ending
use Rattle.case_rooms.specs.declared.Finding.{Finding}

-- why what a word asks for can not be judged behind a replay, and behind the last call, which was a replay or not: "a replay has no
-- status, count, preventers, lowest and answer, and only a replay has lines, place and expected"
unfoldable pub barred_by_class : Class → Option Fault
barred_by_class class.Reply = Some BehindReplay
barred_by_class class.Answer = Some BehindReplay
barred_by_class _ = None

unfoldable pub barred_by_replay : Word → Option Fault
barred_by_replay word.Number = None
barred_by_replay w = barred_by_class (class_of w)

unfoldable pub barred_by_call : Class → Option Fault
barred_by_call class.Replayed = Some NotReplayed
barred_by_call _ = None

unfoldable pub barred : Ending → Word → Option Fault
barred (ending.Replayed _) w = barred_by_replay w
barred (ending.Answered _ _) w = barred_by_call (class_of w)

-- "the reply of the last call"
unfoldable pub replied : Reply → Word → ℕ
replied r word.Number = r.number
replied r word.Status = r.status
replied r word.Count = r.count
replied r word.Preventers = r.preventers
replied r _ = r.lowest

-- "what the last replay ended with"; no number of a line is above 4,294,967,295
unfoldable pub ended : Replayed → Word → ℕ
ended r word.Number = r.number
ended r word.Lines = r.lines
ended r word.Place = min r.place 4294967295
ended r _ = r.expected

-- a field of the element at a place
unfoldable pub field_of : List ℕ → Word → ℕ → ℕ
field_of elements word.Volume p = volume elements p
field_of elements word.Source p = source elements p
field_of elements word.Holder p = holder elements p
field_of elements word.Id p = id elements p
field_of elements _ p = mark elements p

unfoldable pub field_at : List ℕ → Word → ℕ → Result ℕ Fault
field_at elements w p = when (leb (places elements) p) (Err Outside) (Ok (field_of elements w p))

unfoldable pub field_in : List ℕ → Word → Option ℕ → Result ℕ Fault
field_in elements w (Some p) = field_at elements w p
field_in elements w None = Err NoElement

-- "the element at an address"
unfoldable pub element_field : List ℕ → List ℕ → Word → ℕ → Result ℕ Fault
element_field head elements w a =
    when (ltb (length head) head_size) (Err Outside) (field_in elements w (found Any (roster head) a))

-- "unit holder, prevent mask and the number of empty shelves"
unfoldable pub unit_of : List ℕ → Word → ℕ
unit_of head word.Unit = unit head
unit_of head word.Mask = mask head
unit_of head _ = panel head

unfoldable pub unit_field : List ℕ → Word → Result ℕ Fault
unit_field head w = when (ltb (length head) head_size) (Err Outside) (Ok (unit_of head w))

-- key, ASC and ASCQ as one number
abbrev pub joined : ℕ → ℕ → ℕ → ℕ
joined k a q = k * 65536 + (a * 256 + q)

-- "a host's record"
unfoldable pub record_of : List ℕ → Word → ℕ → ℕ
record_of head word.Sense h = joined (key head h) (asc head h) (ascq head h)
record_of head _ h = joined 0 (attention head h) (attentionq head h)

unfoldable pub host_record : List ℕ → Word → ℕ → Result ℕ Fault
host_record head w h =
    when (ltb (length head) head_size) (Err Outside) (when (within 1 hosts h) (Ok (record_of head w h)) (Err NoHost))

-- the value against the one expected
unfoldable pub against : Word → Result ℕ Fault → ℕ → Result Finding Fault
against what (Ok found) expected = Ok (compared what found expected)
against what (Err why) expected = Err why
