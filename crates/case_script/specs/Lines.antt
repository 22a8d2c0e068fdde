-- What a line says, or why it can not be read. Assumes nothing.
use Rattle.std.specs.Prelude.{ℕ, ◌+◌, ◌≤◌, List, Bool, true, false, Option, Some, None, Result, Ok, Err, length, take, eqb, ltb}
use denote.Enum.Bare.{sameb}
use Rattle.rules.specs.Choice.{when, differ}
use Rattle.rules.specs.Bytes.{put}
use Rattle.case_text.specs.declared.fault.Fault.{Fault as TextFault}
use Rattle.case_text.specs.declared.fault.Stop.{Stop as TextStop}
use Rattle.case_text.specs.Text.{letters, comment_at, word_start, word_end, between, word_at, same_word}
use Rattle.case_text.specs.Numbers.{number_of}
use Rattle.case_text.specs.Bytes.{Given, given}
use Rattle.case_text.specs.Letters.{written}
use Rattle.case_script.specs.declared.Taken.{Taken}
use Rattle.case_script.specs.declared.Line.{Line}
use Rattle.case_script.specs.declared.word.Word.{Word}
use Rattle.case_script.specs.declared.word.Word.TheVariants as word
use Rattle.case_script.specs.contracts.word.Word.{the_type}
use Rattle.case_script.specs.declared.shape.Shape.{Shape}
use Rattle.case_script.specs.declared.shape.Shape.TheVariants as shape
use Rattle.case_script.specs.declared.fault.Fault.{Fault}
use Rattle.case_script.specs.declared.fault.Fault.TheVariants.{UnknownWord, LeftOver, NameMissing, NotSet, NotTables, WrongByteCount, CommentInText}
use Rattle.case_script.specs.declared.fault.Stop.{Stop}
use Rattle.case_script.specs.Faults.{fault_of, stop_of}
use Rattle.case_script.specs.Names.{code_of, shape_of, can_be_set}

-- a line that says something, or why it can not be read; and one that may be blank
abbrev pub Saying : Type 0
Saying = Result Line Stop

abbrev pub Reading : Type 0
Reading = Result (Option Line) Stop

abbrev pub fault : {A : Type 0} → Fault → ℕ → Result A Stop
fault why at = Err (record { why = why; at = at })

-- a line whose word is read: the numbers and the count of bytes that belong to it
abbrev pub saying : Line → ℕ → ℕ → ℕ → Line
saying l a b n = record { set = l.set; word = l.word; first = a; second = b; count = n; from = l.from; to = l.to }

-- a word with nothing behind it yet
abbrev pub bare_word : Bool → Word → ℕ → ℕ → Line
bare_word set word from to = record { set = set; word = word; first = 0; second = 0; count = 0; from = from; to = to }

-- what is left over is a fault
unfoldable pub finished : List ℕ → ℕ → Line → ℕ → ℕ → Saying
finished s at l a b = when (ltb (word_start s at) (length s)) (fault LeftOver (word_start s at)) (Ok (saying l a b 0))

-- `case NAME`, where the name stands from one place to another
unfoldable pub named : List ℕ → Line → ℕ → ℕ → Saying
named s l from to = when (eqb from (length s)) (fault NameMissing from) (finished s to (bare_word l.set l.word from to) 0 0)

unfoldable pub name_read : List ℕ → Line → Saying
name_read s l = named s l (word_start s l.to) (word_end s (word_start s l.to))

-- the word for the tables that a name means
unfoldable pub tables_named : List ℕ → Option Word
tables_named name = when (same_word name (letters "small")) (Some word.TablesSmall) (when (same_word name (letters "empty")) (Some word.TablesEmpty) None)

-- `tables NAME`
unfoldable pub tabled : List ℕ → Line → ℕ → ℕ → Saying
tabled s l from to =
    when (eqb from (length s)) (fault NameMissing from)
    (when (same_word (between s from to) (letters "small")) (finished s to (bare_word l.set word.TablesSmall l.from l.to) 0 0)
    (when (same_word (between s from to) (letters "empty")) (finished s to (bare_word l.set word.TablesEmpty l.from l.to) 0 0)
    (fault NotTables from)))

unfoldable pub tables_read : List ℕ → Line → Saying
tables_read s l = tabled s l (word_start s l.to) (word_end s (word_start s l.to))

-- the number in the next word, and where the word ends; or why there is none, and where the word begins
abbrev pub took : ℕ → ℕ → Result ℕ TextFault → Result Taken Stop
took from to (Ok n) = Ok (record { number = n; end = to })
took from to (Err why) = fault (fault_of why) from

unfoldable pub taken_at : List ℕ → ℕ → Result Taken Stop
taken_at s at = took (word_start s at) (word_end s (word_start s at)) (number_of (word_at s at))

-- where a number was taken the rest goes on behind it
abbrev pub after_number : Result Taken Stop → (ℕ → ℕ → Saying) → Saying
after_number (Ok t) rest = rest t.number t.end
after_number (Err stop) rest = Err stop

-- a word and one number; a word and two
unfoldable pub one_number : List ℕ → Line → Saying
one_number s l = after_number (taken_at s l.to) (λ n next. finished s next l n 0)

unfoldable pub second_number : List ℕ → ℕ → Line → ℕ → Saying
second_number s at l n = after_number (taken_at s at) (λ m next. finished s next l n m)

unfoldable pub two_numbers : List ℕ → Line → Saying
two_numbers s l = after_number (taken_at s l.to) (λ n next. second_number s next l n)

-- what was read, and the buffer behind it
pub record Read (R : Type 0) : Type 0 where
  pub reading : R
  pub bytes : List ℕ

-- the buffer is as it was
abbrev pub said : {R : Type 0} → List ℕ → R → Read R
said buffer r = record { reading = r; bytes = buffer }

-- what the bytes told: how many belong to the line, or a fault
abbrev pub counted : Line → ℕ → Result ℕ TextStop → Saying
counted l a (Ok n) = Ok (saying l a 0 n)
counted l a (Err stop) = Err (stop_of stop)

-- the bytes that were read stand at the front of the buffer, and the rest of it is as it was
abbrev pub filled : Line → ℕ → List ℕ → Given → Read Saying
filled l a buffer g = record { reading = counted l a g.told; bytes = put buffer 0 g.front }

-- bytes up to the end of the line
unfoldable pub many_bytes : List ℕ → ℕ → Line → ℕ → List ℕ → Read Saying
many_bytes s at l a buffer = filled l a buffer (given (length buffer) s at)

-- `log`: "all that stands behind it and one blank", and a line feed
abbrev pub behind_blank : List ℕ → ℕ → ℕ
behind_blank s at = when (ltb at (length s)) (at + 1) at

unfoldable pub log_read : List ℕ → Line → List ℕ → Read Saying
log_read s l buffer = filled l 0 buffer (written (length buffer) s (behind_blank s l.to))

-- "KEY/ASC/ASCQ" and "ASC/ASCQ"; elsewhere "one byte at least"
abbrev pub wrong_count : Shape → ℕ → Bool
wrong_count shape.NumberAndThreeBytes n = differ n 3
wrong_count shape.NumberAndTwoBytes n = differ n 2
wrong_count _ n = eqb n 0

unfoldable pub exactly : Shape → Line → Saying
exactly shape l = when (wrong_count shape l.count) (fault WrongByteCount l.from) (Ok l)

-- what is read further where a line says something
abbrev pub and_then : Saying → (Line → Saying) → Saying
and_then (Ok l) rest = rest l
and_then (Err stop) rest = Err stop

-- a word, a number and bytes
abbrev pub bytes_after : List ℕ → Shape → Line → List ℕ → Result Taken Stop → Read Saying
bytes_after s shape l buffer (Ok t) =
    record { reading = and_then (many_bytes s t.end l t.number buffer).reading (exactly shape); bytes = (many_bytes s t.end l t.number buffer).bytes }
bytes_after s shape l buffer (Err stop) = said buffer (Err stop)

unfoldable pub number_and_bytes : List ℕ → Shape → Line → List ℕ → Read Saying
number_and_bytes s shape l buffer = bytes_after s shape l buffer (taken_at s l.to)

-- what belongs to a word, by its shape
abbrev pub shaped : List ℕ → Shape → Line → List ℕ → Read Saying
shaped s shape.Name l buffer = said buffer (name_read s l)
shaped s shape.Tables l buffer = said buffer (tables_read s l)
shaped s shape.Nothing l buffer = said buffer (finished s l.to l 0 0)
shaped s shape.One l buffer = said buffer (one_number s l)
shaped s shape.Two l buffer = said buffer (two_numbers s l)
shaped s shape.Bytes l buffer = many_bytes s l.to l 0 buffer
shaped s shape.Text l buffer = log_read s l buffer
shaped s shape.NumberAndBytes l buffer = number_and_bytes s shape.NumberAndBytes l buffer
shaped s shape.NumberAndTwoBytes l buffer = number_and_bytes s shape.NumberAndTwoBytes l buffer
shaped s shape.NumberAndThreeBytes l buffer = number_and_bytes s shape.NumberAndThreeBytes l buffer

unfoldable pub rest : List ℕ → Line → List ℕ → Read Saying
rest s l buffer = shaped s (shape_of l.word) l buffer

-- what `set` stands before, from one place to another
abbrev pub after_set : List ℕ → ℕ → ℕ → List ℕ → Option Word → Read Saying
after_set s from to buffer None = said buffer (fault UnknownWord from)
after_set s from to buffer (Some word) =
    when (can_be_set word) (rest s (bare_word true word from to) buffer) (said buffer (fault NotSet from))

unfoldable pub set_read : List ℕ → ℕ → List ℕ → Read Saying
set_read s at buffer =
    after_set s (word_start s at) (word_end s (word_start s at)) buffer (code_of (between s (word_start s at) (word_end s (word_start s at))))

-- a line without its comment, whose first word stands from one place to another and is not `set`
abbrev pub by_word : List ℕ → ℕ → ℕ → List ℕ → Option Word → Read Saying
by_word s from to buffer None = said buffer (fault UnknownWord from)
by_word s from to buffer (Some word) = rest s (bare_word false word from to) buffer

unfoldable pub from_word : List ℕ → ℕ → ℕ → List ℕ → Read Saying
from_word s from to buffer =
    when (same_word (between s from to) (letters "set")) (set_read s to buffer) (by_word s from to buffer (code_of (between s from to)))

abbrev pub word_read : List ℕ → ℕ → List ℕ → Read Saying
word_read s from buffer = from_word s from (word_end s from) buffer

-- a line that says something, as one that may be blank
abbrev pub some : Saying → Reading
some (Ok l) = Ok (Some l)
some (Err stop) = Err stop

abbrev pub some_read : Read Saying → Read Reading
some_read o = record { reading = some o.reading; bytes = o.bytes }

unfoldable pub text_read : List ℕ → List ℕ → Read Reading
text_read s buffer = when (eqb (word_start s 0) (length s)) (said buffer (Ok None)) (some_read (word_read s (word_start s 0) buffer))

-- "no comment can stand behind `log`": one that begins before the line's end is a fault there
abbrev pub uncommented : ℕ → ℕ → Option Line → Reading
uncommented end n None = Ok None
uncommented end n (Some l) = when (sameb the_type l.word word.Log) (when (ltb end n) (fault CommentInText end) (Ok (Some l))) (Ok (Some l))

abbrev pub uncommented_of : ℕ → ℕ → Reading → Reading
uncommented_of end n (Ok said) = uncommented end n said
uncommented_of end n (Err stop) = Err stop

-- what a line says, and what it leaves in a buffer
unfoldable pub uncommented_read : ℕ → ℕ → Read Reading → Read Reading
uncommented_read end n o = record { reading = uncommented_of end n o.reading; bytes = o.bytes }

unfoldable pub line_read : List ℕ → List ℕ → Read Reading
line_read line buffer = uncommented_read (comment_at line) (length line) (text_read (take (comment_at line) line) buffer)

-- where a number was taken, the place behind it is in the text
abbrev pub Within : ℕ → Result Taken Stop → Type 0
Within n (Ok t) = t.end ≤ n
Within n (Err stop) = Unit {0}

-- the places that a reading names are in a line of n bytes, and its count in a buffer of m
abbrev pub Inside : ℕ → ℕ → Reading → Type 0
Inside n m (Ok None) = Unit {0}
Inside n m (Ok (Some l)) = (l.from ≤ l.to) × (l.to ≤ n) × (l.count ≤ m)
Inside n m (Err stop) = stop.at ≤ n
