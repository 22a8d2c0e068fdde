-- Lines of the format's page, read by computing: what the definitions say of them. Assumes nothing.
use Prim.Native.Nat.{ℕ}
use mathlib.Core.Path.{◌≡◌, refl}
use mathlib.Core.List.{List, [], ◌∷◌}
use mathlib.Core.Bool.{Bool, true, false}
use Rattle.std.specs.Prelude.{None, Ok, Err, Some}
use Rattle.rules.specs.Choice.{when, differ}
use Rattle.rules.specs.Bytes.{put}
use Rattle.case_text.specs.Text.{letters, blank, stops, first}
use Rattle.case_text.specs.Numbers.{digit_of, value_from, value_of, number_of}
use Rattle.case_text.specs.Bytes.{run_of, and_then, runs_from, given}
use Rattle.case_text.specs.Letters.{letter_at, escape_of, letter_of, letter_end, written}
use Rattle.case_script.specs.declared.word.Word.{Word}
use Rattle.case_script.specs.declared.word.Word.TheVariants as word
use Rattle.case_script.specs.declared.fault.Fault.{Fault}
use Rattle.case_script.specs.declared.fault.Fault.TheVariants as fault
use Rattle.case_script.specs.Names.{names, code_of}
use Rattle.case_script.specs.Lines.{Reading, Read, finished, named, name_read, tabled, tables_read, taken_at, one_number, second_number, two_numbers}
use Rattle.case_script.specs.Lines.{many_bytes, log_read, exactly, number_and_bytes, rest, set_read, from_word, text_read, uncommented_read, line_read}

-- every definition open, once
opened : List ℕ → List ℕ → Read Reading
unfolding when differ put letters blank stops first digit_of value_from value_of number_of run_of and_then runs_from given letter_at escape_of letter_of letter_end written names code_of finished named name_read tabled tables_read taken_at one_number second_number two_numbers many_bytes log_read exactly number_and_bytes rest set_read from_word text_read uncommented_read line_read
opened line buffer = line_read line buffer

-- a line that says a word with its numbers, the count of its bytes and its place
abbrev says : Bool → Word → ℕ → ℕ → ℕ → ℕ → ℕ → List ℕ → Read Reading
says set word a b n from to buffer =
    record { reading = Ok (Some (record { set = set; word = word; first = a; second = b; count = n; from = from; to = to })); bytes = buffer }

abbrev faulty : Fault → ℕ → List ℕ → Read Reading
faulty why at buffer = record { reading = Err (record { why = why; at = at }); bytes = buffer }

case-line : line_read (letters "case P1") [] ≡ says false word.Case 0 0 0 5 7 []
unfolding opened
case-line = refl

tables-line : line_read (letters "tables empty") [] ≡ says false word.TablesEmpty 0 0 0 0 6 []
unfolding opened
tables-line = refl

command-line : line_read (letters "command A5 0 01 0a*2 # MOVE") (7 ∷ 7 ∷ 7 ∷ 7 ∷ 7 ∷ 7 ∷ []) ≡ says false word.Command 0 0 5 0 7 (0xA5 ∷ 0 ∷ 1 ∷ 10 ∷ 10 ∷ 7 ∷ [])
unfolding opened
command-line = refl

volume-line : line_read (letters " volume 100h 1") (7 ∷ []) ≡ says false word.Volume 256 1 0 1 7 (7 ∷ [])
unfolding opened
volume-line = refl

set_line : line_read (letters "set sense 1 5/24/00") (7 ∷ 7 ∷ 7 ∷ []) ≡ says true word.Sense 1 0 3 4 9 (5 ∷ 0x24 ∷ 0 ∷ [])
unfolding opened
set_line = refl

free-line : line_read (letters "set free 100h") [] ≡ says true word.Free 256 0 0 4 8 []
unfolding opened
free-line = refl

search-line : line_read (letters "set search 38 01 00 00") (7 ∷ 7 ∷ 7 ∷ 7 ∷ []) ≡ says true word.Search 38 0 3 4 10 (1 ∷ 0 ∷ 0 ∷ 7 ∷ [])
unfolding opened
search-line = refl

-- "`\t` stands for a tab, `\xNN` for any byte", and a line feed behind the text
log-line : line_read (letters "log 7\\t \\x0a") (7 ∷ 7 ∷ 7 ∷ 7 ∷ 7 ∷ 7 ∷ []) ≡ says false word.Log 0 0 5 0 3 (55 ∷ 9 ∷ 32 ∷ 10 ∷ 10 ∷ 7 ∷ [])
unfolding opened
log-line = refl

empty-log-line : line_read (letters "log") (7 ∷ []) ≡ says false word.Log 0 0 1 0 3 (10 ∷ [])
unfolding opened
empty-log-line = refl

no-escape-line : line_read (letters "log 7\\x0") (7 ∷ 7 ∷ []) ≡ faulty fault.NoEscape 5 (55 ∷ 7 ∷ [])
unfolding opened
no-escape-line = refl

comment-line : line_read (letters "log 7#7") (7 ∷ 7 ∷ []) ≡ faulty fault.CommentInText 5 (55 ∷ 10 ∷ [])
unfolding opened
comment-line = refl

blank-line : line_read (letters "  # volume 100h 1") [] ≡ record { reading = Ok None; bytes = [] }
unfolding opened
blank-line = refl

unknown-line : line_read (letters "vol 100h 1") [] ≡ faulty fault.UnknownWord 0 []
unfolding opened
unknown-line = refl

no-number-line : line_read (letters "status 1x") [] ≡ faulty fault.NumberExpected 7 []
unfolding opened
no-number-line = refl

large-line : line_read (letters "buffer 4294967296") [] ≡ faulty fault.NumberTooLarge 7 []
unfolding opened
large-line = refl

-- what was read before the fault stands in the buffer
full-line : line_read (letters "command 12 34*2 5") (7 ∷ 7 ∷ 7 ∷ []) ≡ faulty fault.TooManyBytes 16 (0x12 ∷ 0x34 ∷ 0x34 ∷ [])
unfolding opened
full-line = refl

left-line : line_read (letters "reset 1") [] ≡ faulty fault.LeftOver 6 []
unfolding opened
left-line = refl

not-set-line : line_read (letters "set host 1") [] ≡ faulty fault.NotSet 4 []
unfolding opened
not-set-line = refl

empty-line : line_read (letters "answer 0 7F*0") (7 ∷ []) ≡ faulty fault.WrongByteCount 0 (7 ∷ [])
unfolding opened
empty-line = refl

short-line : line_read (letters "attention 2 28") (7 ∷ 7 ∷ []) ≡ faulty fault.WrongByteCount 0 (0x28 ∷ 7 ∷ [])
unfolding opened
short-line = refl
