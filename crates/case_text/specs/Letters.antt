-- A line of text: its letters as they stand, "`\t` stands for a tab, `\xNN` for any byte", and the line feed behind it. Assumes nothing.
use Rattle.std.specs.Prelude.{ℕ, ◌+◌, List, [], Option, Some, None, Result, Ok, Err, length, get_or, eqb, ltb}
use Prim.Native.Char.{code}
use Rattle.rules.specs.Choice.{when}
use Rattle.case_text.specs.declared.fault.Fault.{Fault}
use Rattle.case_text.specs.declared.fault.Fault.TheVariants.{NoEscape}
use Rattle.case_text.specs.declared.bytes.Run.{Run}
use Rattle.case_text.specs.Numbers.{digit_of, pair_of}
use Rattle.case_text.specs.Bytes.{Given, runs_from}

-- the letter at a place of a line; behind the last stands a line feed
unfoldable pub letter_at : List ℕ → ℕ → ℕ
letter_at s at = when (ltb at (length s)) (get_or s at 0) (code "\n")

-- a byte of two hexadecimal digits
abbrev pub escaped : Option ℕ → Result ℕ Fault
escaped None = Err NoEscape
escaped (Some b) = Ok b

-- what a backslash and the letters from a place on stand for
unfoldable pub escape_of : List ℕ → ℕ → Result ℕ Fault
escape_of s at =
    when (eqb (letter_at s at) (code "t")) (Ok (code "\t"))
    (when (eqb (letter_at s at) (code "x")) (escaped (pair_of (digit_of (letter_at s (at + 1))) (digit_of (letter_at s (at + 2)))))
    (Err NoEscape))

-- a byte, once
abbrev pub once : Result ℕ Fault → Result Run Fault
once (Err why) = Err why
once (Ok b) = Ok (record { byte = b; times = 1 })

-- the byte that the letter at a place stands for, and the place of the next letter
unfoldable pub letter_of : List ℕ → ℕ → Result Run Fault
letter_of s at = once (when (eqb (letter_at s at) (code "\\")) (escape_of s (at + 1)) (Ok (letter_at s at)))

unfoldable pub letter_end : List ℕ → ℕ → ℕ
letter_end s at =
    when (eqb (letter_at s at) (code "\\")) (when (eqb (letter_at s (at + 1)) (code "x")) (at + 4) (at + 2)) (at + 1)

-- the text of a line from a place on, and its line feed
unfoldable pub written : ℕ → List ℕ → ℕ → Given
written room s i = runs_from (letter_of s) (letter_end s) room (length s + 1) (length s + 1) i []
