-- The form of a line, and replay on the small library, computed. Assumes nothing.
use Prim.Native.Nat.{ℕ}
use Prim.Native.Char.{code}
use Prim.Native.String.{String, [] as none, ◌∷◌ as ◌then◌}
use mathlib.Core.Path.{◌≡◌, refl}
use mathlib.Core.List.{List, [], ◌∷◌, ◌++◌}
use lib.ListN.{replicate}
use Rattle.rules.specs.Tables.{Tables}
use Rattle.rules.specs.Command.{Import, Export, Reset}
use Rattle.rules.specs.Log.{first_of, digit, number_from, number_of, hexed, bytes_of, Line, Other, Entry, event_of, entry_of, onto, fields, four_fields, line_of}
use Rattle.rules.specs.Replay.{answerless, after_line, turn_on, turn, Replayed, turns, replay}
use Rattle.rules.specs.Small.{Host, small, library, head_showing, quiet_showing, awaits, senses, elements_of, element, empty, loaded, sends, asks, move_block, naming, reserve_block}
use Rattle.rules.proofs.Opened.{opened}

-- a text as its bytes
unfoldable pub letters : String → List ℕ
letters none = []
letters (c then s) = code c ∷ letters s

-- replay, with every definition of the log and of the rules open
unfoldable pub replayed : Tables → List ℕ → ℕ → ℕ → Replayed
unfolding opened first_of digit number_from number_of hexed bytes_of event_of entry_of onto fields four_fields line_of answerless after_line turn_on turn turns replay
replayed t log e n = replay t log e n

-- ---- the form of a line

read : List String → List Line
read [] = []
read (s ∷ ss) = line_of (letters s) ∷ read ss

-- commands, with parameters and without, and the three events; host 9 and an empty block are for the core to refuse
goods : List String
goods =
    "7\t1\tA50000001000010000000000\t"
    ∷ "8\t2\t160107000600\t000000011003"
    ∷ "9\t0\t01\t00100003"
    ∷ "10\t0\t02\t0010"
    ∷ "999999999\t0\t03\t"
    ∷ "1\t9\t\t"
    ∷ []

goods-read : read goods
    ≡ Entry 7 (asks (move_block 0x1000 0x0100))
    ∷ Entry 8 (sends 2 (reserve_block 7 6) (naming 1 0x1003) [])
    ∷ Entry 9 (Import 0x0010 3)
    ∷ Entry 10 (Export 0x0010)
    ∷ Entry 999999999 Reset
    ∷ Entry 1 (sends 9 [] [] [])
    ∷ []
unfolding replayed read goods letters
goods-read = refl

-- what is no line: its number, its host, its bytes, its event, its fields
bads : List String
bads =
    "08\t1\t000000000000\t"
    ∷ "0\t1\t000000000000\t"
    ∷ "\t1\t000000000000\t"
    ∷ "1000000000\t1\t000000000000\t"
    ∷ "8A\t1\t000000000000\t"
    ∷ "8\t\t000000000000\t"
    ∷ "8\t11\t000000000000\t"
    ∷ "8\tA\t000000000000\t"
    ∷ "8\t1\t00000000000\t"
    ∷ "8\t1\t00000000000a\t"
    ∷ "8\t1\t00000000000G\t"
    ∷ "8\t1\t000000000000\t0"
    ∷ "8\t1\t000000000000\tfF"
    ∷ "8\t0\t\t"
    ∷ "8\t0\t0100\t00100003"
    ∷ "8\t0\t01\t0010"
    ∷ "8\t0\t02\t00100003"
    ∷ "8\t0\t03\t00"
    ∷ "8\t0\t04\t"
    ∷ ""
    ∷ "8"
    ∷ "8\t1"
    ∷ "8\t1\t000000000000"
    ∷ "8\t1\t000000000000\t\t"
    ∷ "8 1 000000000000 "
    ∷ []

bads-read : read bads ≡ replicate 25 Other
unfolding replayed read bads letters
bads-read = refl

-- ---- replay: a move of 1000h to 0100h, an import of volume 3 at 0010h, a readiness test that is told of it

unfoldable pub moved : List ℕ
moved = letters "7\t1\tA50000001000010000000000\t\n"

unfoldable pub imported : List ℕ
imported = letters "8\t0\t01\t00100003\n"

unfoldable pub asked : List ℕ
asked = letters "9\t1\t000000000000\t\n"

unfoldable pub day : List ℕ
day = moved ++ (imported ++ asked)

-- number, lines, place, expected, and the tables
unfoldable pub ends : ℕ → ℕ → ℕ → ℕ → Tables → Replayed
ends n l p e t = record { number = n; lines = l; place = p; expected = e; tables = t }

unfoldable pub after_move : Tables
after_move = library (quiet_showing 3) (elements_of empty (element 1 0x1000 0 0 0) empty empty (loaded 2) empty)

-- what host 1 has, all others await to be told
unfoldable pub after_import : Host → Tables
after_import one =
    library (head_showing 3 0 0 one (awaits 0x28 0x01) (awaits 0x28 0x01)) (elements_of (element 3 0 0 0 1) (element 1 0x1000 0 0 0) empty empty (loaded 2) empty)

whole-day : replayed small day 7 100 ≡ ends 0 3 64 10 (after_import (senses 6 0x28 0x01))
unfolding replayed day moved imported asked letters ends after_import
whole-day = refl

-- the budget ends it, and what is behind is not looked at
cut-budget : replayed small (moved ++ letters "no line") 7 1 ≡ ends 0 1 30 8 after_move
unfolding replayed moved letters ends after_move
cut-budget = refl

-- a line of another form or number, or without a line feed: number 10 with the number expected; the move stays, and its count
stopping : List String → List Replayed
stopping [] = []
stopping (s ∷ ss) = replayed small (moved ++ letters s) 7 100 ∷ stopping ss

ten : Replayed
ten = ends 10 1 30 8 after_move

tens : stopping ("08\t1\t000000000000\t\n" ∷ "9\t1\t000000000000\t\n" ∷ "8\t1\t000000000000\t" ∷ "\n" ∷ []) ≡ replicate 4 ten
unfolding replayed stopping ten moved letters ends after_move
tens = refl

-- refused by number 2, 3 and 4, they count as applied; a listing that returns bytes is applied without them
refused : List ℕ
refused = letters "8\t9\t000000000000\t\n9\t1\t\t\n10\t1\t000000000000\t00\n11\t1\tB8000000FFFF00FFFFFF0000\t\n"

all-counted : replayed small (moved ++ refused) 7 100 ≡ ends 0 5 106 12 after_move
unfolding replayed moved refused letters ends after_move
all-counted = refl

-- "at most 512 bytes and a line feed": a line of so many zeros as parameters
zeros : List ℕ → ℕ → List ℕ
zeros front n = front ++ (replicate n (code "0") ++ (10 ∷ []))

of-512 : replayed small (zeros (letters "10\t1\t000000000000\t") 494) 10 1 ≡ ends 0 1 513 11 small
unfolding replayed zeros letters ends
of-512 = refl

of-513 : replayed small (zeros (letters "7\t1\t000000000000\t") 496) 7 1 ≡ ends 10 0 0 7 small
unfolding replayed zeros letters ends
of-513 = refl

-- an empty log, no budget, an expected number that no line has
nothing_left : replayed small [] 7 5 ≡ ends 0 0 0 7 small
unfolding replayed ends
nothing_left = refl

no-budget : replayed small day 7 0 ≡ ends 0 0 0 7 small
unfolding replayed day moved imported asked letters ends
no-budget = refl

no_number : replayed small (letters "0\t1\t000000000000\t\n") 0 5 ≡ ends 10 0 0 0 small
unfolding replayed letters ends
no_number = refl
