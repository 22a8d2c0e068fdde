-- Bytes against the bytes expected. Assumes nothing.
use Rattle.std.specs.Prelude.{ℕ, suc, ◌+◌, List, [], ◌∷◌, length, get_or, drop, replicate, eqb, Result, Ok, Err}
use Rattle.rules.specs.Choice.{when}
use Rattle.case_script.specs.declared.word.Word.{Word}
use Rattle.case_script.specs.declared.word.Word.TheVariants.{Command}
use Rattle.case_script.specs.declared.fault.Fault.{Fault}
use Rattle.case_script.specs.declared.fault.Fault.TheVariants.{Outside}
use Rattle.case_rooms.specs.declared.Finding.{Finding}
use Rattle.case_rooms.specs.declared.Finding.TheVariants.{Done, Same, Differs}

-- how many bytes at the front are the same
unfoldable pub alike : List ℕ → List ℕ → ℕ
alike [] ys = 0
alike (x ∷ xs) [] = 0
alike (x ∷ xs) (y ∷ ys) = when (eqb x y) (suc (alike xs ys)) 0

-- one number against the one expected
unfoldable pub compared : Word → ℕ → ℕ → Finding
compared what found expected =
    when (eqb found expected) Same (Differs (record { what = what; at = 0; found = found; expected = expected }))

-- the byte of xs behind those that are alike against that of ys; the first byte of xs stands at a place
unfoldable pub parted : Word → ℕ → List ℕ → List ℕ → Finding
parted what at xs ys =
    Differs (record { what = what; at = at + alike xs ys; found = get_or xs (alike xs ys) 0; expected = get_or ys (alike xs ys) 0 })

-- bytes against those expected, of which there must be as many
unfoldable pub compared_bytes : Word → ℕ → List ℕ → List ℕ → Result Finding Fault
compared_bytes what at xs ys =
    when (eqb (length xs) (length ys)) (Ok (when (eqb (alike xs ys) (length xs)) Same (parted what at xs ys))) (Err Outside)

-- "Before each call the whole answer buffer is filled with EEh": n bytes of it
unfoldable pub untouched : ℕ → List ℕ
untouched n = replicate n 0xEE

-- "the bytes past the count are still EEh"
unfoldable pub past_count : List ℕ → ℕ → Finding
past_count buffer count =
    when (eqb (alike (drop count buffer) (untouched (length (drop count buffer)))) (length (drop count buffer))) Done
    (parted Command count (drop count buffer) (untouched (length (drop count buffer))))
