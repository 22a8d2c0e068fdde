-- MODE SENSE as the code judges and writes it, and what each answer means in the rules. Assumes nothing.
use Rattle.std.specs.Prelude.{ℕ, ◌≡◌, ◌+◌, ◌≤◌, min, List, [], ◌∷◌, Result, Ok, Err, length, ltb}
use Rattle.rules.specs.Choice.{when}
use Rattle.rules.specs.Bytes.{cut}
use Rattle.rules.specs.Tables.{Sense}
use Rattle.rules.specs.Order.{Verdict, Number, Done, GOOD}
use Rattle.rules.specs.Mode.{these, none, paged, sought, mode_whole}
use Rattle.order.specs.declared.House.{House}
use Rattle.order.specs.declared.House.TheVariants.{ShortBuffer}
use Rattle.order.specs.Ending.{numbered}

-- "Over 256 bytes before cutting"
abbrev pub most : ℕ
most = 256

-- 001, table 32: the bytes of one relation of types, with the reserved ones behind them
unfoldable pub kinds : List ℕ
kinds = none ∷ these ∷ these ∷ these ∷ 0 ∷ 0 ∷ 0 ∷ 0 ∷ []

-- a page of the answer, where it is asked for
unfoldable pub piece : ℕ → ℕ → List ℕ → List ℕ
piece code page parameters = when (sought code page) (paged page parameters) []

-- how many bytes it has, with n behind its header
unfoldable pub bytes_of : ℕ → ℕ → ℕ → ℕ
bytes_of code page n = when (sought code page) (2 + n) 0

-- what an answer means
unfoldable pub meaning : List ℕ → ℕ → ℕ → Result ℕ House → Verdict
meaning head h code (Err why) = Number (numbered why).number
meaning head h code (Ok n) = Done GOOD (cut n (mode_whole head code)) (Sense h 0 0 0 ∷ [])

-- the bytes of an answer are there to be told, and there is room for them; else it is number 5
abbrev pub Within : List ℕ → ℕ → ℕ → Result ℕ House → Type 0
Within head code room (Err why) = why ≡ ShortBuffer
Within head code room (Ok n) = (n ≤ length (mode_whole head code)) × (n ≤ room)

-- house number 5 for an answer buffer with so much room, then what is told
unfoldable pub mode_by : List ℕ → ℕ → ℕ → ℕ → Result ℕ House
mode_by head code allocation room =
    when (ltb room (min allocation (length (mode_whole head code)))) (Err ShortBuffer) (Ok (min allocation (length (mode_whole head code))))
