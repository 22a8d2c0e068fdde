-- Numbers: "decimal, or hexadecimal with an `h` behind them, as the paper writes them". Assumes nothing.
use Rattle.std.specs.Prelude.{ℕ, ◌+◌, ◌-◌, ◌*◌, List, [], ◌∷◌, Option, Some, None, Result, Ok, Err, length, get_or, take, eqb, leb, ltb}
use Prim.Native.Char.{code}
use Rattle.rules.specs.Choice.{when}
use Rattle.case_text.specs.declared.fault.Fault.{Fault}
use Rattle.case_text.specs.declared.fault.Fault.TheVariants.{NumberExpected, NumberTooLarge}

-- the value of a digit 0 to 9, A to F or a to f
unfoldable pub digit_of : ℕ → Option ℕ
digit_of b =
    when (ltb b (code "0")) None
    (when (leb b (code "9")) (Some (b - code "0"))
    (when (ltb b (code "A")) None
    (when (leb b (code "F")) (Some (b - code "A" + 10))
    (when (ltb b (code "a")) None
    (when (leb b (code "f")) (Some (b - code "a" + 10)) None)))))

-- the byte of two digits
abbrev pub pair_of : Option ℕ → Option ℕ → Option ℕ
pair_of None low = None
pair_of (Some high) None = None
pair_of (Some high) (Some low) = Some (high * 16 + low)

-- "at most 4,294,967,295"
abbrev pub largest : ℕ
largest = 4294967295

-- a digit in a base behind the number n: one that is none of the base, or makes the number too large, is a fault
abbrev pub longer_by : ℕ → ℕ → Option ℕ → Result ℕ Fault
longer_by base n None = Err NumberExpected
longer_by base n (Some d) =
    when (leb base d) (Err NumberExpected)
    (when (ltb largest (n * base + d)) (Err NumberTooLarge)
    (Ok (n * base + d)))

-- what a number is the beginning of, if it is one
abbrev pub and_on : Result ℕ Fault → (ℕ → Result ℕ Fault) → Result ℕ Fault
and_on (Err why) rest = Err why
and_on (Ok n) rest = rest n

-- digits in a base behind the number n: the first that makes no number is a fault
unfoldable pub value_from : ℕ → List ℕ → ℕ → Result ℕ Fault
value_from base [] n = Ok n
value_from base (b ∷ bs) n = and_on (longer_by base n (digit_of b)) (value_from base bs)

-- one digit or more
unfoldable pub value_of : ℕ → List ℕ → Result ℕ Fault
value_of base digits = when (eqb (length digits) 0) (Err NumberExpected) (value_from base digits 0)

-- a word with an `h` at its end, and without
unfoldable pub number_of : List ℕ → Result ℕ Fault
number_of w =
    when (eqb (length w) 0) (Err NumberExpected)
    (when (eqb (get_or w (length w - 1) 0) (code "h")) (value_of 16 (take (length w - 1) w))
    (value_of 10 w))
