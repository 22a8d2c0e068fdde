-- Bytes: "one or two hexadecimal digits, with blanks or `/` between them; `*` and a decimal number behind a byte repeat it". Assumes nothing.
use Rattle.std.specs.Prelude.{ℕ, zero, suc, ◌+◌, ◌-◌, List, [], ◌∷◌, ◌++◌, Option, Some, None, Result, Ok, Err, length, take, replicate, leb, ltb}
use Rattle.rules.specs.Choice.{when}
use Rattle.rules.specs.Bytes.{put}
use Rattle.case_text.specs.declared.fault.Fault.{Fault}
use Rattle.case_text.specs.declared.fault.Fault.TheVariants.{ByteExpected, TooManyBytes}
use Rattle.case_text.specs.declared.fault.Stop.{Stop}
use Rattle.case_text.specs.declared.bytes.Run.{Run}
use Rattle.case_text.specs.Text.{star_at, byte_start, byte_end, between}
use Rattle.case_text.specs.Numbers.{digit_of, pair_of, value_of}

-- one or two digits
abbrev pub byte_of : List ℕ → Option ℕ
byte_of [] = None
byte_of (only ∷ []) = digit_of only
byte_of (high ∷ low ∷ []) = pair_of (digit_of high) (digit_of low)
byte_of (a ∷ b ∷ c ∷ more) = None

-- a byte as often as the number says
abbrev pub times_of : ℕ → Result ℕ Fault → Result Run Fault
times_of b (Ok n) = Ok (record { byte = b; times = n })
times_of b (Err why) = Err why

-- a byte, once or as often as the number behind the star says
abbrev pub starred : List ℕ → ℕ → Option ℕ → Result Run Fault
starred w star None = Err ByteExpected
starred w star (Some b) = when (ltb star (length w)) (times_of b (value_of 10 (between w (star + 1) (length w)))) (Ok (record { byte = b; times = 1 }))

unfoldable pub run_of : List ℕ → Result Run Fault
run_of w = starred w (star_at w) (byte_of (take (star_at w) w))

-- the bytes that were read, with their count or the fault behind them
pub record Given : Type 0 where
  pub told : Result ℕ Stop
  pub front : List ℕ

abbrev pub all : List ℕ → Given
all front = record { told = Ok (length front); front = front }

-- a run behind the bytes so far, if there is room for it, and then the rest
unfoldable pub and_then : ℕ → ℕ → List ℕ → Result Run Fault → (List ℕ → Given) → Given
and_then room at front (Err why) rest = record { told = Err (record { why = why; at = at }); front = front }
and_then room at front (Ok run) rest =
    when (ltb (room - length front) run.times) (record { told = Err (record { why = TooManyBytes; at = at }); front = front })
    (rest (front ++ replicate run.times run.byte))

-- what stands at the places of a text before its end: the run at a place, and the place of the next. At most n of them from the place `at` on,
-- behind the bytes so far
unfoldable pub runs_from : (ℕ → Result Run Fault) → (ℕ → ℕ) → ℕ → ℕ → ℕ → ℕ → List ℕ → Given
runs_from run next room end zero at front = all front
runs_from run next room end (suc n) at front =
    when (leb end at) (all front) (and_then room at front (run at) (λ more. runs_from run next room end n (next at) more))

-- the bytes of a text: there are no more runs than letters
unfoldable pub given : ℕ → List ℕ → ℕ → Given
given room s i =
    runs_from (λ at. run_of (between s at (byte_end s at))) (λ at. byte_start s (byte_end s at)) room (length s) (length s) (byte_start s i) []

-- what is told of the bytes, and a buffer with the bytes at its front
pub record Filled : Type 0 where
  pub told : Result ℕ Stop
  pub bytes : List ℕ

abbrev pub onto : List ℕ → Given → Filled
onto buffer g = record { told = g.told; bytes = put buffer 0 g.front }
