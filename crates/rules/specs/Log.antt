-- "Replay of the day's log": the form of a line, and the call that it records. Assumes nothing.
use Rattle.std.specs.Prelude.{ℕ, suc, ◌+◌, ◌*◌, ◌-◌, List, [], ◌∷◌, Bool, true, false, length, take, drop, eqb, leb, ltb}
use Prim.Native.Char.{code}
use Rattle.rules.specs.Choice.{when, all_of, differ}
use Rattle.rules.specs.Bytes.{byte, word}
use Rattle.rules.specs.Command.{Call, Command, Import, Export, Reset}

-- ---- text

abbrev pub TAB : ℕ
TAB = 9

abbrev pub LINE-FEED : ℕ
LINE-FEED = 10

-- where a byte first stands in a text; the text's length where it does not
unfoldable pub first_of : ℕ → List ℕ → ℕ
first_of b [] = 0
first_of b (x ∷ xs) = when (eqb x b) 0 (suc (first_of b xs))

-- what stands before the first such byte, and behind it
abbrev pub before : ℕ → List ℕ → List ℕ
before b s = take (first_of b s) s

abbrev pub beyond : ℕ → List ℕ → List ℕ
beyond b s = drop (first_of b s + 1) s

-- a digit "in upper-case hexadecimal", 16 for what is none; a decimal digit is one up to 9
unfoldable pub digit : ℕ → ℕ
digit b =
    when (ltb b (code "0")) 16
    (when (leb b (code "9")) (b - code "0")
    (when (ltb b (code "A")) 16
    (when (leb b (code "F")) (b - code "A" + 10) 16)))

-- ---- the fields

-- decimal digits behind the number n; 0 where one is no digit, or the number is above 999,999,999
unfoldable pub number_from : List ℕ → ℕ → ℕ
number_from [] n = n
number_from (b ∷ bs) n =
    when (ltb 9 (digit b)) 0
    (when (ltb 999999999 (n * 10 + digit b)) 0 (number_from bs (n * 10 + digit b)))

-- "sequence number (decimal, 1 to 999,999,999, no leading zero)"; 0 for what is none
unfoldable pub number_of : List ℕ → ℕ
number_of s = when (eqb (byte s 0) (code "0")) 0 (number_from s 0)

-- bytes "in upper-case hexadecimal": two digits each
unfoldable pub hexed : List ℕ → Bool
hexed [] = true
hexed (x ∷ []) = false
hexed (x ∷ y ∷ s) = when (ltb 15 (digit x)) false (when (ltb 15 (digit y)) false (hexed s))

unfoldable pub bytes_of : List ℕ → List ℕ
bytes_of [] = []
bytes_of (x ∷ []) = []
bytes_of (x ∷ y ∷ s) = (digit x * 16 + digit y) ∷ bytes_of s

-- ---- a line: its number and the call that it records, or another form

pub data Line : Type 0 where
  Other : Line
  Entry : ℕ → Call → Line

-- "01 import, 02 export, 03 reset, with address and volume, address, or nothing as parameters; all else is another form"
unfoldable pub event_of : ℕ → List ℕ → List ℕ → Line
event_of k block list =
    when (differ (length block) 1) Other
    (when (all_of (eqb (byte block 0) 1 ∷ eqb (length list) 4 ∷ [])) (Entry k (Import (word list 0) (word list 2)))
    (when (all_of (eqb (byte block 0) 2 ∷ eqb (length list) 2 ∷ [])) (Entry k (Export (word list 0)))
    (when (all_of (eqb (byte block 0) 3 ∷ eqb (length list) 0 ∷ [])) (Entry k Reset) Other)))

-- "Host 0 means an event"; a command lends no answer buffer here
unfoldable pub entry_of : ℕ → ℕ → List ℕ → List ℕ → Line
entry_of k h block list =
    when (eqb h 0) (event_of k block list)
    (Entry k (Command (record { host = h; block = block; parameters = list; buffer = [] })))

-- the fields of a text, parted by tabs
unfoldable pub onto : ℕ → List (List ℕ) → List (List ℕ)
onto x [] = (x ∷ []) ∷ []
onto x (f ∷ fs) = (x ∷ f) ∷ fs

unfoldable pub fields : List ℕ → List (List ℕ)
fields [] = [] ∷ []
fields (x ∷ xs) = when (eqb x TAB) ([] ∷ fields xs) (onto x (fields xs))

-- "four fields parted by tabs: sequence number .., host or 0 (one digit), command bytes, parameter bytes, both in upper-case hexadecimal"
unfoldable pub four_fields : List (List ℕ) → Line
four_fields [] = Other
four_fields (n ∷ []) = Other
four_fields (n ∷ h ∷ []) = Other
four_fields (n ∷ h ∷ c ∷ []) = Other
four_fields (n ∷ h ∷ c ∷ p ∷ []) =
    when (all_of (differ (number_of n) 0 ∷ eqb (length h) 1 ∷ leb (digit (byte h 0)) 9 ∷ hexed c ∷ hexed p ∷ []))
    (entry_of (number_of n) (digit (byte h 0)) (bytes_of c) (bytes_of p)) Other
four_fields (n ∷ h ∷ c ∷ p ∷ q ∷ qs) = Other

unfoldable pub line_of : List ℕ → Line
line_of s = four_fields (fields s)
