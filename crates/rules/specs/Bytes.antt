-- Bytes of a table: "fields are high byte first". Assumes nothing.
use Rattle.std.specs.Prelude.{ℕ, ◌+◌, ◌*◌, ◌/◌, ◌%◌, List, [], ◌∷◌, get_or, take}
use Rattle.std.proofs.lemmas.List.Edits.{sets}

unfoldable pub byte : List ℕ → ℕ → ℕ
byte xs i = get_or xs i 0

-- the number in two bytes, and in three
unfoldable pub word : List ℕ → ℕ → ℕ
word xs i = byte xs i * 256 + byte xs (i + 1)

unfoldable pub triple : List ℕ → ℕ → ℕ
triple xs i = byte xs i * 65536 + word xs (i + 1)

-- a number as two bytes, and as three
abbrev pub high : ℕ → ℕ
high n = n / 256

abbrev pub low : ℕ → ℕ
low n = n % 256

unfoldable pub three : ℕ → List ℕ
three n = n / 65536 ∷ n / 256 % 256 ∷ n % 256 ∷ []

-- the bytes from index i on overwritten: the one way a table or a buffer changes
unfoldable pub put : List ℕ → ℕ → List ℕ → List ℕ
put xs i bytes = sets xs i bytes

-- an answer cut at the allocation: "the first min(allocation, n) bytes" of its n
unfoldable pub cut : ℕ → List ℕ → List ℕ
cut allocation whole = take allocation whole
