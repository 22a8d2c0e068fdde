-- A line as text: where its comment begins, and where its words begin and end. Assumes nothing.
use Rattle.std.specs.Prelude.{ℕ, ◌+◌, ◌-◌, List, [], ◌∷◌, Bool, true, not, take, drop, eqb}
use Rattle.std.specs.List.{position_or_len}
use Rattle.std.specs.Str.{bytes_eq}
use Prim.Native.Char.{code}
use Prim.Native.String.{String, [] as none, ◌∷◌ as ◌then◌}
use Rattle.rules.specs.Choice.{when}
use Rattle.case_text.specs.declared.Sought.{Sought}
use Rattle.case_text.specs.declared.Sought.TheVariants.{Hash, Star, Gap, Word, Break, Byte}

-- a quoted text as bytes
unfoldable pub letters : String → List ℕ
letters none = []
letters (c then s) = code c ∷ letters s

-- a blank: space, tab, carriage return
unfoldable pub blank : ℕ → Bool
blank b = when (eqb b (code " ")) true (when (eqb b (code "\t")) true (eqb b (code "\r")))

-- "with blanks or `/` between them"
abbrev pub break : ℕ → Bool
break b = when (eqb b (code "/")) true (blank b)

-- whether a search stops at a byte
unfoldable pub stops : Sought → ℕ → Bool
stops Hash b = eqb b (code "#")
stops Star b = eqb b (code "*")
stops Gap b = blank b
stops Word b = not (blank b)
stops Break b = break b
stops Byte b = not (break b)

-- the first place from i on where the search stops, or the text's end
unfoldable pub first : Sought → List ℕ → ℕ → ℕ
first what s i = i + position_or_len (stops what) (drop i s)

-- "`#` begins a comment that goes to the end of the line"
abbrev pub comment_at : List ℕ → ℕ
comment_at s = first Hash s 0

abbrev pub star_at : List ℕ → ℕ
star_at s = first Star s 0

-- where the next word begins, from i on, and where the word that begins at i ends
abbrev pub word_start : List ℕ → ℕ → ℕ
word_start s i = first Word s i

abbrev pub word_end : List ℕ → ℕ → ℕ
word_end s i = first Gap s i

-- where the next byte begins, and where the byte that begins at i ends, with its star and number
abbrev pub byte_start : List ℕ → ℕ → ℕ
byte_start s i = first Byte s i

abbrev pub byte_end : List ℕ → ℕ → ℕ
byte_end s i = first Break s (i + 1)

-- the text from one place to another
abbrev pub between : List ℕ → ℕ → ℕ → List ℕ
between s from to = take (to - from) (drop from s)

-- the next word
abbrev pub word_at : List ℕ → ℕ → List ℕ
word_at s i = between s (word_start s i) (word_end s (word_start s i))

-- letter for letter the same
abbrev pub same_word : List ℕ → List ℕ → Bool
same_word a b = bytes_eq a b
