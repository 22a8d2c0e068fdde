-- The form of a line, as the code goes: field by field. Assumes nothing.
use Rattle.std.specs.Prelude.{ℕ, List, length, drop, eqb, ltb}
use Rattle.rules.specs.Choice.{when, differ}
use Rattle.rules.specs.Bytes.{byte}
use Rattle.rules.specs.Log.{TAB, LINE-FEED, first_of, before, beyond, digit, number_of, hexed, bytes_of, Line, Other, entry_of, line_of}
use Rattle.rules.specs.Replay.{longest_line}

-- the last two fields
unfoldable pub after_host : ℕ → ℕ → List ℕ → Line
after_host k h s =
    when (eqb (first_of TAB s) (length s)) Other
    (when (hexed (before TAB s)) (when (hexed (beyond TAB s)) (entry_of k h (bytes_of (before TAB s)) (bytes_of (beyond TAB s))) Other) Other)

-- the last three
unfoldable pub after_number : ℕ → List ℕ → Line
after_number k s =
    when (eqb k 0) Other
    (when (ltb (length s) 2) Other
    (when (ltb 9 (digit (byte s 0))) Other
    (when (differ (byte s 1) TAB) Other (after_host k (digit (byte s 0)) (drop 2 s)))))

unfoldable pub line_by : List ℕ → Line
line_by s = when (eqb (first_of TAB s) (length s)) Other (after_number (number_of (before TAB s)) (beyond TAB s))

-- what stands before the line feed of a text, read so; a text without one is no line
unfoldable pub here : (List ℕ → Line) → List ℕ → Line
here read s = when (eqb (first_of LINE-FEED s) (length s)) Other (read (before LINE-FEED s))

-- the line that a text begins with: "lines of at most 512 bytes and a line feed"
unfoldable pub first_line : List ℕ → Line
first_line s =
    when (eqb (first_of LINE-FEED s) (length s)) Other
    (when (ltb longest_line (first_of LINE-FEED s)) Other (line_of (before LINE-FEED s)))
