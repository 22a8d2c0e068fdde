-- What is told of a field. Assumes nothing.
use Rattle.std.specs.Prelude.{ℕ, ◌<◌, ◌/◌, ◌≡◌, ◌≢◌, Bool, true, false, List, Option, Some, None, length, take, eqb, ltb}
use Rattle.rules.specs.Choice.{when, differ}
use Rattle.rules.specs.Bytes.{byte}
use Rattle.rules.specs.Log.{TAB, first_of, before, digit, number_of, hexed, bytes_of}
use Rattle.log_line.specs.declared.Sequence.{Sequence}

-- a mark stands at a place of a text, and nowhere before
pub record Parted (mark : ℕ) (s : List ℕ) (end : ℕ) : Type 0 where
  pub first : end ≡ first_of mark s
  pub inside : end < length s

-- the number before a tab; 0 where there is none
unfoldable pub number_to : List ℕ → ℕ
number_to s = when (eqb (first_of TAB s) (length s)) 0 (number_of (before TAB s))

-- a number stands before the tab
pub record Number (s : List ℕ) (value end : ℕ) : Type 0 where
  pub value-is : value ≡ number_to s
  pub some : value ≢ 0
  pub parted : Parted TAB s end

abbrev pub Numbered : List ℕ → Option Sequence → Type 0
Numbered s None = number_to s ≡ 0
Numbered s (Some n) = Number s n.value n.end

-- the host before a tab, one digit
unfoldable pub host_to : List ℕ → Option ℕ
host_to s =
    when (ltb (length s) 2) None
    (when (differ (byte s 1) TAB) None
    (when (ltb 9 (digit (byte s 0))) None (Some (digit (byte s 0)))))

-- whether bytes in hexadecimal stand before a mark
unfoldable pub hexed_to : ℕ → List ℕ → Bool
hexed_to mark s = when (eqb (first_of mark s) (length s)) false (hexed (before mark s))

-- they do, and stand decoded at the front of a room
pub record Bytes (mark : ℕ) (s out : List ℕ) (end : ℕ) : Type 0 where
  pub parted : Parted mark s end
  pub digits : hexed (before mark s) ≡ true
  pub decoded : take (end / 2) out ≡ bytes_of (before mark s)

abbrev pub Decoded : ℕ → List ℕ → List ℕ → Option ℕ → Type 0
Decoded mark s out (Some end) = Bytes mark s out end
Decoded mark s out None = hexed_to mark s ≡ false
