-- `case_reading::file_room`: by the law of a repeat's length, since a million elements are too many to count. Assumes nothing.
use Prim.Native.Nat.{ℕ}
use mathlib.Core.Path.{◌≡◌, sym}
use lib.ListN.{length, replicate, length-replicate}
use Rattle.case_reading.proofs.file_room.Goals as goal

as_many : (n : ℕ) → n ≡ length (replicate {A = ℕ} n 0)
as_many n = sym (length-replicate n 0)

pub returns : goal.returns
returns c = as_many 1048576
