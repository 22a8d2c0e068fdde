-- `case_text::bytes::all_bytes` meets its contract. Assumes nothing.
use Prim.Native.Nat.{◌≤◌, ◌-◌}
use lib.ListN.{length}
use Rattle.case_text.specs.Bytes.{given}
use Rattle.case_text.proofs.Buffers.{Going, byte_run, byte_next}
use Rattle.case_text.proofs.bytes.all_bytes.Given as goal

abbrev pub invariant-loop-at : goal.invariant-loop-at
invariant-loop-at l = (l.at ≤ length l.text) × Going (byte_run l.text) (byte_next l.text) (length l.text) (given (length l.initial.bytes) l.text l.from) l.initial.bytes l.at l.count l.bytes

abbrev pub decreases-loop-at : goal.decreases-loop-at
decreases-loop-at l = length l.text - l.at
