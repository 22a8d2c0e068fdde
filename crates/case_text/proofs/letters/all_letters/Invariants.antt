-- `case_text::letters::all_letters` meets its contract. Assumes nothing.
use Prim.Native.Nat.{◌+◌, ◌-◌}
use lib.ListN.{length}
use Rattle.case_text.specs.Letters.{letter_of, letter_end, written}
use Rattle.case_text.proofs.Buffers.{Going}
use Rattle.case_text.proofs.letters.all_letters.Given as goal

abbrev pub invariant-loop-at : goal.invariant-loop-at
invariant-loop-at l = Going (letter_of l.text) (letter_end l.text) (length l.text + 1) (written (length l.initial.bytes) l.text l.from) l.initial.bytes l.at l.count l.bytes

abbrev pub decreases-loop-at : goal.decreases-loop-at
decreases-loop-at l = length l.text + 1 - l.at
