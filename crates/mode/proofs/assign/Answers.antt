-- `mode::assign` meets its contract. Assumes nothing.
use native.Mathlib.Omega.{arith}
use Rattle.rules.proofs.Writes.{put_then}
use Rattle.rules.specs.Roster.{range}
use Rattle.rules.specs.Mode.{assigned}
use Rattle.mode.proofs.assign.Goals as goal

pub returns : goal.returns
unfolding assigned range
returns c =
    rw (← c.word_at-count.ensures, ← c.word_at-first.ensures)
    (put_then _ _ _ _ _ _ _ c.put_word.ensures c.put_word-2.ensures (omega arith))
