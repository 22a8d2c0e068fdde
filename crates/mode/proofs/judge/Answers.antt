-- `mode::judge` meets its contract. Assumes nothing.
use mathlib.Core.Path.{refl}
use Rattle.rules.proofs.Ladder.{ladder}
use Rattle.mode.specs.Judged.{mode_by}
use Rattle.mode.proofs.Answering.{least-most}
use borrow.Author.Rules.{rules}
use Rattle.mode.proofs.judge.Goals as goal

pub returns-then-room-count : goal.returns-then-room-count
unfolding mode_by
returns-then-room-count c =
    let n = c.whole_bytes.ensures in
    record { value = rw (← n, ← c.min-count.ensures) (search ladder depth 10); within = refl }

pub returns : goal.returns
unfolding mode_by
returns c =
    let n = c.whole_bytes.ensures in
    record { value = rw (← n, ← c.min-count.ensures) (search ladder depth 10); within = (rw (c.min-count.ensures, n) (least-most _ _), search rules) }
