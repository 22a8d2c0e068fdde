-- `sense::judge` meets its contract. Assumes nothing.
use mathlib.Core.Path.{refl, sym}
use Rattle.rules.specs.Bytes.{byte}
use Rattle.rules.proofs.Ladder.{ladder}
use Rattle.sense.specs.Judged.{sense_by}
use Rattle.sense.proofs.Answering.{least-most}
use borrow.Author.Rules.{rules}
use Rattle.sense.proofs.judge.Goals as goal

pub returns-then-room-count : goal.returns-then-room-count
unfolding sense_by byte
returns-then-room-count c = record { value = rw (sym c.min-count.ensures) (search ladder depth 10); within = refl }

pub returns-then-tells_attention : goal.returns-then-tells_attention
unfolding sense_by byte
returns-then-tells_attention c =
    let n = c.min-count.ensures in
    record { value = rw (sym n) (search ladder depth 10); within = (rw n (least-most _ _), search rules) }

pub returns : goal.returns
unfolding sense_by byte
returns c =
    let n = c.min-count.ensures in
    record { value = rw (sym n) (search ladder depth 10); within = (rw n (least-most _ _), search rules) }
