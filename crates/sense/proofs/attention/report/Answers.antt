-- `sense::attention::report` meets its contract. Assumes nothing.
use Rattle.rules.specs.Choice.{when}
use Rattle.rules.specs.Bytes.{put}
use Rattle.rules.specs.Tables.{changes, change, in_head}
use Rattle.rules.specs.Order.{outcome, after_attention}
use borrow.Author.Tests.{ne_eqb}
use Rattle.sense.proofs.attention.report.Goals as goal

pub returns : goal.returns
unfolding outcome after_attention changes change in_head put when
returns c =
    λ elements rest buffer later. rw (ne_eqb _ _ c.requires.attentive, c.told.ensures, c.attend.ensures, c.note.ensures, c.attention_of-codes.ensures)
