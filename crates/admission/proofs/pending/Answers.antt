-- `admission::pending` meets its contract. Assumes nothing.
use mathlib.Core.Path.{refl}
use Rattle.rules.specs.Choice.{differ}
use Rattle.rules.proofs.Ladder.{yes, no}
use Rattle.admission.specs.Admitting.{pending}
use Rattle.admission.proofs.pending.Goals as goal

pub returns-then-meets_attention : goal.returns-then-meets_attention
unfolding pending differ
returns-then-meets_attention c = yes _ _ _ _ _ c.meets_attention.ensures c.if-meets_attention.true (rw c.attention.ensures)

pub returns : goal.returns
unfolding pending
returns c = no _ _ _ _ _ c.meets_attention.ensures c.if-meets_attention.false refl
