-- `sense::tells_attention` meets its contract. Assumes nothing.
use mathlib.Core.Path.{sym, ◌∙◌}
use borrow.Author.Tests.{eq-eqb, ne_eqb}
use Rattle.rules.specs.Choice.{differ}
use Rattle.rules.specs.Sense.{tells_attention}
use Rattle.sense.proofs.Tests.{all-fails, all-last}
use Rattle.sense.proofs.tells_attention.Goals as goal

pub returns-then-key-ne0 : goal.returns-then-key-ne0
unfolding tells_attention
returns-then-key-ne0 c = all-fails _ _ (ne_eqb _ _ (λ e. c.if-key-ne0.true (c.key.ensures ∙ e)))

pub returns : goal.returns
unfolding tells_attention differ
returns c = rw c.attention.ensures (all-last _ _ (eq-eqb _ _ (sym c.key.ensures ∙ c.if-key-ne0.false)))
