-- `order::other` meets its contract. Assumes nothing.
use mathlib.Core.Path.{refl, ◌∙◌}
use borrow.Author.Tests.{eq-eqb, ne_eqb}
use Rattle.rules.specs.Choice.{differ}
use Rattle.rules.proofs.Rungs.{nobody, somebody}
use Rattle.order.proofs.other.Goals as goal

pub returns-then-owner-ne0 : goal.returns-then-owner-ne0
unfolding differ
returns-then-owner-ne0 c = somebody _ _ _ c.if-owner-ne0.true refl

pub returns-else-owner-ne0 : goal.returns-else-owner-ne0
returns-else-owner-ne0 c = rw c.if-owner-ne0.false (nobody _ _ refl)
