-- `tables::leads` meets its contract. Assumes nothing.
use borrow.Author.Tests.{ne_eqb}
use mathlib.Core.Path.{◌∙◌}
use Rattle.rules.specs.Choice.{differ}
use Rattle.tables.proofs.Roster.{lead-some, lead-other}
use Rattle.tables.proofs.leads.Goals as goal

pub returns-then-r-eq-TRANSPORT : goal.returns-then-r-eq-TRANSPORT
unfolding differ
returns-then-r-eq-TRANSPORT c = lead-some _ c.if-r-eq-TRANSPORT.true

pub returns-else-r-eq-TRANSPORT : goal.returns-else-r-eq-TRANSPORT
returns-else-r-eq-TRANSPORT c = ne_eqb _ _ c.if-r-eq-TRANSPORT.false ∙ lead-other _ c.if-r-eq-TRANSPORT.false
