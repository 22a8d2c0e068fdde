-- `tables::first_transport` meets its contract. Assumes nothing.
use Rattle.rules.proofs.Ladder.{ladder}
use Rattle.std.proofs.Common.{rules}
use Rattle.tables.proofs.Roster.{lead-by}
use Rattle.tables.proofs.first_transport.Goals as goal

pub returns-then-leads : goal.returns-then-leads
returns-then-leads c = lead-by _ (search rules) _ (search ladder depth 10)

pub returns-then-leads-2 : goal.returns-then-leads-2
returns-then-leads-2 c = lead-by _ (search rules) _ (search ladder depth 10)

pub returns-then-leads-3 : goal.returns-then-leads-3
returns-then-leads-3 c = lead-by _ (search rules) _ (search ladder depth 10)

pub returns-then-leads-4 : goal.returns-then-leads-4
returns-then-leads-4 c = lead-by _ (search rules) _ (search ladder depth 10)

pub returns : goal.returns
returns c = lead-by _ (search rules) _ (search ladder depth 10)
