-- `tables::admits` meets its contract. Assumes nothing.
use Rattle.rules.specs.Choice.{differ}
use Rattle.tables.specs.LookUp.{admits}
use Rattle.tables.proofs.admits.Goals as goal

pub returns-in-Any : goal.returns-in-Any
unfolding admits differ
returns-in-Any c = rw c.in-Any.is

pub returns-in-Transport : goal.returns-in-Transport
unfolding admits
returns-in-Transport c = rw c.in-Transport.is

pub returns-in-Port : goal.returns-in-Port
unfolding admits
returns-in-Port c = rw c.in-Port.is
