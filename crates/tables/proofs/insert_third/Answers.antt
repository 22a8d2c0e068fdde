-- `tables::insert_third` meets its contract. Assumes nothing.
use Rattle.std.proofs.Common.{rules}
use Rattle.tables.proofs.Sort.{third-first, third-second}
use Rattle.tables.proofs.insert_third.Goals as goal

pub returns-then-c-d : goal.returns-then-c-d
returns-then-c-d c = third-first _ (search rules) c.if-c-d.true

pub returns : goal.returns
returns c = third-second _ (search rules) c.if-c-d.false
