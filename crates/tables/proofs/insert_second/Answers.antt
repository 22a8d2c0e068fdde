-- `tables::insert_second` meets its contract. Assumes nothing.
use Rattle.std.proofs.Common.{rules}
use Rattle.tables.proofs.Sort.{second-first, second-second, second-third}
use Rattle.tables.proofs.insert_second.Goals as goal

pub returns-then-b-c : goal.returns-then-b-c
returns-then-b-c c = second-first _ (search rules) c.if-b-c.true

pub returns-then-b-d : goal.returns-then-b-d
returns-then-b-d c = second-second _ (search rules) c.if-b-c.false c.if-b-d.true

pub returns : goal.returns
returns c = second-third _ (search rules) c.if-b-c.false c.if-b-d.false
