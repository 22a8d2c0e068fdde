-- `tables::insert_first` meets its contract. Assumes nothing.
use Rattle.std.proofs.Common.{rules}
use Rattle.tables.proofs.Sort.{first-first, first-second, first-third, first-fourth}
use Rattle.tables.proofs.insert_first.Goals as goal

pub returns-then-a-b : goal.returns-then-a-b
returns-then-a-b c = first-first _ (search rules) c.if-a-b.true

pub returns-then-a-c : goal.returns-then-a-c
returns-then-a-c c = first-second _ (search rules) c.if-a-b.false c.if-a-c.true

pub returns-then-a-d : goal.returns-then-a-d
returns-then-a-d c = first-third _ (search rules) c.if-a-b.false c.if-a-c.false c.if-a-d.true

pub returns : goal.returns
returns c = first-fourth _ (search rules) c.if-a-b.false c.if-a-c.false c.if-a-d.false
