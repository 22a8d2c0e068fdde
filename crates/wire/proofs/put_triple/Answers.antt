-- `wire::put_triple` meets its contract. Assumes nothing.
use Rattle.rules.specs.Bytes.{three}
use borrow.Author.Rules.{rules}
use Rattle.wire.proofs.put_triple.Goals as goal

pub returns : goal.returns
unfolding three
returns c = search rules
