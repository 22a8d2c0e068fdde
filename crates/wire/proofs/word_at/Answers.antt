-- `wire::word_at` meets its contract. Assumes nothing.
use Rattle.rules.specs.Bytes.{byte, word}
use borrow.Author.Rules.{rules}
use Rattle.wire.proofs.word_at.Goals as goal

pub returns : goal.returns
unfolding word byte
returns c = search rules
