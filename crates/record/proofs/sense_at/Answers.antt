-- `record::sense_at` meets its contract. Assumes nothing.
use Rattle.rules.specs.Bytes.{byte}
use borrow.Author.Rules.{rules}
use Rattle.record.proofs.sense_at.Goals as goal

pub returns : goal.returns
unfolding byte
returns c = search rules
