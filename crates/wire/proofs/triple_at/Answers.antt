-- `wire::triple_at` meets its contract. Assumes nothing.
use Rattle.rules.specs.Bytes.{byte, triple}
use Rattle.wire.proofs.triple_at.Goals as goal

pub returns : goal.returns
unfolding triple byte
returns c = rw c.word_at.ensures at c.extend.ensures
