-- `search::begin` meets its contract. Assumes nothing.
use borrow.Author.Rules.{rules}
use Rattle.rules.specs.Search.{action_code}
use Rattle.rules.specs.Listing.{type_code}
use Rattle.rules.specs.Bytes.{byte}
use Rattle.search.proofs.Beginning.{begun}
use Rattle.search.proofs.begin.Goals as goal

pub returns : goal.returns
unfolding type_code action_code byte
returns c =
    begun _ _ _ _ _ _ _ _ _ (search rules) (search rules) c.word_at-start.ensures c.copy.ensures c.put.ensures
    c.put-2.ensures c.put-3.ensures c.put_triple.ensures
