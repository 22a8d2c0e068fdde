-- `search::forget` meets its contract. Assumes nothing.
use Rattle.rules.specs.Search.{no_search}
use Rattle.search.proofs.forget.Goals as goal

pub returns : goal.returns
unfolding no_search
returns c = c.copy.ensures
