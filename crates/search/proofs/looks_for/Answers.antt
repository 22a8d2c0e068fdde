-- `search::looks_for` meets its contract. Assumes nothing.
use Rattle.rules.specs.Listing.{of_type}
use Rattle.rules.specs.Tables.{action, search_type}
use Rattle.rules.specs.Bytes.{byte}
use Rattle.rules.proofs.Rungs.{as-choice}
use Rattle.rules.proofs.Ladder.{ladder}
use Rattle.search.specs.Marks.{looks_for}
use Rattle.search.proofs.Matching.{looks-last}
use Rattle.search.proofs.looks_for.Goals as goal

pub returns-then-search-eq0 : goal.returns-then-search-eq0
unfolding looks_for action byte
returns-then-search-eq0 c = λ address place. as-choice _ _ (search ladder depth 10)

pub returns-then-search-eq0-2 : goal.returns-then-search-eq0-2
unfolding looks_for of_type action search_type byte
returns-then-search-eq0-2 c = λ address place. as-choice _ _ (search ladder depth 10)

pub returns : goal.returns
unfolding action search_type byte
returns c = λ address place. looks-last _ _ c.if-search-eq0.false c.if-search-eq0-2.false
