-- `search::alike` meets its contract. Assumes nothing.
use Rattle.rules.proofs.Rungs.{rungs}
use Rattle.search.proofs.alike.Goals as goal

pub returns-then-wanted-eq-ANY_CHARACTER : goal.returns-then-wanted-eq-ANY_CHARACTER
returns-then-wanted-eq-ANY_CHARACTER c = search rungs depth 5

pub returns : goal.returns
returns c = search rungs depth 5
