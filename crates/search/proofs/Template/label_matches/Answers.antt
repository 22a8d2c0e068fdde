-- `search::Template::label_matches` meets its contract. Assumes nothing.
use Rattle.rules.specs.Search.{label_matches}
use Rattle.rules.proofs.Ladder.{yes, all_yes, ladder}
use Rattle.rules.proofs.Rungs.{as-choice, last-of-all}
use Rattle.search.proofs.Template.label_matches.Goals as goal

pub returns-then-agrees : goal.returns-then-agrees
unfolding label_matches
returns-then-agrees c = as-choice _ _ (all_yes _ _ _ _ _ (yes _ _ _ _ _ c.agrees.ensures c.if-agrees.true (rw c.in_range.ensures (last-of-all _))))

pub returns : goal.returns
unfolding label_matches
returns c = as-choice _ _ (search ladder depth 10)
