-- `search::reserved` meets its contract. Assumes nothing.
use Rattle.rules.specs.Search.{reserved_tags}
use Rattle.rules.specs.Choice.{differ}
use Rattle.rules.specs.Bytes.{byte}
use Rattle.rules.proofs.Ladder.{differ-not, any-yes, ladder}
use Rattle.rules.proofs.Rungs.{as-choice, last-of-any}
use Rattle.search.proofs.reserved.Goals as goal

pub returns-then-list-ne0 : goal.returns-then-list-ne0
unfolding reserved_tags byte
returns-then-list-ne0 c = as-choice _ _ (search ladder depth 12)

pub returns-then-list-ne0-2 : goal.returns-then-list-ne0-2
unfolding reserved_tags byte
returns-then-list-ne0-2 c = as-choice _ _ (search ladder depth 12)

pub returns-then-list-ne0-3 : goal.returns-then-list-ne0-3
unfolding reserved_tags byte
returns-then-list-ne0-3 c = as-choice _ _ (search ladder depth 12)

pub returns : goal.returns
unfolding reserved_tags byte differ
returns c =
    as-choice _ _
    (any-yes _ _ _ _ _ (differ-not _ _ _ _ _ c.if-list-ne0.false
    (any-yes _ _ _ _ _ (differ-not _ _ _ _ _ c.if-list-ne0-2.false
    (any-yes _ _ _ _ _ (differ-not _ _ _ _ _ c.if-list-ne0-3.false (last-of-any _)))))))
