-- `search::in_range` meets its contract. Assumes nothing.
use Rattle.rules.specs.Tables.{action, least, greatest}
use Rattle.rules.specs.Bytes.{byte}
use Rattle.search.proofs.Matching.{range-any, range-low, range-high}
use Rattle.search.proofs.in_range.Goals as goal

pub returns-then-search-ne-IN_RANGE : goal.returns-then-search-ne-IN_RANGE
unfolding action byte
returns-then-search-ne-IN_RANGE c = range-any _ _ c.if-search-ne-IN_RANGE.true

pub returns-then-word_at-number : goal.returns-then-word_at-number
unfolding action least byte
returns-then-word_at-number c =
    range-low _ _ c.if-search-ne-IN_RANGE.false _ _ c.word_at-number.ensures c.word_at.ensures c.if-word_at-number.true

pub returns : goal.returns
unfolding action least greatest byte
returns c =
    range-high _ _ c.if-search-ne-IN_RANGE.false _ _ c.word_at-number.ensures c.word_at.ensures c.if-word_at-number.false _ c.word_at-2.ensures
