-- `fitting::takes` meets its contract. Assumes nothing.
use borrow.Author.Rules.{rules}
use borrow.Author.Tests.{lt-leb}
use mathlib.Core.Path.{◌∙◌}
use Rattle.fitting.proofs.Bit.{none_above, bit-of}
use Rattle.fitting.proofs.takes.Goals as goal

pub returns-then-generation-le-MOST_GENERATIONS : goal.returns-then-generation-le-MOST_GENERATIONS
returns-then-generation-le-MOST_GENERATIONS c = bit-of _ _ _ c.saturating_sub.ensures

pub returns-else-generation-le-MOST_GENERATIONS : goal.returns-else-generation-le-MOST_GENERATIONS
returns-else-generation-le-MOST_GENERATIONS c = lt-leb _ _ c.if-generation-le-MOST_GENERATIONS.false ∙ none_above _ _ (search rules) c.if-generation-le-MOST_GENERATIONS.false
