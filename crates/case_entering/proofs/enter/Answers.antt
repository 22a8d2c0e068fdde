-- `case_entering::enter` meets its contract: a command by its entry, and an event beside the answer buffer. Assumes nothing.
use mathlib.Core.Path.{◌∙◌}
use Rattle.case_entering.proofs.Entering.{beside-it}
use Rattle.case_entering.specs.Called.{called}
use borrow.Author.Rules.{rules}
use Rattle.case_entering.proofs.enter.Goals as goal

pub returns-in-Command : goal.returns-in-Command
unfolding called
returns-in-Command c = search rules

pub returns-in_default : goal.returns-in_default
unfolding called
returns-in_default c = beside-it _ _ _ _ (c.event-in_default.ensures ∙ c.event.ensures _) ∙ search rules
