-- `mode::transports` meets its contract. Assumes nothing.
use Rattle.rules.specs.Roster.{range}
use borrow.Author.Rules.{rules}
use Rattle.mode.proofs.transports.Goals as goal

pub returns : goal.returns
unfolding range
returns c = record { value = c.word_at.ensures; upper_bound = search rules }
