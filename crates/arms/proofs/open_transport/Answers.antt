-- `arms::open_transport`: the four runs, from the last to the first. Assumes nothing.
use native.Mathlib.Omega.{arith}
use mathlib.Core.Path.{◌∙◌}
use borrow.Author.Rules.{rules}
use Rattle.tables.proofs.Roster.{total-is}
use Rattle.arms.proofs.Open.{four_runs}
use Rattle.arms.proofs.open_transport.Goals as goal

pub open_in-in_fourth-requires : goal.open_in-in_fourth-requires
open_in-in_fourth-requires c = omega (arith, total-is _ (search rules) ∙ c.requires)

pub open_in-in_third-requires : goal.open_in-in_third-requires
open_in-in_third-requires c = omega (arith, total-is _ (search rules) ∙ c.requires)

pub open_in-in_second-requires : goal.open_in-in_second-requires
open_in-in_second-requires c = omega (arith, total-is _ (search rules) ∙ c.requires)

pub open_in-requires : goal.open_in-requires
open_in-requires c = omega (arith, total-is _ (search rules) ∙ c.requires)

pub returns : goal.returns
returns c =
    four_runs _ _ _ (let good = c.well_formed in search rules) _ _ _ _ _ (rw (← c.first_transport-first.ensures) c.open_in-in_fourth.ensures) c.open_in-in_third.ensures c.open_in-in_second.ensures c.open_in.ensures
