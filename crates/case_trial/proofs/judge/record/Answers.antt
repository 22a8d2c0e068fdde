-- `case_trial::judge::record` meets its contract: the unit knows the hosts from 1 to 8. Assumes nothing.
use Rattle.std.proofs.Common.{Ok, refl, ap, rules, arith, tests}
use Rattle.case_trial.specs.Asked.{host_record}
use Rattle.rules.specs.Sound.{within}
use Rattle.case_rooms.proofs.Clamped.{sides}
use Rattle.rules.proofs.Ladder.{lt_not, le_is, le_not, all_yes, all_none}
use Rattle.case_trial.proofs.judge.record.Goals as goal

pub returns-then-not-contains : goal.returns-then-not-contains
unfolding host_record within
returns-then-not-contains c =
    lt_not _ _ _ _ _ c.if-head-lt-HEAD_SIZE.false
    (all_yes _ _ _ _ _
    (sides 1 c.args.host
    (λ low. le_is _ _ _ _ _ low (all_yes _ _ _ _ _ (le_not _ _ _ _ _ (search (rules, tests)) refl)))
    (λ below. le_not _ _ _ _ _ below refl)))

pub returns : goal.returns
unfolding host_record within
returns c =
    lt_not _ _ _ _ _ c.if-head-lt-HEAD_SIZE.false (all_yes _ _ _ _ _ (le_is _ _ _ _ _ (grind (arith, tests)) (all_yes _ _ _ _ _ (le_is _ _ _ _ _ (search (rules, tests)) (all_none _ _ _ (ap Ok c.told.ensures))))))
