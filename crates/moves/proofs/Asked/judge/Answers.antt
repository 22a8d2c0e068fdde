-- `moves::Asked::judge` meets its contract. Assumes nothing.
use mathlib.Core.Path.{refl}
use Rattle.tables.proofs.LookUp.{at-yes, at-no}
use Rattle.moves.specs.Judged.{spots, judged_by}
use Rattle.moves.proofs.Answers.{arm-by, at-record}
use Rattle.moves.proofs.Asked.judge.Goals as goal

pub returns-in_default-clause-value : goal.returns-in_default-clause-value
unfolding judged_by
returns-in_default-clause-value c = at-no _ _ _ _ _ (arm-by _ _ _ _ _ _ c.arm_of.ensures c.address.ensures) c.in_default.is refl

pub move_spots-requires-clause-arm_bound : goal.move_spots-requires-clause-arm_bound
move_spots-requires-clause-arm_bound c = at-record _ _ _ _ _ _ c.requires.runs_len c.arm_of.ensures c.in-Some.is

pub exchange_spots-requires-clause-arm_bound : goal.exchange_spots-requires-clause-arm_bound
exchange_spots-requires-clause-arm_bound c = at-record _ _ _ _ _ _ c.requires.runs_len c.arm_of.ensures c.in-Some.is

pub returns-in-Move-clause-value : goal.returns-in-Move-clause-value
unfolding judged_by spots
returns-in-Move-clause-value c =
    at-yes _ _ _ _ _ _ (arm-by _ _ _ _ _ _ c.arm_of.ensures c.address.ensures) c.in-Some.is
    (rw c.in-Move.is c.move_spots.ensures.value)

pub returns-in-Exchange-clause-value : goal.returns-in-Exchange-clause-value
unfolding judged_by spots
returns-in-Exchange-clause-value c =
    at-yes _ _ _ _ _ _ (arm-by _ _ _ _ _ _ c.arm_of.ensures c.address.ensures) c.in-Some.is
    (rw c.in-Exchange.is c.exchange_spots.ensures.value)
