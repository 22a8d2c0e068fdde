-- `moves::medium` meets its contract. Assumes nothing.
use mathlib.Core.Path.{refl}
use Rattle.rules.proofs.Rungs.{ends_as}
use Rattle.moves.specs.Judged.{meaning}
use Rattle.moves.proofs.Carried.{records-are, judged-is, judged-able}
use Rattle.moves.proofs.medium.Goals as goal

pub judge-requires-clause-runs_len : goal.judge-requires-clause-runs_len
judge-requires-clause-runs_len c = records-are _ _ _ c.requires.ready

pub carry_out-requires-clause-able : goal.carry_out-requires-clause-able
carry_out-requires-clause-able c =
    let told = c.in-Ok.ensures in
    judged-able _ _ _ c.requires.ready _ _ _ _ _ _ told.value _ refl told.within

pub returns-in-Ok : goal.returns-in-Ok
unfolding meaning
returns-in-Ok c =
    λ rest buffer g m.
    ends_as _ buffer (c.carry_out.ensures rest buffer) (judged-is _ _ _ c.requires.ready _ _ _ _ _ _ c.in-Ok.ensures.value rest g m)

pub returns-in-Err : goal.returns-in-Err
unfolding meaning
returns-in-Err c =
    λ rest buffer g m.
    ends_as _ buffer (c.refused.ensures _ rest buffer) (judged-is _ _ _ c.requires.ready _ _ _ _ _ _ c.in-Err.ensures.value rest g m)
