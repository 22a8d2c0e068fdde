-- `admission::judge` meets its contract. Assumes nothing.
use Rattle.rules.proofs.Ladder.{ladder, no}
use Rattle.admission.specs.Admitting.{admission}
use Rattle.admission.proofs.Admissions.{faulty, unbarred}
use Rattle.admission.proofs.judge.Goals as goal

pub returns-then-pending : goal.returns-then-pending
unfolding admission
returns-then-pending c = search ladder depth 10

pub returns-then-held : goal.returns-then-held
unfolding admission
returns-then-held c = search ladder depth 10

pub returns-in-Some : goal.returns-in-Some
unfolding admission
returns-in-Some c =
    no _ _ _ _ _ c.pending.ensures c.if-pending.false (no _ _ _ _ _ c.held.ensures c.if-held.false (faulty _ _ c.fault.ensures _ c.in-Some.is))

pub returns-in-None : goal.returns-in-None
unfolding admission
returns-in-None c =
    no _ _ _ _ _ c.pending.ensures c.if-pending.false (no _ _ _ _ _ c.held.ensures c.if-held.false (unbarred _ _ c.fault.ensures c.in-None.is))
