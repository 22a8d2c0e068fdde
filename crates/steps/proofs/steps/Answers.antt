-- `steps::steps` meets its contract. Assumes nothing.
use Prim.Native.Nat.{ℕ}
use mathlib.Core.Path.{ap, sym, ◌∙◌}
use Rattle.std.proofs.Common.{rules}
use Rattle.admission.specs.declared.Barrier.TheVariants.{Faulty}
use Rattle.std.specs.Prelude.{Err}
use Rattle.rules.specs.Tables.{lent, bare}
use Rattle.rules.proofs.Rungs.{ends_as}
use Rattle.order.specs.Ending.{reason}
use Rattle.admission.proofs.Admissions.{is-pending, is_open}
use Rattle.steps.proofs.Ends.{pending-ends, held-ends, faulty-ends, open-ends}
use Rattle.steps.proofs.steps.Goals as goal

pub report-requires-clause-attentive : goal.report-requires-clause-attentive
report-requires-clause-attentive c = is-pending _ (lent _ _ bare) _ _ _ _ c.judge.ensures (c.in-Err-Pending.is ∙ ap Err c.in-Err-Pending.field-0-is)

pub act-requires-clause-no_fault : goal.act-requires-clause-no_fault
act-requires-clause-no_fault c = is_open _ (lent _ _ bare) _ _ _ _ c.judge.ensures c.in-Ok.is

pub returns-in-Err-Pending : goal.returns-in-Err-Pending
returns-in-Err-Pending c = ends_as _ _ (c.report.ensures _ _ _ _) (pending-ends _ (lent _ _ _) _ _ _ _ _ c.judge.ensures (c.in-Err-Pending.is ∙ ap Err c.in-Err-Pending.field-0-is))

pub returns-in-Err-Held : goal.returns-in-Err-Held
returns-in-Err-Held c = ends_as _ _ (search rules) (held-ends _ (lent _ _ _) _ _ _ _ _ c.judge.ensures (c.in-Err-Held.is ∙ ap Err c.in-Err-Held.field-0-is))

pub returns-in-Err-Faulty : goal.returns-in-Err-Faulty
unfolding reason
returns-in-Err-Faulty c = ends_as _ _ (c.refuse.ensures _ _ _) (faulty-ends _ (lent _ _ _) _ _ _ _ _ c.judge.ensures _ (c.in-Err-Faulty.is ∙ ap Err c.in-Err-Faulty.field-0-is ∙ ap (λ (n : ℕ). Err (Faulty n)) (sym c.in-Err-Faulty.at-is)))

pub returns-in-Ok : goal.returns-in-Ok
returns-in-Ok c = ends_as _ _ c.act.ensures (open-ends _ (lent _ _ _) _ _ _ _ _ c.judge.ensures c.in-Ok.is)
