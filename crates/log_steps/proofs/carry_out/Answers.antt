-- `log_steps::carry_out` meets its contract. Assumes nothing.
use mathlib.Core.Path.{ap, ◌∙◌}
use mathlib.Core.List.{[]}
use Rattle.std.specs.Prelude.{Err}
use Rattle.rules.specs.Tables.{lent, searching, bare}
use Rattle.rules.specs.Order.{refused}
use Rattle.order.specs.Ending.{reason}
use Rattle.admission.specs.Admitting.{on_admission}
use Rattle.admission.proofs.Admissions.{is-pending}
use Rattle.log_steps.proofs.Ends.{left_by, admits}
use Rattle.log_steps.proofs.carry_out.Goals as goal

pub report-requires-clause-attentive : goal.report-requires-clause-attentive
report-requires-clause-attentive c =
    is-pending _ (lent _ _ bare) _ _ _ _ c.judge.ensures (c.in-Err-Pending.is ∙ ap Err c.in-Err-Pending.field-0-is)

pub returns-in-Err-Pending : goal.returns-in-Err-Pending
unfolding on_admission
returns-in-Err-Pending c =
    λ rest g l. admits _ (lent _ _ (searching rest _)) _ _ _ _ _ c.judge.ensures _ (c.in-Err-Pending.is ∙ ap Err c.in-Err-Pending.field-0-is) (left_by (lent _ _ (searching rest _)) [] _ _ (c.report.ensures _ (searching rest _) [] _))

pub returns-in-Err-Held : goal.returns-in-Err-Held
unfolding on_admission
returns-in-Err-Held c =
    λ rest g l. admits _ (lent _ _ (searching rest _)) _ _ _ _ _ c.judge.ensures _ (c.in-Err-Held.is ∙ ap Err c.in-Err-Held.field-0-is) (left_by (lent _ _ (searching rest _)) [] _ _ (c.conflict.ensures _ (searching rest _) []))

pub returns-in-Err-Faulty : goal.returns-in-Err-Faulty
unfolding on_admission reason refused
returns-in-Err-Faulty c =
    λ rest g l. admits _ (lent _ _ (searching rest _)) _ _ _ _ _ c.judge.ensures _ (c.in-Err-Faulty.is ∙ ap Err c.in-Err-Faulty.field-0-is) (left_by (lent _ _ (searching rest _)) [] _ _ (c.refuse.ensures _ (searching rest _) []))

pub returns-in-Ok : goal.returns-in-Ok
unfolding on_admission
returns-in-Ok c =
    λ rest g l. admits _ (lent _ _ (searching rest _)) _ _ _ _ _ c.judge.ensures _ c.in-Ok.is (c.command.ensures rest g l)
