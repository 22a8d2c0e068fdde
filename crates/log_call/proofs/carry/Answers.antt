-- `log_call::carry` meets its contract. Assumes nothing.
use mathlib.Core.Path.{ap, ◌∙◌}
use Rattle.rules.specs.Tables.{lent}
use Rattle.rules.specs.Replay.{turn_on}
use Rattle.events.proofs.Events.{possible}
use Rattle.log_call.proofs.Supply.{importable}
use Rattle.log_call.proofs.Events.{nothing-done, event-done}
use Rattle.log_call.proofs.Lines.{of-event, of-command}
use Rattle.log_call.proofs.carry.Goals as goal

pub returns-then-host-ne0 : goal.returns-then-host-ne0
returns-then-host-ne0 c =
    λ rest e g s. of-command (lent _ _ _) _ _ _ e c.if-host-ne0.true _ (c.obey.ensures rest g s)

pub occur-requires-clause-possible : goal.occur-requires-clause-possible
occur-requires-clause-possible c =
    let k = c.requires in
    possible _ _ _ _ _ (importable _ _ _ _ k.rest k.given k.sound-now _ k.runs-are)

pub returns-in-Some : goal.returns-in-Some
returns-in-Some c =
    λ rest e g s. event-done (lent _ _ _) e _ _ (c.occur.ensures rest g.tags-is s)
    ∙ ap (turn_on _ e) (c.in-Some.ensures e)
    ∙ of-event (lent _ _ _) _ c.args.block.now c.args.list.now e c.if-host-ne0.false

pub returns-in-None : goal.returns-in-None
returns-in-None c =
    λ rest e g s. nothing-done (lent _ _ _) e
    ∙ ap (turn_on _ e) (c.in-None.ensures e)
    ∙ of-event (lent _ _ _) _ c.args.block.now c.args.list.now e c.if-host-ne0.false
