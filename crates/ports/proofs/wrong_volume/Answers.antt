-- `ports::wrong_volume` meets its contract. Assumes nothing.
use mathlib.Core.Path.{sym, ap, ◌∙◌}
use Rattle.rules.specs.Tables.{volumes}
use Rattle.ports.proofs.Judging.{wrong-zero, wrong-above, wrong-present}
use Rattle.ports.proofs.wrong_volume.Goals as goal

pub returns-then-volume-eq0 : goal.returns-then-volume-eq0
returns-then-volume-eq0 c = λ head rest e. wrong-zero _ _ c.if-volume-eq0.true

pub returns-then-volumes-volume : goal.returns-then-volumes-volume
returns-then-volumes-volume c = λ head rest e. wrong-above _ _ _ (c.volumes.ensures ∙ ap volumes (sym e)) c.if-volumes-volume.true

pub returns : goal.returns
returns c = λ head rest e. wrong-present _ _ _ (c.volumes.ensures ∙ ap volumes (sym e)) c.if-volume-eq0.false c.if-volumes-volume.false _ c.present.ensures
