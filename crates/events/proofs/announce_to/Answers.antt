-- `events::announce_to` meets its contract. Assumes nothing.
use mathlib.Core.Path.{refl}
use Rattle.rules.specs.Tables.{announced_to}
use Rattle.rules.proofs.Ladder.{eq_yes, eq_no}
use Rattle.events.proofs.announce_to.Goals as goal

pub returns-then-attention-eq0 : goal.returns-then-attention-eq0
unfolding announced_to
returns-then-attention-eq0 c = eq_yes _ _ _ _ _ _ c.attention.ensures c.if-attention-eq0.true c.attend.ensures

pub returns-else-attention-eq0 : goal.returns-else-attention-eq0
unfolding announced_to
returns-else-attention-eq0 c = eq_no _ _ _ _ _ _ c.attention.ensures c.if-attention-eq0.false refl
