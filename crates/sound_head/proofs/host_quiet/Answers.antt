-- `sound_head::host_quiet` meets its contract. Assumes nothing.
use borrow.Author.Tests.{eqb-true}
use Rattle.sound_head.proofs.Hosts.{quiet-host}
use Rattle.sound_head.proofs.host_quiet.Goals as goal

pub returns-then-high-low-eq0 : goal.returns-then-high-low-eq0
returns-then-high-low-eq0 c =
    λ e. quiet-host _ _ _ _ _ _ c.host_at-at.ensures c.word_at-high.ensures c.word_at-low.ensures c.if-high-low-eq0.true c.attentionq.ensures (eqb-true _ _ e)
