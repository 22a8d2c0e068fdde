-- `sound::check`: a head of another length is no head. Assumes nothing.
use Rattle.std.proofs.Common.{is_some, ap, ◌∙◌}
use Rattle.sound.proofs.Whole.{no_head}
use Rattle.sound.proofs.check.Goals as goal

pub returns-in_err-head-clause-value : goal.returns-in_err-head-clause-value
returns-in_err-head-clause-value c = ap is_some c.from_residual.ensures ∙ no_head _ _ _ c.in_err-head.ensures.cases
