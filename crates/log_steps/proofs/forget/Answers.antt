-- `log_steps::forget` meets its contract. Assumes nothing.
use mathlib.Core.Path.{sym, ◌∙◌}
use Rattle.rules.specs.Tables.{lent}
use Rattle.log_steps.proofs.Ends.{attention-cleared, sense-cleared}
use Rattle.log_steps.proofs.forget.Goals as goal

pub returns-then-tells_attention : goal.returns-then-tells_attention
returns-then-tells_attention c =
    λ elements rest block. attention-cleared (lent _ elements rest) _ block (sym c.tells_attention.ensures ∙ c.if-tells_attention.true) _ c.attend.ensures

pub returns : goal.returns
returns c =
    λ elements rest block. sense-cleared (lent _ elements rest) _ block (sym c.tells_attention.ensures ∙ c.if-tells_attention.false) _ c.wipe.ensures
