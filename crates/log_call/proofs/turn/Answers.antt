-- `log_call::turn` meets its contract. Assumes nothing.
use Rattle.rules.specs.Tables.{lent}
use Rattle.log_call.proofs.Lines.{another-form, another-number, carried}
use Rattle.log_call.proofs.turn.Goals as goal

pub returns-in_err-line-clause-search_after : goal.returns-in_err-line-clause-search_after
returns-in_err-line-clause-search_after c =
    λ rest g s. rw c.from_residual.ensures (another-form _ (lent _ _ _) _ c.in_err-line.ensures.list_after)

pub returns-then-line-expected-clause-search_after : goal.returns-then-line-expected-clause-search_after
returns-then-line-expected-clause-search_after c =
    λ rest g s. another-number _ _ _ c.in_ok-line.line c.in_ok-line.ensures.list_after (lent _ _ _) _ c.if-line-expected.true

pub returns-then-not-carry-clause-search_after : goal.returns-then-not-carry-clause-search_after
returns-then-not-carry-clause-search_after c =
    λ rest g s. carried _ _ _ c.in_ok-line.line c.in_ok-line.ensures.list_after (lent _ _ _) _ c.if-line-expected.false _ (lent _ _ _) (c.carry.ensures rest _ g s) _ c.if-not-carry.true

pub returns-clause-search_after : goal.returns-clause-search_after
returns-clause-search_after c =
    λ rest g s. carried _ _ _ c.in_ok-line.line c.in_ok-line.ensures.list_after (lent _ _ _) _ c.if-line-expected.false _ (lent _ _ _) (c.carry.ensures rest _ g s) _ c.if-not-carry.false
