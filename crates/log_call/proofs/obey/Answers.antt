-- `log_call::obey` meets its contract. Assumes nothing.
use mathlib.Core.Path.{sym, ◌∙◌}
use Rattle.rules.specs.Bytes.{byte}
use Rattle.operation.proofs.Lengths.{some}
use Rattle.serving.proofs.Ends.{fitting, fit_is}
use Rattle.log_call.proofs.Supply.{ready, counts, listable}
use Rattle.log_call.proofs.Commands.{no-host, no_block, no-list, obeyed}
use Rattle.log_call.proofs.obey.Goals as goal

pub returns-in_default : goal.returns-in_default
returns-in_default c = λ rest g s. no-host _ _ _ _ s (rw c.from.ensures at c.in_default.ensures)

pub returns-then-not-block_fits : goal.returns-then-not-block_fits
returns-then-not-block_fits c =
    λ rest g s. no_block _ _ _ _ s (rw c.from.ensures at c.in-Some.ensures.0) _ c.block_fits.ensures c.if-not-block_fits.true

pub bounds-block-0 : goal.bounds-block-0
bounds-block-0 c =
    some _ (sym c.block_fits.ensures ∙ c.if-not-block_fits.false)

pub parameters_fit-requires : goal.parameters_fit-requires
unfolding byte
parameters_fit-requires c =
    fitting _ _ c.decode-op.ensures (sym c.block_fits.ensures ∙ c.if-not-block_fits.false)

pub returns-then-not-parameters_fit : goal.returns-then-not-parameters_fit
unfolding byte
returns-then-not-parameters_fit c =
    λ rest g s. no-list _ _ _ _ s (rw c.from.ensures at c.in-Some.ensures.0) _ c.block_fits.ensures c.if-not-block_fits.false _ (fit_is _ _ c.decode-op.ensures _ _ c.parameters_fit.ensures) c.if-not-parameters_fit.true

pub carry_out-requires-clause-recorded : goal.carry_out-requires-clause-recorded
unfolding byte
carry_out-requires-clause-recorded c =
    let k = c.requires in
    record {
      ready = ready _ _ _ _ k.rest k.given k.sound-now _ k.runs-are;
      counts = λ twelve. counts _ _ _ _ k.rest k.given k.sound-now _ k.runs-are;
      fitting = fitting _ _ c.decode-op.ensures (sym c.block_fits.ensures ∙ c.if-not-block_fits.false);
    }

pub returns : goal.returns
unfolding byte
returns c =
    let fits = fitting _ _ c.decode-op.ensures (sym c.block_fits.ensures ∙ c.if-not-block_fits.false) in
    λ rest g s. obeyed _ _ _ _ s (rw c.from.ensures at c.in-Some.ensures.0) _ c.block_fits.ensures c.if-not-block_fits.false _ (fit_is _ _ c.decode-op.ensures _ _ c.parameters_fit.ensures) c.if-not-parameters_fit.false _ fits.decoded _ (c.in-Some.ensures.1 ∙ c.from.ensures) _ (c.carry_out.ensures rest g (listable _ _ _ _ rest g s _ c.requires.runs-are))
