-- `serving::command` meets its contract. Assumes nothing.
use Rattle.std.proofs.Common.{rules}
use native.Mathlib.Omega.{arith}
use mathlib.Core.Path.{◌≡◌, refl, sym, ◌∙◌}
use Rattle.rules.specs.Bytes.{byte}
use Rattle.rules.specs.Tables.{lent}
use Rattle.rules.specs.Command.{judge, after_numbers, judged}
use Rattle.rules.proofs.Ladder.{yes, no}
use Rattle.rules.proofs.Rungs.{ends_as}
use Rattle.operation.proofs.Lengths.{some}
use Rattle.order.specs.Ending.{numbered}
use Rattle.acts.proofs.Supply.{suited}
use Rattle.serving.proofs.Supply.{head-whole, search-whole}
use Rattle.serving.proofs.Ends.{number-ends, fitting, fit_is, steps-are, command-is}
use Rattle.serving.proofs.command.Goals as goal

pub returns-in_default : goal.returns-in_default
unfolding judge judged after_numbers byte numbered
returns-in_default c =
    number-ends (lent _ _ _) _ 1 _ _ c.numbered.ensures (no _ _ _ _ _ refl (sym c.in_default.ensures.value) refl) ∙ command-is _ _ _ _ _

pub returns-in_default-host_of : goal.returns-in_default-host_of
unfolding judge judged after_numbers byte numbered
returns-in_default-host_of c =
    number-ends (lent _ _ _) _ 2 _ _ c.numbered-in_default-host_of.ensures
    (yes _ _ _ _ _ refl (sym c.in-Some.ensures.value)
    (no _ _ _ _ _ refl c.in_default-host_of.ensures refl))
    ∙ command-is _ _ _ _ _

pub returns-then-not-block_fits : goal.returns-then-not-block_fits
unfolding judge judged after_numbers byte numbered
returns-then-not-block_fits c =
    number-ends (lent _ _ _) _ 3 _ _ c.numbered-then-not-block_fits.ensures
    (yes _ _ _ _ _ refl (sym c.in-Some.ensures.value)
    (yes _ _ _ _ _ refl c.in-Some-host_of.ensures.0
    (no _ _ _ _ _ c.block_fits.ensures c.if-not-block_fits.true refl)))
    ∙ command-is _ _ _ _ _

pub bounds-block-0 : goal.bounds-block-0
bounds-block-0 c = some _ (sym c.block_fits.ensures ∙ c.if-not-block_fits.false)

pub parameters_fit-requires : goal.parameters_fit-requires
unfolding byte
parameters_fit-requires c = fitting _ _ c.decode-op.ensures (sym c.block_fits.ensures ∙ c.if-not-block_fits.false)

pub returns-then-not-parameters_fit : goal.returns-then-not-parameters_fit
unfolding judge judged after_numbers byte numbered
returns-then-not-parameters_fit c =
    number-ends (lent _ _ _) _ 4 _ _ c.numbered-then-not-parameters_fit.ensures
    (yes _ _ _ _ _ refl (sym c.in-Some.ensures.value)
    (yes _ _ _ _ _ refl c.in-Some-host_of.ensures.0
    (yes _ _ _ _ _ c.block_fits.ensures c.if-not-block_fits.false
    (no _ _ _ _ _ (fit_is _ _ c.decode-op.ensures _ _ c.parameters_fit.ensures) c.if-not-parameters_fit.true refl))))
    ∙ command-is _ _ _ _ _

pub unwrap-requires : goal.unwrap-requires
unwrap-requires c = c.as_mut_array.ensures.variant.1 (search-whole _ _ _ (sym c.in-Some.ensures.value))

pub steps-requires-clause-head_long : goal.steps-requires-clause-head_long
steps-requires-clause-head_long c = omega (arith, head-whole _ _ _ (sym c.in-Some.ensures.value))

pub steps-requires-clause-served : goal.steps-requires-clause-served
unfolding byte
steps-requires-clause-served c =
    let k : c.unwrap.result.now ≡ c.args.search.now = search rules in
    rw k (record {
      suited = suited _ _ _ _ (sym c.in-Some.ensures.value) _ c.in-Some.ensures.runs;
      fitting = fitting _ _ c.decode-op.ensures (sym c.block_fits.ensures ∙ c.if-not-block_fits.false);
    })

pub returns : goal.returns
unfolding judge judged after_numbers byte
returns c =
    let k : c.unwrap.result.now ≡ c.args.search.now = search rules in
    ends_as _ _ (rw (k, c.in-Some-host_of.ensures.1) at c.steps.ensures)
    (yes _ _ _ _ _ refl (sym c.in-Some.ensures.value)
    (yes _ _ _ _ _ refl c.in-Some-host_of.ensures.0
    (yes _ _ _ _ _ c.block_fits.ensures c.if-not-block_fits.false
    (yes _ _ _ _ _ (fit_is _ _ c.decode-op.ensures _ _ c.parameters_fit.ensures) c.if-not-parameters_fit.false
    (steps-are _ _ c.decode-op.ensures _ _ _ _)))))
    ∙ command-is _ _ _ _ _
