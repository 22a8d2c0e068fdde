-- `mode::mode_sense` meets its contract. Assumes nothing.
use mathlib.Core.Path.{refl, ap, ◌∙◌}
use Rattle.std.specs.Prelude.{Err}
use Rattle.rules.specs.Bytes.{byte}
use Rattle.rules.specs.Order.{outcome}
use Rattle.order.specs.Ending.{numbered}
use Rattle.mode.specs.Judged.{meaning}
use Rattle.mode.proofs.Answering.{no_more, by_answer}
use Rattle.mode.proofs.mode_sense.Goals as goal

pub tell-requires : goal.tell-requires
tell-requires c =
    let w = rw c.in-Ok.is at c.judge.ensures.within in
    let pre = c.requires in
    record { head_long = pre.head_long; host_known = pre.host_known; code_len_bound = rw c.page_code-code.ensures (no_more _ _ pre.answered); count_in_bounds = w }

pub returns-in-Ok : goal.returns-in-Ok
unfolding byte
returns-in-Ok c = λ elements rest.
    by_answer _ _ _ _ _ _ _ _ _ c.page_code-code.ensures refl c.judge.ensures.value c.in-Ok.is (c.tell.ensures elements rest)

pub returns-in-Err : goal.returns-in-Err
unfolding meaning outcome byte numbered
returns-in-Err c = λ elements rest.
    let short = rw c.in-Err.is at c.judge.ensures.within in
    by_answer _ _ _ _ _ _ _ _ _ c.page_code-code.ensures refl c.judge.ensures.value (c.in-Err.is ∙ ap Err short) (rw (c.numbered.ensures, short) refl)
