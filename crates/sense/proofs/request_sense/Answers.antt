-- `sense::request_sense` meets its contract. Assumes nothing.
use mathlib.Core.Path.{refl, ap, ◌∙◌}
use Rattle.std.specs.Prelude.{Ok, Err}
use Rattle.rules.specs.Order.{outcome}
use Rattle.order.specs.Ending.{numbered}
use Rattle.sense.specs.Judged.{meaning}
use Rattle.sense.proofs.Answering.{by_answer}
use Rattle.sense.proofs.request_sense.Goals as goal

pub tell_attention-requires : goal.tell_attention-requires
tell_attention-requires c =
    let told = c.in-Ok-Attention in
    let w = rw (told.is, told.field-0-is) at c.judge.ensures.within in
    let pre = c.requires in
    record { head_long = pre.head_long; host_known = pre.host_known; count_le_whole = w.0; count_in_bounds = w.1 }

pub tell_sense-requires : goal.tell_sense-requires
tell_sense-requires c =
    let told = c.in-Ok-Sense in
    let w = rw (told.is, told.field-0-is) at c.judge.ensures.within in
    let pre = c.requires in
    record { head_long = pre.head_long; host_known = pre.host_known; count_le_whole = w.0; count_in_bounds = w.1 }

pub returns-in-Ok-Attention : goal.returns-in-Ok-Attention
returns-in-Ok-Attention c = λ elements rest.
    by_answer _ _ _ _ _ _ _ c.judge.ensures.value (c.in-Ok-Attention.is ∙ ap Ok c.in-Ok-Attention.field-0-is) (c.tell_attention.ensures elements rest)

pub returns-in-Ok-Sense : goal.returns-in-Ok-Sense
returns-in-Ok-Sense c = λ elements rest.
    by_answer _ _ _ _ _ _ _ c.judge.ensures.value (c.in-Ok-Sense.is ∙ ap Ok c.in-Ok-Sense.field-0-is) (c.tell_sense.ensures elements rest)

pub returns-in-Err : goal.returns-in-Err
unfolding meaning outcome numbered
returns-in-Err c = λ elements rest.
    let short = rw c.in-Err.is at c.judge.ensures.within in
    by_answer _ _ _ _ _ _ _ c.judge.ensures.value (c.in-Err.is ∙ ap Err short) (rw (c.numbered.ensures, short) refl)
