-- `holds::conflicts`: the descriptors before this one name no taken element, nor do the places before this one. Assumes nothing.
use native.Mathlib.Omega.{arith}
use mathlib.Core.Path.{refl, sym, ◌∙◌}
use Rattle.rules.proofs.Loops.{failed-none, failed-more, found-there, found_nowhere}
use Rattle.holds.specs.Judged.{taken_in, taken_of}
use Rattle.holds.proofs.conflicts.Goals as goal

pub loop-place-init : goal.loop-place-init
loop-place-init c = (c.judged.invariant.0, failed-none _ _)

pub loop-place-preserved : goal.loop-place-preserved
loop-place-preserved c = (c.loop-place.invariant.0, failed-more _ _ _ c.loop-place.invariant.1 (sym c.taken_at.ensures ∙ c.if-taken_at.false))

pub judged-preserved : goal.judged-preserved
unfolding taken_of taken_in
judged-preserved c = (c.loop-place.invariant.0, failed-more _ _ _ c.judged.invariant.1 (sym (found_nowhere _ _ _ _ c.loop-place.invariant.1 (omega arith))))

pub returns-after-judged : goal.returns-after-judged
returns-after-judged c = c.judged.invariant.0 ∙ found_nowhere _ 0 _ _ c.judged.invariant.1 (omega arith)

pub returns-then-taken_at : goal.returns-then-taken_at
unfolding taken_of taken_in
returns-then-taken_at c =
    found-there _ 0 _ _ (omega arith) (omega arith)
    (sym (found-there _ _ _ _ c.loop-place.auto.place (omega arith) (sym c.taken_at.ensures ∙ c.if-taken_at.true)))
