-- `holds::release_unit` meets its contract. Assumes nothing.
use mathlib.Core.Path.{refl}
use mathlib.Core.List.{[], ◌∷◌}
use Rattle.rules.specs.Tables.{HoldUnit, Free, Every, in_head, in_elements, change, changes}
use Rattle.holds.proofs.Ends.{both, good-with, unit-own, unit-not}
use Rattle.holds.proofs.release_unit.Goals as goal

pub returns-then-unit-host : goal.returns-then-unit-host
unfolding changes change in_head in_elements
returns-then-unit-host c rest buffer =
    good-with _ _ _ _ rest buffer _ (c.good-reply.ensures _ rest buffer) (HoldUnit 0 ∷ Free (Every _) ∷ []) _ _ _
    (unit-own _ _ _ c.unit-unit.ensures c.if-unit-host.true)
    (both _ _ _ _ rest c.hold_unit.ensures c.free.ensures)

pub returns-else-unit-host : goal.returns-else-unit-host
unfolding changes change in_head in_elements
returns-else-unit-host c rest buffer =
    good-with _ _ _ _ rest buffer _ (c.good-reply.ensures _ rest buffer) (Free (Every _) ∷ []) _ _ _
    (unit-not _ _ _ c.unit-unit.ensures c.if-unit-host.false)
    (both _ _ _ _ rest refl c.free.ensures)
