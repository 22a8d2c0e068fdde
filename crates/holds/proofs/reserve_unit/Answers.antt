-- `holds::reserve_unit` meets its contract. Assumes nothing.
use mathlib.Core.Path.{refl}
use mathlib.Core.List.{[], ◌∷◌}
use Rattle.rules.proofs.Rungs.{ends_as}
use Rattle.rules.specs.Tables.{HoldUnit, in_head, in_elements, change, changes}
use Rattle.holds.proofs.Ends.{both, good-with}
use Rattle.holds.proofs.Meaning.{unit-taken, unit-free}
use Rattle.holds.proofs.reserve_unit.Goals as goal

pub returns-then-any_other : goal.returns-then-any_other
returns-then-any_other c rest buffer =
    ends_as _ buffer (c.conflict.ensures _ rest buffer) (unit-taken _ _ _ c.any_other.ensures c.if-any_other.true)

pub returns : goal.returns
unfolding changes change in_head in_elements
returns c rest buffer =
    good-with _ _ _ _ rest buffer _ (c.good-reply.ensures _ rest buffer) (HoldUnit _ ∷ []) _ _ _
    (unit-free _ _ _ c.any_other.ensures c.if-any_other.false)
    (both _ _ _ _ rest c.hold_unit.ensures refl)
