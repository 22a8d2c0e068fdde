-- `holds::prevent_allow` meets its contract. Assumes nothing.
use mathlib.Core.Path.{refl}
use mathlib.Core.List.{[], ◌∷◌}
use Rattle.rules.specs.Tables.{Prevent, in_head, in_elements, change, changes}
use Rattle.holds.proofs.Ends.{both, good-with, prevents}
use Rattle.holds.proofs.prevent_allow.Goals as goal

pub returns : goal.returns
unfolding changes change in_head in_elements
returns c elements rest buffer =
    good-with _ _ _ _ rest buffer _ (c.good-reply.ensures elements rest buffer) (Prevent _ ∷ []) _ _ _
    (prevents _ _ _ _ _ c.mask.ensures c.new_mask-mask.ensures)
    (both _ _ _ _ rest c.set_mask.ensures refl)
