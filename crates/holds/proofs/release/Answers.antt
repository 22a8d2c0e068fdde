-- `holds::release` meets its contract. Assumes nothing.
use mathlib.Core.Path.{refl}
use mathlib.Core.List.{[], ◌∷◌}
use Rattle.rules.proofs.Rungs.{ends_as}
use Rattle.rules.specs.Bytes.{byte}
use Rattle.rules.specs.Tables.{Free, Under, in_head, in_elements, change, changes}
use Rattle.holds.proofs.Ends.{both, good-with, releases-all, releases-id}
use Rattle.holds.proofs.release.Goals as goal

pub returns-then-block-eq0 : goal.returns-then-block-eq0
unfolding byte
returns-then-block-eq0 c rest buffer =
    ends_as _ buffer (c.release_unit.ensures rest buffer) (releases-all _ _ _ c.if-block-eq0.true)

pub returns : goal.returns
unfolding byte changes change in_head in_elements
returns c rest buffer =
    good-with _ _ _ _ rest buffer _ (c.good.ensures _ rest buffer) (Free (Under _ _) ∷ []) _ _ _
    (releases-id _ _ _ c.if-block-eq0.false)
    (both _ _ _ _ rest refl c.free.ensures)
