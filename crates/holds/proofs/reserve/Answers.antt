-- `holds::reserve` meets its contract. Assumes nothing.
use Rattle.rules.proofs.Rungs.{ends_as}
use Rattle.rules.specs.Bytes.{byte}
use Rattle.holds.proofs.Meaning.{same-roster, lays-out, reserves-unit, reserves-elements}
use Rattle.holds.proofs.reserve.Goals as goal

pub returns-then-block-eq0 : goal.returns-then-block-eq0
unfolding byte
returns-then-block-eq0 c rest buffer =
    ends_as _ buffer (c.reserve_unit.ensures rest buffer) (reserves-unit _ _ _ _ c.if-block-eq0.true)

pub reserve_elements-requires-clause-laid_out : goal.reserve_elements-requires-clause-laid_out
reserve_elements-requires-clause-laid_out c =
    lays-out _ _ _ c.requires.reservable

pub returns : goal.returns
unfolding byte
returns c rest buffer =
    ends_as _ buffer (c.reserve_elements.ensures rest buffer)
    (reserves-elements _ _ _ _ c.if-block-eq0.false _ (same-roster _ _ _ c.requires.reservable))
