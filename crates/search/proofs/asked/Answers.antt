-- `search::asked` meets its contract. Assumes nothing.
use mathlib.Core.Path.{refl}
use Rattle.rules.proofs.Ladder.{eq_is, eq-not}
use Rattle.search.specs.Marks.{asks}
use Rattle.search.proofs.asked.Goals as goal

pub returns-then-own-eq-ANY_CHARACTER : goal.returns-then-own-eq-ANY_CHARACTER
unfolding asks
returns-then-own-eq-ANY_CHARACTER c = eq_is _ _ _ _ _ c.if-own-eq-ANY_CHARACTER.true refl

pub returns : goal.returns
unfolding asks
returns c = eq-not _ _ _ _ _ c.if-own-eq-ANY_CHARACTER.false refl
