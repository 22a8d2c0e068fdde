-- `tables::element::places` meets its contract. Assumes nothing.
use Rattle.std.proofs.Common.{refl}
use Rattle.rules.specs.Tables.{places}
use Rattle.tables.proofs.element.places.Goals as goal

pub returns : goal.returns
unfolding places
returns c = refl
