-- `tables::find` meets its contract. Assumes nothing.
use Rattle.tables.proofs.LookUp.{found-spot}
use Rattle.tables.proofs.find.Goals as goal

pub returns : goal.returns
returns c = found-spot _ _ _ _ c.spot_of-s.ensures _ c.pick.ensures
