-- `tables::head::hold_unit` meets its contract. Assumes nothing.
use Rattle.rules.specs.Bytes.{put}
use Rattle.rules.specs.Tables.{unit_held}
use Rattle.std.proofs.Common.{rules}
use Rattle.tables.proofs.head.hold_unit.Goals as goal

pub returns : goal.returns
unfolding unit_held put
returns c = search rules
