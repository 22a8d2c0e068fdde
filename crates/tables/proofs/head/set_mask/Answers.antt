-- `tables::head::set_mask` meets its contract. Assumes nothing.
use Rattle.rules.specs.Bytes.{put}
use Rattle.rules.specs.Tables.{masked}
use Rattle.std.proofs.Common.{rules}
use Rattle.tables.proofs.head.set_mask.Goals as goal

pub returns : goal.returns
unfolding masked put
returns c = search rules
