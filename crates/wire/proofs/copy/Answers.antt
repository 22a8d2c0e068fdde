-- `wire::copy` meets its contract. Assumes nothing.
use Rattle.wire.proofs.Runs.{put-front}
use Rattle.wire.proofs.copy.Goals as goal

pub returns : goal.returns
returns c = rw c.copy_from_slice.ensures.after (put-front _ _ c.requires)
