-- `case_text::bytes::put_run` meets its contract. Assumes nothing.
use Rattle.case_text.proofs.Buffers.{put-bad, put-many, put-done}
use Rattle.case_text.proofs.bytes.put_run.Goals as goal

pub returns-then-bytes-count : goal.returns-then-bytes-count
returns-then-bytes-count c = put-many _ _ _ c.requires _ _ _ c.in-Ok.is c.if-bytes-count.true

pub returns-in-Err : goal.returns-in-Err
returns-in-Err c = put-bad _ _ _ c.requires _ _ c.in-Err.is

pub returns-else-bytes-count : goal.returns-else-bytes-count
returns-else-bytes-count c =
    put-done _ _ _ c.requires _ _ _ c.in-Ok.is c.if-bytes-count.false _ c.fill.ensures
