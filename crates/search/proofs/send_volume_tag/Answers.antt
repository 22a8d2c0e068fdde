-- `search::send_volume_tag` meets its contract. Assumes nothing.
use Rattle.rules.proofs.Rungs.{ends_as}
use Rattle.order.specs.Ending.{reason}
use Rattle.search.proofs.Beginning.{tag-length, tag-reserved, tag-begun}
use Rattle.search.proofs.send_volume_tag.Goals as goal

pub returns-then-list-ne-TAG_LIST_SIZE : goal.returns-then-list-ne-TAG_LIST_SIZE
unfolding reason
returns-then-list-ne-TAG_LIST_SIZE c = λ elements rest buffer.
    ends_as _ buffer (c.refuse.ensures elements _ buffer) (tag-length _ elements rest _ _ _ _ c.if-list-ne-TAG_LIST_SIZE.true)

pub returns-then-reserved : goal.returns-then-reserved
unfolding reason
returns-then-reserved c = λ elements rest buffer.
    ends_as _ buffer (c.refuse-then-reserved.ensures elements _ buffer)
    (tag-reserved _ elements rest _ _ _ _ c.if-list-ne-TAG_LIST_SIZE.false _ (rw c.whole-list.ensures at c.reserved.ensures) c.if-reserved.true)

pub returns : goal.returns
returns c = λ elements rest buffer.
    tag-begun _ elements rest _ _ _ _ c.if-list-ne-TAG_LIST_SIZE.false _ (rw c.whole-list.ensures at c.reserved.ensures) c.if-reserved.false _ _ buffer _ (rw c.whole-list.ensures at c.begin.ensures)
    (c.good.ensures elements _ buffer)
