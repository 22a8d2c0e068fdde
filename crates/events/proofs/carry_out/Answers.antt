-- `events::carry_out` meets its contract. Assumes nothing.
use native.Mathlib.Omega.{arith}
use Rattle.rules.specs.Bytes.{put}
use Rattle.rules.specs.Tables.{places, changes, change, in_head, in_elements}
use Rattle.rules.specs.Order.{outcome}
use Rattle.rules.specs.Events.{done}
use Rattle.ports.specs.Judged.{meaning}
use Rattle.ports.proofs.Judging.{refused-ends}
use Rattle.events.proofs.carry_out.Goals as goal

pub fill-requires : goal.fill-requires
unfolding places
fill-requires c = let w = rw c.in-Ok.is at c.requires.within in omega arith

pub returns-in-Ok : goal.returns-in-Ok
unfolding meaning outcome done changes change in_head in_elements put
returns-in-Ok c = λ rest.
    rw (c.in-Ok.is, c.told.ensures, c.announce.ensures, c.fill.ensures)

pub returns-in-Err : goal.returns-in-Err
unfolding meaning
returns-in-Err c = λ rest. rw (c.in-Err.is, c.numbered.ensures) (refused-ends _ _ _)
