-- `listing::read_element_status` meets its contract. Assumes nothing.
use mathlib.Core.Path.{refl}
use Rattle.listing.proofs.Ends.{some_number, ends-good, ends-refused}
use Rattle.listing.proofs.read_element_status.Goals as goal

pub returns-in-Ok : goal.returns-in-Ok
returns-in-Ok c = λ rest lends.
    let answered = rw (c.query_of-q.ensures, c.word_at.ensures, c.triple_at.ensures, c.in-Ok.is) at c.list.ensures.answers in
    rw c.told.ensures (ends-good _ _ _ _ _ _ _ c.requires.readable.runs-are (rw (lends.tags-is, lends.blank-is) answered) _ refl c.wipe.ensures)

pub returns-in-Err : goal.returns-in-Err
returns-in-Err c = λ rest lends.
    let answered = rw (c.query_of-q.ensures, c.word_at.ensures, c.triple_at.ensures, c.in-Err.is) at c.list.ensures.answers in
    rw c.numbered.ensures (ends-refused _ _ _ _ _ _ _ c.requires.readable.runs-are (rw (lends.tags-is, lends.blank-is) answered) (some_number _))
