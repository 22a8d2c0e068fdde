-- `listing::fit` meets its contract. Assumes nothing.
use mathlib.Core.Path.{sym}
use native.Mathlib.Omega.{arith}
use Rattle.rules.specs.Choice.{when}
use borrow.Author.Tests.{lt-ltb}
use Rattle.listing.specs.Plan.{fits_in}
use Rattle.pages.proofs.Descriptor.{width_few}
use Rattle.listing.proofs.Fitting.{fits_whole, fits-part}
use Rattle.listing.proofs.fit.Goals as goal

pub overflow_add-w : goal.overflow_add-w
overflow_add-w c = omega (arith, rw (← c.width-w.ensures) at (width_few c.args.tagged))

pub returns-then-room-w : goal.returns-then-room-w
unfolding fits_in when
returns-then-room-w c = rw (lt-ltb _ _ (rw c.width-w.ensures at c.if-room-w.true))

pub returns-then-page_bytes-room : goal.returns-then-page_bytes-room
returns-then-page_bytes-room c =
    sym (fits_whole _ _ _ (rw c.width-w.ensures at c.if-room-w.false) (rw c.page_bytes.ensures at c.if-page_bytes-room.true))

pub nonzero_div-result : goal.nonzero_div-result
nonzero_div-result c = omega (arith, rw (← c.width-w.ensures) at (width_few c.args.tagged))

pub returns : goal.returns
returns c =
    rw c.width-w.ensures
    (sym (fits-part _ _ _ (rw c.width-w.ensures at c.if-room-w.false) (rw c.page_bytes.ensures at c.if-page_bytes-room.false)))
