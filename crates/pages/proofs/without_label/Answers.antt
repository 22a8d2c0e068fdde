-- `pages::without_label` meets its contract. Assumes nothing.
use mathlib.Core.Path.{refl}
use Rattle.rules.specs.Listing.{front, four_zeros}
use Rattle.rules.proofs.Writes.{put-append}
use Rattle.pages.proofs.without_label.Goals as goal

pub returns : goal.returns
unfolding front
returns c =
    let a = c.args in
    rw (c.put.ensures, c.front.ensures) (put-append a.d.now 0 12 (front a.address a.flags a.source) four_zeros refl)
