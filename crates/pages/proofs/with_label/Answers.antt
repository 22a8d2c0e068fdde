-- `pages::with_label` meets its contract. Assumes nothing.
use mathlib.Core.Path.{◌≡◌, refl}
use native.Mathlib.Omega.{arith}
use mathlib.Core.List.{List, ◌++◌, append_assoc}
use lib.ListN.{length, length-append}
use Rattle.rules.specs.Listing.{front, four_zeros}
use Rattle.rules.proofs.Writes.{put-append}
use Rattle.pages.proofs.with_label.Goals as goal

pub returns : goal.returns
unfolding front
returns c =
    let a = c.args in
    let f : List _ = front a.address a.flags a.source in
    let t : List _ = a.label.now in
    let e : length (f ++ t) ≡ 48 = simp length-append (omega arith) in
    rw (
      c.put-2.ensures,
      c.put.ensures,
      c.whole.ensures,
      c.front.ensures,
      put-append a.d.now 0 12 f t refl,
      put-append a.d.now 0 48 (f ++ t) four_zeros (omega (arith, e)),
      append_assoc f t four_zeros,
    )
