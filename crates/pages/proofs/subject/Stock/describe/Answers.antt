-- `pages::Stock::describe` meets its contract. Assumes nothing.
use mathlib.Core.Path.{ap, ◌∙◌}
use native.Mathlib.Omega.{arith}
use lib.ListN.{length}
use Rattle.rules.specs.Choice.{when}
use Rattle.rules.specs.Listing.{descriptor, width}
use Rattle.pages.proofs.Descriptor.{label-length}
use Rattle.pages.proofs.subject.Stock.describe.Goals as goal

pub label-requires : goal.label-requires
label-requires c =
    omega (arith, c.volume-volume.ensures, c.args.self.labelled.volumes c.args.slot.place c.requires.element_size_in_bounds)

pub with_label-requires : goal.with_label-requires
unfolding width when
with_label-requires c =
    let l = c.args.self.labelled in
    let v = l.volumes c.args.slot.place c.requires.element_size_in_bounds in (
      rw c.if-tagged.true at c.requires.tagged_in_bounds,
      (c.requires.address_bound, ap length c.label.ensures ∙ label-length _ _ _ l.blank (omega (arith, c.volume-volume.ensures, v))),
    )

pub without_label-requires : goal.without_label-requires
unfolding width when
without_label-requires c = (rw c.if-tagged.false at c.requires.tagged_in_bounds, c.requires.address_bound)

pub returns-then-tagged : goal.returns-then-tagged
unfolding descriptor when
returns-then-tagged c = rw (c.with_label.ensures, c.label.ensures, c.flags-f.ensures, c.mark.ensures, c.source-source.ensures, c.volume-volume.ensures, c.if-tagged.true)

pub returns-else-tagged : goal.returns-else-tagged
unfolding descriptor when
returns-else-tagged c = rw (c.without_label.ensures, c.flags-f.ensures, c.mark.ensures, c.source-source.ensures, c.volume-volume.ensures, c.if-tagged.false)
