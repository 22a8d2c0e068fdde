-- `listing::put_ranges` meets its contract: at the loop's head, what the ranges from here on add makes up what all of them add. Assumes nothing.
use mathlib.Core.Path.{◌≡◌, ◌∙◌}
use native.Mathlib.Omega.{arith}
use lib.ListN.{length}
use borrow.Author.Rules.{rules}
use Rattle.listing.proofs.Parts.{part_small, step_is}
use Rattle.listing.proofs.Counted.{within-later, write-nothing}
use Rattle.listing.proofs.Stages.{writing_begins, writing-inside, writing-room, writing-stands, writing-on, writing-ends}
use Rattle.listing.proofs.put_ranges.Goals as goal

pub returns-then-s-eq0 : goal.returns-then-s-eq0
returns-then-s-eq0 c =
    write-nothing _ _ _ c.args.stock.labelled _ _ _ c.if-s-eq0.true

pub loop-r-init : goal.loop-r-init
loop-r-init c =
    writing_begins _ _ _ _ _ _ c.requires.rs_in_bounds c.requires.rs_in_bounds_2 c.requires.each.0 c.requires.each.1

pub choose-p-requires : goal.choose-p-requires
choose-p-requires c =
    let l = c.loop-r in
    omega (arith, l.invariant.within.place)

pub put_range-requires : goal.put_range-requires
put_range-requires c =
    let l = c.loop-r in
    let n : length c.args.rs ≡ 4 = search rules in
    let ok = c.args.stock.labelled in record {
      r_in_bounds = writing-room _ _ _ ok _ _ _ _ _ _ _ l.invariant (omega arith);
      inside = (writing-inside _ _ _ ok _ _ _ _ _ _ _ l.invariant (omega arith), within-later _ _ _ (omega arith) l.invariant.within);
      p_value = c.choose-p.ensures;
      count_in_bounds = writing-stands _ _ _ ok _ _ _ _ _ _ _ l.invariant (omega arith);
    }

pub step-x-requires : goal.step-x-requires
step-x-requires c =
    let l = c.loop-r in
    let n : length c.args.rs ≡ 4 = search rules in
    let ok = c.args.stock.labelled in record {
      inside = writing-inside _ _ _ ok _ _ _ _ _ _ _ l.invariant (omega arith);
      within = (
        within-later _ _ _ (omega arith) l.invariant.within,
        rw c.choose-p.ensures (part_small _ c.args.q _ _ (writing-inside _ _ _ ok _ _ _ _ _ _ _ l.invariant (omega arith)) l.invariant.within.sum),
      );
    }

pub loop-r-preserved : goal.loop-r-preserved
loop-r-preserved c =
    let l = c.loop-r in
    let n : length c.args.rs ≡ 4 = search rules in
    writing-on _ _ _ c.args.stock.labelled _ _ _ _ _ _ _ l.invariant (omega arith) (omega arith) _ c.put_range.ensures _
    ((rw c.choose-p.ensures at c.step-x.ensures) ∙ step_is _ _ _ _)

pub shape_of-answer : goal.shape_of-answer
shape_of-answer c = c.loop-r.invariant.long

pub returns : goal.returns
returns c =
    let n : length c.args.rs ≡ 4 = search rules in
    writing-ends _ _ _ c.args.stock.labelled _ _ _ _ _ _ c.loop-r.invariant (omega arith)
