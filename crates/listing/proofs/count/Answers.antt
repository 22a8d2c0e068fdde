-- `listing::count` meets its contract: at the loop's head, the ranges from here on count to what all of them count to. Assumes nothing.
use mathlib.Core.Path.{◌≡◌, ◌∙◌}
use native.Mathlib.Omega.{arith}
use lib.ListN.{length}
use borrow.Author.Rules.{rules}
use Rattle.listing.proofs.Parts.{part_small, step_is}
use Rattle.listing.proofs.Counted.{within-later}
use Rattle.listing.proofs.Stages.{counting-begins, counting-here, counting-on, counting-ends}
use Rattle.listing.proofs.count.Goals as goal

pub loop-r-init : goal.loop-r-init
loop-r-init c = counting-begins _ _ _ _ c.requires.each c.requires.within

pub choose-requires : goal.choose-requires
choose-requires c =
    let l = c.loop-r in
    omega (arith, l.invariant.within.place)

pub step-x-requires : goal.step-x-requires
step-x-requires c =
    let l = c.loop-r in
    let n : length c.args.rs ≡ 4 = search rules in record {
      inside = counting-here _ _ _ _ _ _ _ l.invariant (omega arith);
      within = (
        within-later _ _ _ (omega arith) l.invariant.within,
        rw c.choose.ensures (part_small _ c.args.q _ _ (counting-here _ _ _ _ _ _ _ l.invariant (omega arith)) l.invariant.within.sum),
      );
    }

pub loop-r-preserved : goal.loop-r-preserved
loop-r-preserved c =
    let l = c.loop-r in
    let n : length c.args.rs ≡ 4 = search rules in
    counting-on _ _ _ _ _ _ _ l.invariant (omega arith) (omega arith) _ ((rw c.choose.ensures at c.step-x.ensures) ∙ step_is _ _ _ _)

pub returns : goal.returns
returns c =
    let n : length c.args.rs ≡ 4 = search rules in
    counting-ends _ _ _ _ _ _ c.loop-r.invariant (omega arith)
