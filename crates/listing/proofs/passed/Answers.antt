-- `listing::passed` meets its contract. Assumes nothing.
use mathlib.Core.Path.{◌≡◌}
use native.Mathlib.Omega.{arith}
use lib.ListN.{length}
use Rattle.tables.specs.Ranges.{meant}
use Rattle.listing.proofs.Whole.{begins-within, last_within, passed_is, four}
use borrow.Author.Rules.{rules}
use Rattle.listing.proofs.passed.Goals as goal

pub count-requires : goal.count-requires
count-requires c =
    record { each = c.requires.each; within = rw c.begin.ensures (begins-within _ _ _ (omega arith) c.requires.near) }

pub returns : goal.returns
returns c =
    let a = c.args in
    let l = a.limits in
    let e = rw c.begin.ensures at c.count.ensures in
    let n : length a.rs ≡ 4 = search rules in record {
      value = (λ t ok. passed_is _ a.q t (meant a.rs) l.most l.room l.from ok _ e);
      upper_bound = rw e (last_within _ a.q (meant a.rs) l.most l.room l.from c.requires.each (four a.rs n) (omega arith) (omega arith) c.requires.near).next;
    }
