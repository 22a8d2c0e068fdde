-- `listing::list` meets its contract. Assumes nothing.
use mathlib.Core.Path.{◌≡◌, ◌∙◌}
use native.Mathlib.Omega.{arith}
use Prim.Native.Nat.{ℕ, ◌≤◌, ◌<◌}
use mathlib.Core.List.{List}
use lib.ListN.{length}
use Rattle.pages.specs.Subject.{tables_of}
use Rattle.tables.specs.Ranges.{meant}
use Rattle.listing.specs.Counting.{counted, outset, Within, Listable, passed}
use Rattle.listing.specs.declared.Query.{Query}
use Rattle.listing.specs.declared.Tally.{Tally}
use Rattle.tables.specs.declared.Range.{Range}
use Rattle.rules.specs.Tables.{Tables}
use Rattle.listing.proofs.Whole.{begins-within, added-length, last_within, passed_is, short-answers, long-answers, long-refused, four}
use borrow.Author.Rules.{rules}
use Rattle.listing.proofs.list.Goals as goal

module _ (marks : List ℕ) (q : Query) (t : Tables) (rs : List Range) (most room from : ℕ) (x : Tally)
    (last : x ≡ counted marks q (outset most room from) (meant rs)) (ok : Listable (meant rs) t) (n : length rs ≡ 4) (b : q.start < 65536)
    (m : most < 65536) (f : from ≤ 65536) where
  within : Within 4 x
  within = rw last (last_within marks q (meant rs) most room from ok.inside (four rs n) b m f)

  -- the address behind all that are told whole
  behind : (x.next ≡ passed marks q t (meant rs) most room from) × (x.next ≤ 65536)
  behind = (passed_is marks q t (meant rs) most room from ok x last, within.next)

pub count-x-requires : goal.count-x-requires
count-x-requires c =
    record { each = c.requires.listable.inside; within = rw c.begin-s.ensures (begins-within _ _ _ (omega arith) c.requires.near) }

pub shortened-requires : goal.shortened-requires
shortened-requires c =
    let n : length c.args.rs ≡ 4 = search rules in
    let last = rw c.begin-s.ensures at c.count-x.ensures in
    within _ _ (tables_of c.args.stock) c.args.rs _ _ _ _ last c.requires.listable n (omega arith) (omega arith) c.requires.near

pub returns-then-room-lt-HEADER : goal.returns-then-room-lt-HEADER
returns-then-room-lt-HEADER c =
    let n : length c.args.rs ≡ 4 = search rules in
    let last = rw c.begin-s.ensures at c.count-x.ensures in record {
      answers = short-answers _ _ _ _ _ _ _ c.requires.listable _ last _ _ _ c.if-room-lt-HEADER.true c.shortened.ensures;
      next_value = behind _ _ (tables_of c.args.stock) c.args.rs _ _ _ _ last c.requires.listable n (omega arith) (omega arith) c.requires.near;
    }

pub returns-then-answer-end : goal.returns-then-answer-end
returns-then-answer-end c =
    let n : length c.args.rs ≡ 4 = search rules in
    let last = rw c.begin-s.ensures at c.count-x.ensures in record {
      answers = long-refused _ _ _ _ _ _ _ c.requires.listable _ last _ c.if-room-lt-HEADER.false c.if-answer-end.true;
      next_value = behind _ _ (tables_of c.args.stock) c.args.rs _ _ _ _ last c.requires.listable n (omega arith) (omega arith) c.requires.near;
    }

pub header-requires : goal.header-requires
header-requires c =
    let n : length c.args.rs ≡ 4 = search rules in
    let last = rw c.begin-s.ensures at c.count-x.ensures in
    let w = within _ _ (tables_of c.args.stock) c.args.rs _ _ _ _ last c.requires.listable n (omega arith) (omega arith) c.requires.near in
    let e = added-length _ _ _ _ _ _ _ c.requires.listable _ last in
    (omega (arith, e, c.if-answer-end.false), (w.first, (omega (arith, w.sum), omega (arith, w.total))))

pub put_ranges-requires : goal.put_ranges-requires
put_ranges-requires c =
    let b = c.begin-s.ensures in
    let k = c.header.auto.d in
    let l = rw c.count-x.ensures at c.if-answer-end.false in record {
      rs_in_bounds = rw k l;
      each = (c.requires.listable.inside, rw b (begins-within _ _ _ (omega arith) c.requires.near));
      rs_in_bounds_2 = rw b (omega (arith, c.requires.listable.stands));
    }

pub overflow_cast-result : goal.overflow_cast-result
overflow_cast-result c =
    let n : length c.args.rs ≡ 4 = search rules in
    let last = rw c.begin-s.ensures at c.count-x.ensures in
    omega (arith, (within _ _ (tables_of c.args.stock) c.args.rs _ _ _ _ last c.requires.listable n (omega arith) (omega arith) c.requires.near).at)

pub returns : goal.returns
returns c =
    let n : length c.args.rs ≡ 4 = search rules in
    let last = rw c.begin-s.ensures at c.count-x.ensures in record {
      answers = long-answers _ _ _ _ _ _ _ c.requires.listable _ last _ _ c.if-room-lt-HEADER.false c.if-answer-end.false
          (c.put_ranges.ensures ∙ rw (c.begin-s.ensures, c.header.ensures));
      next_value = behind _ _ (tables_of c.args.stock) c.args.rs _ _ _ _ last c.requires.listable n (omega arith) (omega arith) c.requires.near;
    }
