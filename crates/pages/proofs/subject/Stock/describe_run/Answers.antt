-- `pages::Stock::describe_run` meets its contract: at the loop's head, the descriptors of those of the first i elements that are marked stand at the
-- front. Assumes nothing.
use mathlib.Core.Path.{◌≡◌, sym, ap, ◌∙◌}
use native.Mathlib.Omega.{arith}
use Prim.Native.Nat.{ℕ, ◌+◌, ◌*◌, ◌≤◌, ◌<◌}
use mathlib.Core.List.{List}
use native.Mathlib.Nat.{zero-add, add-mul, mul-le-mul_right}
use lib.ListN.{length}
use Rattle.rules.specs.Roster.{slots}
use Rattle.rules.specs.Listing.{joined, keep, width}
use Rattle.rules.proofs.Writes.{put-length, put-nothing, put-append}
use Rattle.pages.specs.Marks.{marks_in}
use Rattle.pages.specs.Subject.{tables_of}
use Rattle.pages.proofs.Marked.{marks-split, marks-few}
use Rattle.pages.proofs.Descriptor.{run_length, descriptors-more}
use Rattle.pages.proofs.subject.Stock.describe_run.Goals as goal

room : (marks : List ℕ) (at i n place w len : ℕ) → at ≡ marks_in marks i place * w → i < n → marks_in marks n place * w ≤ len
    → (at + marks_in marks 1 (place + i) * w ≡ marks_in marks (i + 1) place * w) × (marks_in marks (i + 1) place * w ≤ len)
room marks at i n place w len d g b =
    let e = marks-split marks i 1 place in
    let f = marks-few marks (i + 1) n place (omega arith) in
    let h = mul-le-mul_right w f in
    (rw (e, d) (sym (add-mul _ _ _)), omega (arith, h, b))

pub loop-i-init : goal.loop-i-init
unfolding joined slots keep marks_in
loop-i-init c = (sym (put-nothing _ 0), omega arith)

pub describe_marked-at-requires : goal.describe_marked-at-requires
describe_marked-at-requires c =
    let l = c.loop-i in
    let a = c.args in
    let r = room a.self.marks.now l.at l.i a.n a.first.place (width a.tagged) (length a.d.now) l.invariant.1 (omega arith) c.requires.tagged_in_bounds in
    let e = ap length l.invariant.0 ∙ put-length _ _ _ in
    record {
      tagged_in_bounds = omega arith;
      address_bound = omega (arith, c.requires.n_bound);
      element_size_in_bounds = omega (arith, c.requires.n_in_bounds);
    }

pub loop-i-preserved : goal.loop-i-preserved
loop-i-preserved c =
    let l = c.loop-i in
    let a = c.args in
    let marks = a.self.marks.now in
    let f = a.first in
    let t = tables_of a.self in
    let n = run_length a.tagged t marks f.kind f.address f.place l.i a.self.labelled (omega (arith, c.requires.n_in_bounds)) in
    let r = room marks l.at l.i a.n f.place (width a.tagged) (length a.d.now) l.invariant.1 (omega arith) c.requires.tagged_in_bounds in (
      c.describe_marked-at.ensures.d_after
          ∙ rw (l.invariant.0, descriptors-more a.tagged t marks f.kind f.address f.place l.i)
          (put-append a.d.now 0 l.at _ _ (zero-add _ ∙ n ∙ sym l.invariant.1)),
      c.describe_marked-at.ensures.value ∙ r.0,
    )
