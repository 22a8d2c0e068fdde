-- `pages::Stock::describe_marked` meets its contract. Assumes nothing.
use mathlib.Core.Path.{◌≡◌, sym, ◌∙◌}
use native.Mathlib.Omega.{arith}
use Prim.Native.Nat.{ℕ, ◌+◌, ◌*◌, ◌-◌, ◌≤◌}
use mathlib.Core.List.{List}
use lib.ListN.{length}
use Rattle.rules.specs.Listing.{descriptor, width}
use Rattle.rules.proofs.Writes.{put-nothing}
use Rattle.pages.specs.Subject.{tables_of, slot_of}
use Rattle.pages.proofs.Marked.{one_in, none_in}
use Rattle.pages.proofs.Lent.{put-part}
use Rattle.pages.proofs.Descriptor.{descriptor-length, descriptors-one, descriptors-none}
use Rattle.pages.proofs.subject.Stock.describe_marked.Goals as goal

-- the descriptor has room
room : (at w n width len : ℕ) → n ≡ 1 → w ≡ width → at + n * width ≤ len → at + w ≤ len
room at w n width len e f h = rw f (omega (arith, rw e at h))

pub overflow_add-next : goal.overflow_add-next
overflow_add-next c =
    let o = one_in c.args.self.marks.now c.args.slot.place (sym c.marked.ensures ∙ c.if-marked.true) in
    omega (arith, room _ _ _ _ _ o c.width.ensures c.requires.tagged_in_bounds)

pub slice_bounds-describe-end : goal.slice_bounds-describe-end
slice_bounds-describe-end c =
    let o = one_in c.args.self.marks.now c.args.slot.place (sym c.marked.ensures ∙ c.if-marked.true) in
    omega (arith, room _ _ _ _ _ o c.width.ensures c.requires.tagged_in_bounds)

pub returns-then-marked : goal.returns-then-marked
returns-then-marked c =
    let a = c.args in
    let marks = a.self.marks.now in
    let s = a.slot in
    let t = tables_of a.self in
    let m = sym c.marked.ensures ∙ c.if-marked.true in
    let w = c.width.result in
    let d : List _ = descriptor a.tagged t (slot_of s) in
    let n : length d ≡ w = descriptor-length a.tagged t (slot_of s) a.self.labelled c.requires.element_size_in_bounds ∙ sym c.width.ensures in
    let r = room _ _ _ _ _ (one_in marks s.place m) c.width.ensures c.requires.tagged_in_bounds in record {
      d_after = rw (c.describe.ensures, descriptors-one a.tagged t marks s.kind s.address s.place m)
          (put-part a.d.now a.at (a.at + w - a.at) d (omega arith) (omega arith));
      value = rw (one_in marks s.place m, c.width.ensures) (omega arith);
    }

pub returns : goal.returns
returns c =
    let a = c.args in
    let marks = a.self.marks.now in
    let s = a.slot in
    let t = tables_of a.self in
    let m = sym c.marked.ensures ∙ c.if-marked.false in record {
      d_after = rw (descriptors-none a.tagged t marks s.kind s.address s.place m) (sym (put-nothing _ _));
      value = rw (none_in marks s.place m) (omega arith);
    }
