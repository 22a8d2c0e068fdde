-- `pages::Stock::put_page` meets its contract. Assumes nothing.
use mathlib.Core.Path.{◌≡◌, refl, sym, ◌∙◌}
use native.Mathlib.Omega.{arith}
use borrow.Author.Tests.{eq-eqb, ne_eqb}
use Prim.Native.Nat.{ℕ, ◌+◌, ◌*◌, ◌-◌, ◌≤◌}
use mathlib.Core.List.{List}
use lib.ListN.{length, length-take, length-drop}
use borrow.Rule.Slice.PartMut.{same_len_mid}
use Rattle.rules.specs.Choice.{when}
use mathlib.Core.Bool.{Bool}
use Rattle.rules.specs.Bytes.{three}
use Rattle.rules.specs.Listing.{page_header, width}
use Rattle.pages.specs.Pages.{page_bytes, descriptors, shown}
use Rattle.pages.specs.Subject.{tables_of, marked_from}
use Rattle.pages.proofs.Lent.{put_both}
use Rattle.rules.proofs.Writes.{put-nothing}
use Rattle.pages.proofs.Marked.{marks-length}
use Rattle.pages.proofs.Descriptor.{run_length, page-bytes-is}
use Rattle.pages.proofs.subject.Stock.put_page.Goals as goal

-- the page has room
room : (tagged : Bool) (m w at len : ℕ) → w ≡ width tagged → (m ≡ 0 → ⊥) → at + page_bytes tagged m ≤ len → at + 8 + m * w ≤ len
room tagged m w at len e g h =
    let u = page-bytes-is tagged m g in
    rw e (omega arith)

header-length : (tagged : Bool) (kind n : ℕ) → length (page_header tagged kind n) ≡ 8
unfolding page_header three
header-length tagged kind n = refl

pub returns-then-page-eq0 : goal.returns-then-page-eq0
unfolding shown when
returns-then-page-eq0 c =
    let a = c.args in
    let e = marks-length a.self.marks.now a.page.first.kind a.page.first.address a.page.first.place a.page.run ∙ sym c.requires.m_value.0 ∙ c.if-page-eq0.true in
    rw (eq-eqb _ _ e) (sym (put-nothing _ _))

pub overflow_mul-end : goal.overflow_mul-end
overflow_mul-end c = omega (arith, room c.args.page.tagged c.args.page.m c.width.result c.args.at (length c.args.answer.now) c.width.ensures c.if-page-eq0.false c.requires.m_in_bounds)

pub overflow_add-end : goal.overflow_add-end
overflow_add-end c = omega (arith, room c.args.page.tagged c.args.page.m c.width.result c.args.at (length c.args.answer.now) c.width.ensures c.if-page-eq0.false c.requires.m_in_bounds)

pub describe_run-requires : goal.describe_run-requires
describe_run-requires c =
    let k = same_len_mid c.args.at (c.args.at + 8 - c.args.at) c.args.answer.now c.page_header.new.d c.page_header.auto.d in
    let f = room c.args.page.tagged c.args.page.m c.width.result c.args.at (length c.args.answer.now) c.width.ensures c.if-page-eq0.false c.requires.m_in_bounds in record {
      tagged_in_bounds = rw (← c.requires.m_value.0, ← c.width.ensures) (simp (length-take, length-drop) (omega arith));
      n_bound = c.requires.run_bound;
      n_in_bounds = c.requires.run_in_bounds;
    }

pub slice_bounds-page_header-end : goal.slice_bounds-page_header-end
slice_bounds-page_header-end c = omega (arith, room c.args.page.tagged c.args.page.m c.width.result c.args.at (length c.args.answer.now) c.width.ensures c.if-page-eq0.false c.requires.m_in_bounds)

pub slice_bounds-describe_run-end : goal.slice_bounds-describe_run-end
slice_bounds-describe_run-end c =
    let k = same_len_mid c.args.at (c.args.at + 8 - c.args.at) c.args.answer.now c.page_header.new.d c.page_header.auto.d in
    omega (arith, room c.args.page.tagged c.args.page.m c.width.result c.args.at (length c.args.answer.now) c.width.ensures c.if-page-eq0.false c.requires.m_in_bounds)

pub returns : goal.returns
unfolding shown when
returns c =
    let a = c.args in
    let p = a.page in
    let f = p.first in
    let w = c.width in
    let t = tables_of a.self in
    let marks = a.self.marks.now in
    let ss : List _ = marked_from marks f p.run in
    let d : List _ = descriptors p.tagged t ss in
    let m : length ss ≡ p.m = marks-length marks f.kind f.address f.place p.run ∙ sym c.requires.m_value.0 in
    let e : length d ≡ p.m * w.result =
    rw (w.ensures, c.requires.m_value.0) (run_length p.tagged t marks f.kind f.address f.place p.run a.self.labelled c.requires.run_in_bounds) in
    let r = room p.tagged p.m w.result a.at (length a.answer.now) w.ensures c.if-page-eq0.false c.requires.m_in_bounds in
    let h = header-length p.tagged f.kind p.n in
    rw (c.describe_run.ensures, c.page_header.ensures, m, ne_eqb p.m 0 c.if-page-eq0.false)
    (put_both a.answer.now a.at (a.at + 8 - a.at) (a.at + 8) (a.at + 8 + p.m * w.result - (a.at + 8)) (page_header p.tagged f.kind p.n) d (omega arith) (omega arith) (omega arith) (omega arith))
