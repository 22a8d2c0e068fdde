-- `pages::marks::count` meets its contract: at the loop's head, those marked of the places passed are counted. Assumes nothing.
use mathlib.Core.Path.{◌≡◌, refl, sym, ◌∙◌}
use native.Mathlib.Omega.{arith}
use Prim.Native.Nat.{◌-◌}
use lib.ListN.{length, take, drop, length-take, length-drop}
use borrow.Author.Tests.{eqb-true, eqb-false}
use Rattle.pages.specs.Marks.{marks_in}
use Rattle.pages.proofs.Marked.{marks-all, marks-part, count-marked, count-not}
use Rattle.pages.proofs.marks.count.Goals as goal
use Rattle.pages.proofs.marks.count.Goals.{then-mark-ne0, else-mark-ne0}

pub returns-then-is_empty : goal.returns-then-is_empty
returns-then-is_empty c = sym (marks-all _ _ _ (eqb-true _ _ (sym c.if-is_empty.ensures)))

pub loop-mark-init : goal.loop-mark-init
unfolding marks_in
loop-mark-init c = (refl, omega arith)

pub loop-mark-preserved : goal.loop-mark-preserved
loop-mark-preserved c =
    let l = c.loop-mark in
    let marks = c.args.marks.now in
    let ne = eqb-false _ _ (sym c.if-is_empty.ensures) in
    let e = rw (← c.min.ensures) at l.invariant.0 in
    elim c.if-mark-ne0.branch [
      | then-mark-ne0 w ↦ rw (← c.min.ensures, w.k-is) (count-marked marks _ _ l.mark-index l.k ne c.loop-mark-test.true e w.if-mark-ne0.true, omega (arith, l.invariant.1))
      | else-mark-ne0 w ↦ rw (← c.min.ensures, w.k-is) (count-not marks _ _ l.mark-index l.k ne c.loop-mark-test.true e w.if-mark-ne0.false, omega (arith, l.invariant.1))
    ]

pub returns : goal.returns
returns c =
    let l = c.loop-mark in
    let a = c.args in
    let ne = eqb-false _ _ (sym c.if-is_empty.ensures) in
    let n : length (take (c.min-end.result - c.min.result) (drop c.min.result a.marks.now)) ≡ c.min-end.result - c.min.result =
    simp (length-take, length-drop) (omega (arith, c.min.ensures, c.min-end.ensures)) in
    l.invariant.0 ∙ marks-part a.marks.now a.n a.place l.mark-index c.min-end.result ne c.min-end.ensures (omega (arith, n, c.min.ensures, c.loop-mark-test.false, l.auto.mark-index-end))
