-- `pages::marks::reach` meets its contract: at the loop's head, the places passed and those still to pass reach as far as all. Assumes nothing.
use mathlib.Core.Path.{◌≡◌, sym, ◌∙◌}
use native.Mathlib.Omega.{arith}
use Prim.Native.Nat.{◌+◌, ◌-◌}
use native.Mathlib.Nat.{zero-add, sub-zero, add-zero}
use borrow.Author.Tests.{eqb-true}
use Rattle.pages.proofs.Marked.{reach-all, reach-none, reach-empty, reach-on, reach-past}
use Rattle.pages.proofs.marks.reach.Goals as goal
use Rattle.pages.proofs.marks.reach.Goals.{then-marked, else-marked}

pub returns-then-is_empty : goal.returns-then-is_empty
returns-then-is_empty c = c.min.ensures ∙ sym (reach-all _ _ _ _ (eqb-true _ _ (sym c.if-is_empty.ensures)))

pub loop-i-init : goal.loop-i-init
loop-i-init c = rw (zero-add, sub-zero, add-zero)

pub returns-then-left-eq0 : goal.returns-then-left-eq0
returns-then-left-eq0 c =
    let l = c.loop-i in
    let z = reach-none c.args.marks.now (c.args.n - l.i) (c.args.place + l.i) in
    let e = rw c.if-left-eq0.true at l.invariant in
    omega arith

pub loop-i-preserved : goal.loop-i-preserved
loop-i-preserved c =
    let l = c.loop-i in
    let marks = c.args.marks.now in
    let n = c.loop-i-test.true in
    let some = c.if-left-eq0.false in
    let e = c.marked.ensures in
    elim c.if-marked.branch [
      | then-marked w ↦
          let r = reach-on marks c.args.place l.left l.i c.args.n n some (sym e ∙ w.if-marked.true) in
          rw w.left-is (sym r ∙ l.invariant)
      | else-marked w ↦
          let r = reach-past marks c.args.place l.left l.i c.args.n n some (sym e ∙ w.if-marked.false) in
          rw w.left-is (sym r ∙ l.invariant)
    ]

pub returns : goal.returns
returns c =
    let l = c.loop-i in
    let n : c.args.n - l.i ≡ 0 = omega arith in
    let z = reach-empty c.args.marks.now l.left (c.args.place + l.i) in
    let e = rw n at l.invariant in
    omega arith
