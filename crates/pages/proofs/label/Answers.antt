-- `pages::label` meets its contract: a part of the tags, or the blank label. Assumes nothing.
use mathlib.Core.Path.{◌≡◌}
use native.Mathlib.Omega.{arith}
use Rattle.rules.specs.Choice.{when}
use borrow.Author.Tests.{eq-eqb, ne_eqb}
use Prim.Native.Nat.{◌+◌, ◌*◌, ◌-◌}
use Rattle.rules.specs.Listing.{label}
use Rattle.pages.proofs.label.Goals as goal

pub returns-then-volume-eq0 : goal.returns-then-volume-eq0
unfolding label when
returns-then-volume-eq0 c = simp (eq-eqb _ _ c.if-volume-eq0.true)

pub returns : goal.returns
unfolding label when
returns c =
    let v = c.args.volume in
    let e : 36 * (v - 1) + 36 - 36 * (v - 1) ≡ 36 = omega arith in
    simp (ne_eqb _ _ c.if-volume-eq0.false, e)
