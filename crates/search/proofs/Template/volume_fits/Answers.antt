-- `search::Template::volume_fits` meets its contract. Assumes nothing.
use Prim.Native.Nat.{◌+◌, ◌*◌, ◌-◌}
use native.Mathlib.Omega.{arith}
use mathlib.Core.Path.{◌≡◌}
use Rattle.rules.proofs.Ladder.{ladder, differ-is, all_yes}
use Rattle.rules.proofs.Rungs.{as-choice, last-of-all}
use Rattle.search.specs.Marks.{volume_fits}
use Rattle.search.proofs.Template.volume_fits.Goals as goal

pub returns-then-volume-eq0 : goal.returns-then-volume-eq0
unfolding volume_fits
returns-then-volume-eq0 c = as-choice _ _ (search ladder depth 10)

pub returns : goal.returns
unfolding volume_fits
returns c =
    let v = c.args.volume in
    let e : 36 * (v - 1) + 36 - 36 * (v - 1) ≡ 36 = omega arith in
    as-choice _ _ (all_yes _ _ _ _ _ (differ-is _ _ _ _ _ c.if-volume-eq0.false (rw (c.label_matches.ensures, c.whole.ensures, e) (last-of-all _))))
