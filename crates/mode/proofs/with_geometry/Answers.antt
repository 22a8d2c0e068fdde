-- `mode::with_geometry` meets its contract. Assumes nothing.
use native.Mathlib.Omega.{arith}
use mathlib.Core.Path.{sym, ◌∙◌}
use Prim.Native.Nat.{◌*◌}
use Rattle.rules.proofs.Writes.{put-nothing}
use Rattle.mode.proofs.Pages.{bytes-sought, bytes-passed, piece-sought, piece-passed}
use Rattle.mode.proofs.with_geometry.Goals as goal

pub geometry-requires : goal.geometry-requires
geometry-requires c =
    (omega (arith, bytes-sought _ _ (2 * c.args.n) (sym c.sought.ensures ∙ c.if-sought.true), c.requires.0), omega (arith, bytes-sought _ _ (2 * c.args.n) (sym c.sought.ensures ∙ c.if-sought.true), c.requires.1))

pub overflow_mul-result : goal.overflow_mul-result
overflow_mul-result c = omega (arith, bytes-sought _ _ (2 * c.args.n) (sym c.sought.ensures ∙ c.if-sought.true), c.requires.1)

pub overflow_add-result : goal.overflow_add-result
overflow_add-result c = omega (arith, bytes-sought _ _ (2 * c.args.n) (sym c.sought.ensures ∙ c.if-sought.true), c.requires.1)

pub overflow_add-result-then-sought : goal.overflow_add-result-then-sought
overflow_add-result-then-sought c = omega (arith, bytes-sought _ _ (2 * c.args.n) (sym c.sought.ensures ∙ c.if-sought.true), c.requires.0, c.well_formed)

pub returns-then-sought : goal.returns-then-sought
returns-then-sought c =
    record { d_after = rw (piece-sought _ _ _ (sym c.sought.ensures ∙ c.if-sought.true)) c.geometry.ensures; value = omega (arith, bytes-sought _ _ (2 * c.args.n) (sym c.sought.ensures ∙ c.if-sought.true)) }

pub returns : goal.returns
returns c =
    let no = sym c.sought.ensures ∙ c.if-sought.false in
    record { d_after = rw (piece-passed _ _ _ no) (sym (put-nothing _ _)); value = omega (arith, bytes-passed _ _ (2 * c.args.n) no) }
