-- `mode::with_capabilities` meets its contract. Assumes nothing.
use native.Mathlib.Omega.{arith}
use mathlib.Core.Path.{sym, ◌∙◌}
use Rattle.rules.proofs.Writes.{put-nothing}
use Rattle.rules.specs.Mode.{capabilities}
use Rattle.mode.proofs.Pages.{bytes-sought, piece-sought, piece-passed}
use Rattle.mode.proofs.with_capabilities.Goals as goal

pub capabilities-requires : goal.capabilities-requires
capabilities-requires c =
    let e = bytes-sought _ _ 18 (sym c.sought.ensures ∙ c.if-sought.true) in
    omega (arith, e, c.requires)

pub returns-then-sought : goal.returns-then-sought
returns-then-sought c =
    rw (piece-sought _ _ capabilities (sym c.sought.ensures ∙ c.if-sought.true)) c.capabilities.ensures

pub returns-else-sought : goal.returns-else-sought
returns-else-sought c = rw (piece-passed _ _ capabilities (sym c.sought.ensures ∙ c.if-sought.false)) (sym (put-nothing _ _))
