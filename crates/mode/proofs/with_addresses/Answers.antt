-- `mode::with_addresses` meets its contract. Assumes nothing.
use native.Mathlib.Omega.{arith}
use mathlib.Core.Path.{sym, ◌∙◌}
use Rattle.rules.proofs.Writes.{put-nothing}
use Rattle.mode.proofs.Pages.{bytes-sought, bytes-passed, piece-sought, piece-passed}
use Rattle.mode.proofs.with_addresses.Goals as goal

pub addresses-requires : goal.addresses-requires
addresses-requires c =
    let e = bytes-sought _ _ 18 (sym c.sought.ensures ∙ c.if-sought.true) in
    omega (arith, e, c.requires.room)

pub returns-then-sought : goal.returns-then-sought
returns-then-sought c =
    let yes = sym c.sought.ensures ∙ c.if-sought.true in
    record { d_after = rw (piece-sought _ _ _ yes) c.addresses.ensures; value = omega (arith, bytes-sought _ _ 18 yes) }

pub returns : goal.returns
returns c =
    let no = sym c.sought.ensures ∙ c.if-sought.false in
    record { d_after = rw (piece-passed _ _ _ no) (sym (put-nothing _ _)); value = omega (arith, bytes-passed _ _ 18 no) }
