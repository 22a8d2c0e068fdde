-- `listing::Query::choose` meets its contract. Assumes nothing.
use mathlib.Core.Path.{sym, ◌∙◌}
use native.Mathlib.Omega.{arith}
use Rattle.tables.specs.Ranges.{meaning}
use Rattle.listing.proofs.Parts.{picked-few, some_one, none-part}
use Rattle.listing.proofs.Query.choose.Goals as goal

pub returns-then-n-eq0 : goal.returns-then-n-eq0
returns-then-n-eq0 c =
    let a = c.args in
    let d = c.default.ensures in
    none-part a.marks.now a.self a.s (meaning a.r) _ d.0 d.1.0 d.1.1.0 d.1.1.1 (sym c.pick-n.ensures ∙ c.if-n-eq0.true)

pub fit-m-requires : goal.fit-m-requires
fit-m-requires c =
    let a = c.args in
    omega (arith, rw (← c.pick-n.ensures) at (picked-few a.marks.now a.self a.s (meaning a.r)).1)

pub returns : goal.returns
returns c =
    rw (some_one _ (λ z. c.if-n-eq0.false (c.pick-n.ensures ∙ z)))
    (rw (c.reach-run.ensures, c.reach-lead.ensures, c.saturating_sub-count.ensures, c.skip-skip.ensures, c.fit-m.ensures, c.pick-n.ensures))
