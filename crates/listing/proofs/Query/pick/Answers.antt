-- `listing::Query::pick` meets its contract. Assumes nothing.
use mathlib.Core.Path.{sym, ◌∙◌}
use native.Mathlib.Omega.{arith}
use Rattle.tables.specs.Ranges.{meaning}
use Rattle.listing.proofs.Parts.{picks-suited, picks-unsuited}
use Rattle.listing.proofs.Query.pick.Goals as goal

pub count-requires : goal.count-requires
count-requires c = (omega (arith, c.skip-skip.ensures), omega (arith, c.saturating_sub-n.ensures))

pub returns-then-asks_for : goal.returns-then-asks_for
returns-then-asks_for c =
    let a = c.args in
    rw (c.min.ensures, c.count.ensures, c.saturating_sub-n.ensures, c.skip-skip.ensures)
    (sym (picks-suited _ a.self a.s (meaning a.r) (sym c.asks_for.ensures ∙ c.if-asks_for.true)))

pub returns : goal.returns
returns c =
    let a = c.args in
    sym (picks-unsuited _ a.self a.s (meaning a.r) (sym c.asks_for.ensures ∙ c.if-asks_for.false))
