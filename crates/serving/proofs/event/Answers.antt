-- `serving::event` meets its contract. Assumes nothing.
use Rattle.std.proofs.Common.{rules}
use native.Mathlib.Omega.{arith}
use mathlib.Core.Path.{◌≡◌, refl, sym, ◌∙◌}
use Rattle.rules.specs.Tables.{lent}
use Rattle.order.specs.Ending.{numbered}
use Rattle.tables.specs.Lent.{rest_of}
use Rattle.events.proofs.Events.{possible}
use Rattle.serving.proofs.Supply.{head-whole, search-whole, importable}
use Rattle.serving.proofs.Ends.{unsound-ends, happened-is}
use Rattle.serving.proofs.event.Goals as goal

pub returns-in-None : goal.returns-in-None
unfolding numbered
returns-in-None c = unsound-ends _ (lent _ _ _) _ c.numbered.ensures (sym c.in-None.ensures.value)

pub unwrap-requires : goal.unwrap-requires
unwrap-requires c = c.as_mut_array.ensures.variant.1 (search-whole _ _ _ (sym c.in-Some.ensures.value))

pub occur-requires-clause-head_long : goal.occur-requires-clause-head_long
occur-requires-clause-head_long c = omega (arith, head-whole _ _ _ (sym c.in-Some.ensures.value))

pub occur-requires-clause-possible : goal.occur-requires-clause-possible
occur-requires-clause-possible c = possible _ _ _ _ _ (importable _ _ _ (sym c.in-Some.ensures.value) _ c.in-Some.ensures.runs)

pub returns-in-Some : goal.returns-in-Some
returns-in-Some c =
    let k : c.unwrap.result.now ≡ c.args.search.now = search rules in
    (rw k at c.occur.ensures (rest_of c.args.fixed c.args.search.now) refl) (sym c.in-Some.ensures.value) ∙ happened-is _ _
