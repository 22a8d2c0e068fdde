-- `tables::spot_of` meets its contract. Assumes nothing.
use Rattle.std.proofs.Common.{sym, ◌∙◌, rules}
use Rattle.rules.proofs.Ladder.{yes, no, ladder}
use Rattle.tables.proofs.Spots.{spot-by}
use Rattle.tables.proofs.spot_of.Goals as goal

pub spot_in-requires : goal.spot_in-requires
spot_in-requires c = record { address_value = sym c.lies_in.ensures ∙ c.if-lies_in.true; passed_bound = search rules }

pub returns-then-lies_in : goal.returns-then-lies_in
returns-then-lies_in c = spot-by _ (search rules) _ _ (c.spot_in.ensures ∙ search ladder depth 10)

pub spot_in-requires-then-lies_in-2 : goal.spot_in-requires-then-lies_in-2
spot_in-requires-then-lies_in-2 c = record { address_value = sym c.lies_in-2.ensures ∙ c.if-lies_in-2.true; passed_bound = search rules }

pub returns-then-lies_in-2 : goal.returns-then-lies_in-2
returns-then-lies_in-2 c = spot-by _ (search rules) _ _ (c.spot_in-then-lies_in-2.ensures ∙ search ladder depth 10)

pub spot_in-requires-then-lies_in-3 : goal.spot_in-requires-then-lies_in-3
spot_in-requires-then-lies_in-3 c = record { address_value = sym c.lies_in-3.ensures ∙ c.if-lies_in-3.true; passed_bound = search rules }

pub returns-then-lies_in-3 : goal.returns-then-lies_in-3
returns-then-lies_in-3 c = spot-by _ (search rules) _ _ (c.spot_in-then-lies_in-3.ensures ∙ search ladder depth 10)

pub spot_in-requires-then-lies_in-4 : goal.spot_in-requires-then-lies_in-4
spot_in-requires-then-lies_in-4 c = record { address_value = sym c.lies_in-4.ensures ∙ c.if-lies_in-4.true; passed_bound = search rules }

pub returns-then-lies_in-4 : goal.returns-then-lies_in-4
returns-then-lies_in-4 c =
    let fourth = yes _ _ _ _ _ c.lies_in-4.ensures c.if-lies_in-4.true c.spot_in-then-lies_in-4.ensures in
    let third = no _ _ _ _ _ c.lies_in-3.ensures c.if-lies_in-3.false fourth in
    let second = no _ _ _ _ _ c.lies_in-2.ensures c.if-lies_in-2.false third in
    spot-by _ (search (rules, c.well_formed)) _ _ (no _ _ _ _ _ c.lies_in.ensures c.if-lies_in.false second)

pub returns : goal.returns
returns c = spot-by _ (search rules) _ _ (search ladder depth 10)
