-- `replay::replay` meets its contract. Assumes nothing.
use mathlib.Core.Path.{sym}
use Rattle.rules.specs.Tables.{lent}
use Rattle.replay.proofs.Ways.{told-ends, head-whole, search-whole, unsound, kept-whole, ends_whole}
use Rattle.replay.proofs.replay.Goals as goal

pub returns-in_default : goal.returns-in_default
returns-in_default c = told-ends _ _ _ _ _ _ _ c.told.ensures (unsound (lent _ _ _) _ _ _ (sym c.in_default.ensures.value))

pub unwrap-head-requires : goal.unwrap-head-requires
unwrap-head-requires c = c.as_mut_array.ensures.variant.1 (head-whole _ _ c.args.fixed _ (sym c.in-Some.ensures.value))

pub unwrap-search-requires : goal.unwrap-search-requires
unwrap-search-requires c = c.as_mut_array-2.ensures.variant.1 (search-whole _ _ c.args.fixed _ (sym c.in-Some.ensures.value))

pub turns-requires : goal.turns-requires
turns-requires c =
    let head = rw c.unwrap-head.ensures at c.as_mut_array.ensures.cases in
    let search = rw c.unwrap-search.ensures at c.as_mut_array-2.ensures.cases in
    kept-whole _ _ _ _ (sym c.in-Some.ensures.value) _ _ head.same search.same _ c.in-Some.ensures.runs

pub returns : goal.returns
returns c =
    let head = rw c.unwrap-head.ensures at c.as_mut_array.ensures.cases in
    let search = rw c.unwrap-search.ensures at c.as_mut_array-2.ensures.cases in
    ends_whole _ _ _ _ (sym c.in-Some.ensures.value) _ _ head.same search.same _ _ _ _ _ _ _ c.turns.ensures
