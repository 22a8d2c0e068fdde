-- `search::mark_run` meets its contract. Assumes nothing.
use Rattle.std.proofs.Common.{not}
use Prim.Native.Nat.{min}
use mathlib.Core.Path.{ap, ◌∙◌}
use Rattle.rules.specs.Tables.{next_address}
use Rattle.search.proofs.Places.{run-passed, run-marked}
use Rattle.search.proofs.mark_run.Goals as goal

pub returns-then-not-looks_for : goal.returns-then-not-looks_for
returns-then-not-looks_for c =
    run-passed _ _ _ _ _ _ c.requires _ c.looks_for.ensures (ap not c.if-not-looks_for.true)

pub returns : goal.returns
unfolding next_address
returns c =
    run-marked _ _ _ _ _ _ c.requires _ c.looks_for.ensures (ap not c.if-not-looks_for.false) _ _ c.triple_at-next.ensures
    (c.min-passed.ensures ∙ ap (min _) c.saturating_sub.ensures) _ c.mark_places.ensures
