-- `finding::go_on` meets its contract. Assumes nothing.
use Prim.Native.Nat.{ℕ}
use native.Mathlib.Omega.{arith}
use mathlib.Core.Path.{refl}
use lib.ListN.{length-replicate}
use Rattle.rules.specs.Tables.{lent, searching}
use Rattle.finding.proofs.Ends.{fresh, goes_on}
use Rattle.finding.proofs.go_on.Goals as goal

pub mark_found-requires : goal.mark_found-requires
mark_found-requires c =
    let s = c.requires.countable in
    fresh _ _ _ s.stands s.labelled s.few

pub passed-next-requires : goal.passed-next-requires
passed-next-requires c =
    let s = c.requires.countable in
    record { near = rw c.limits_of-limits.ensures s.near; each = s.inside }

pub returns : goal.returns
returns c = λ rest tags-is listable.
    let s = c.requires.countable in
    goes_on (lent _ _ (searching rest _)) _ _ _ s.runs-are (λ e. omega (arith, e, length-replicate {A = ℕ} 512 0))
    (c.mark_found.ensures _ (record { elements-is = refl; tags-is = tags-is; search_is = refl })) _ _ _ _ c.wipe.ensures c.put_next.ensures
    (rw (c.query_of-q.ensures, c.limits_of-limits.ensures) at (c.passed-next.ensures.value _ listable))
