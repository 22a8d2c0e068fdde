-- `finding::request_volume_element_address` meets its contract. Assumes nothing.
use Prim.Native.Nat.{ℕ}
use native.Mathlib.Omega.{arith}
use mathlib.Core.Path.{refl}
use lib.ListN.{length-replicate}
use Rattle.rules.specs.Tables.{lent, searching}
use Rattle.listing.proofs.Ends.{some_number}
use Rattle.finding.proofs.Ends.{fresh, ends-good, ends-refused}
use Rattle.finding.proofs.request_volume_element_address.Goals as goal

pub mark_found-requires : goal.mark_found-requires
mark_found-requires c =
    let s = c.requires.findable in
    fresh _ _ _ s.reads.listable.stands s.reads.listable.labels.volumes s.few

pub list-told-requires : goal.list-told-requires
list-told-requires c =
    let s = c.requires.findable in
    record { near = rw c.limits_of-limits.ensures s.near; listable = s.reads.listable }

pub put_next-requires : goal.put_next-requires
put_next-requires c = c.list-told.ensures.next_value.1

pub returns-in-Ok : goal.returns-in-Ok
returns-in-Ok c = λ rest lends.
    let s = c.requires.findable in
    let answered = rw (c.query_of-q.ensures, c.limits_of-limits.ensures, c.in-Ok.is) at c.list-told.ensures.answers in
    rw c.told.ensures
    (ends-good (lent _ _ (searching rest _)) _ _ _ s.reads.runs-are (λ e. omega (arith, e, length-replicate {A = ℕ} 512 0))
    (c.mark_found.ensures _ (record { elements-is = refl; tags-is = lends.tags-is; search_is = refl })) _ _ _ _ c.wipe.ensures c.put_next.ensures
    (rw (c.query_of-q.ensures, c.limits_of-limits.ensures, ← lends.tags-is, ← lends.blank-is) at c.list-told.ensures.next_value.0)
    _ _ _ (rw (lends.tags-is, lends.blank-is) answered) refl)

pub returns-in-Err : goal.returns-in-Err
returns-in-Err c = λ rest lends.
    let s = c.requires.findable in
    let answered = rw (c.query_of-q.ensures, c.limits_of-limits.ensures, c.in-Err.is) at c.list-told.ensures.answers in
    rw c.numbered.ensures
    (ends-refused (lent _ _ (searching rest _)) _ _ _ s.reads.runs-are (λ e. omega (arith, e, length-replicate {A = ℕ} 512 0))
    (c.mark_found.ensures _ (record { elements-is = refl; tags-is = lends.tags-is; search_is = refl })) _ _ _ _
    (rw (lends.tags-is, lends.blank-is) answered) (some_number _))
