-- `listing::Tally::step` meets its contract. Assumes nothing.
use native.Mathlib.Omega.{arith}
use Rattle.listing.specs.Counting.{step_by}
use Rattle.pages.proofs.Descriptor.{page-bytes-few}
use Rattle.listing.proofs.Tally.step.Goals as goal

pub overflow_add-result-2 : goal.overflow_add-result-2
overflow_add-result-2 c =
    let w = c.requires.within in
    let u = page-bytes-few c.args.q.tagged c.args.p.m (omega (arith, w.1.sum, w.1.few)) in
    omega (arith, c.page_bytes.ensures, u, w.0.at)

pub overflow_add-result-4 : goal.overflow_add-result-4
overflow_add-result-4 c =
    let w = c.requires.within in
    let u = page-bytes-few c.args.q.tagged c.args.p.n (omega (arith, w.1.sum)) in
    omega (arith, c.page_bytes-2.ensures, u, w.0.total)

pub returns : goal.returns
unfolding step_by
returns c =
    rw (
      c.behind.ensures,
      c.lead.ensures,
      c.saturating_sub-2.ensures,
      c.page_bytes-2.ensures,
      c.page_bytes.ensures,
      c.rest.ensures,
      c.saturating_sub.ensures,
      c.skip.ensures,
    )
