-- `listing::page_bytes` meets its contract. Assumes nothing.
use native.Mathlib.Omega.{arith}
use Rattle.rules.specs.Choice.{when}
use borrow.Author.Tests.{eq-eqb, ne_eqb}
use Rattle.pages.specs.Pages.{page_bytes}
use Rattle.pages.proofs.Descriptor.{times-width}
use Rattle.listing.proofs.page_bytes.Goals as goal

pub returns-then-m-eq0 : goal.returns-then-m-eq0
unfolding page_bytes when
returns-then-m-eq0 c = simp (eq-eqb _ _ c.if-m-eq0.true)

pub overflow_mul-result : goal.overflow_mul-result
overflow_mul-result c = omega (arith, rw (← c.width.ensures) at (times-width c.args.tagged c.args.m c.requires))

pub overflow_add-result : goal.overflow_add-result
overflow_add-result c = omega (arith, rw (← c.width.ensures) at (times-width c.args.tagged c.args.m c.requires))

pub returns : goal.returns
unfolding page_bytes when
returns c = simp (ne_eqb _ _ c.if-m-eq0.false) (rw c.width.ensures)
