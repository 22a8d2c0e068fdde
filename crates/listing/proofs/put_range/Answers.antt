-- `listing::put_range` meets its contract. Assumes nothing.
use mathlib.Core.Path.{◌≡◌, sym, ap, ◌∙◌}
use native.Mathlib.Omega.{arith}
use Rattle.rules.specs.Choice.{when}
use Rattle.rules.proofs.Writes.{put-nothing}
use Rattle.pages.specs.Pages.{shown}
use Rattle.tables.specs.Ranges.{meaning}
use Rattle.listing.specs.declared.Part.{Part}
use Rattle.listing.specs.Counting.{step_of, step_bytes, fitting_at, chosen_at}
use Rattle.listing.proofs.Counted.{counts-few}
use Rattle.listing.proofs.Fitting.{fit_is}
use Rattle.listing.proofs.Parts.{picked-run, told-inside}
use Rattle.listing.proofs.put_range.Goals as goal

pub returns-then-p-eq0 : goal.returns-then-p-eq0
unfolding step_bytes shown when
returns-then-p-eq0 c =
    let a = c.args in
    let e : fitting_at a.stock.marks.now a.q a.s (meaning a.r) ≡ 0 = sym (ap (λ (p : Part). p.m) c.requires.p_value) ∙ c.if-p-eq0.true in
    rw e (sym (put-nothing _ _))

pub put_page-requires : goal.put_page-requires
unfolding step_of
put_page-requires c =
    let a = c.args in
    let marks = a.stock.marks.now in
    let r = meaning a.r in
    let i = c.requires.inside.0 in
    let z : fitting_at marks a.q a.s r ≡ 0 → ⊥ = rw c.requires.p_value at c.if-p-eq0.false in
    let k = counts-few marks a.q a.s r c.requires.inside.1.sum in
    let t = told-inside marks a.q a.s r i z in
    rw (c.skip-skip.ensures, c.requires.p_value)
    (record {
      m_in_bounds = c.requires.r_in_bounds;
      m_value = (t.0, k.1);
      run_bound = t.1.0;
      run_in_bounds = omega (arith, t.1.1, c.requires.count_in_bounds);
    })

pub returns : goal.returns
unfolding step_bytes
returns c =
    let a = c.args in
    let marks = a.stock.marks.now in
    let r = meaning a.r in
    let f = (fit_is a.q.tagged a.s.room (chosen_at marks a.q a.s r)).few in
    rw (c.put_page.ensures, c.skip-skip.ensures, c.requires.p_value, picked-run marks a.q a.s r (fitting_at marks a.q a.s r) f)
