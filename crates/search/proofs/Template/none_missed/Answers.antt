-- `search::Template::none_missed`: at the loop's head `missed` tells of the bytes before i. Assumes nothing.
use native.Mathlib.Omega.{arith}
use Rattle.rules.specs.Bytes.{byte}
use Rattle.search.proofs.Templates.{miss-begins, miss-ends, care-small, miss-same, miss-other}
use Rattle.search.proofs.Template.none_missed.Goals as goal
use Rattle.search.proofs.Template.none_missed.Goals.{then-self-i, else-self-i}

pub loop-i-init : goal.loop-i-init
loop-i-init c = miss-begins _ _ _

pub bounds-self-i : goal.bounds-self-i
bounds-self-i c =
    let made = c.args.self.now.ready in
    omega (arith, made.before.far, made.before.long, c.loop-i-test.true)

pub overflow_add-missed : goal.overflow_add-missed
unfolding byte
overflow_add-missed c =
    let at = c.loop-i.invariant in
    let made = c.args.self.now.ready in
    omega (arith, at.few, at.far, made.before.far, care-small _ _ _ made _ c.loop-i-test.true)

pub loop-i-preserved : goal.loop-i-preserved
unfolding byte
loop-i-preserved c =
    let at = c.loop-i.invariant in
    let made = c.args.self.now.ready in
    elim c.if-self-i.branch [
      | then-self-i w ↦ miss-other _ _ _ _ made _ _ at c.loop-i-test.true w.if-self-i.true _ w.missed-is
      | else-self-i w ↦ miss-same _ _ _ _ made _ _ at c.loop-i-test.true w.if-self-i.false _ w.missed-is
    ]

pub returns : goal.returns
returns c = miss-ends _ _ _ _ _ c.loop-i.invariant c.loop-i-test.false
