-- `search::Template::all_alike`: at the loop's head the bytes before i go with the label's. Assumes nothing.
use Rattle.std.proofs.Common.{ap, not}
use Rattle.rules.specs.Bytes.{byte}
use Rattle.search.specs.Marks.{goes}
use Rattle.search.proofs.Templates.{alike-begins, alike-stops, alike-on, alike-ends}
use Rattle.search.proofs.Template.all_alike.Goals as goal

pub loop-i-init : goal.loop-i-init
loop-i-init c = alike-begins _ _ _

pub returns-then-not-alike : goal.returns-then-not-alike
unfolding goes byte
returns-then-not-alike c =
    alike-stops _ _ _ _ c.loop-i.invariant c.loop-i-test.true _ c.alike.ensures (ap not c.if-not-alike.true)

pub loop-i-preserved : goal.loop-i-preserved
unfolding goes byte
loop-i-preserved c =
    alike-on _ _ _ _ c.loop-i.invariant c.loop-i-test.true _ c.alike.ensures (ap not c.if-not-alike.false)

pub returns : goal.returns
returns c = alike-ends _ _ _ _ c.loop-i.invariant c.loop-i-test.false
