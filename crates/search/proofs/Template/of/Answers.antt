-- `search::Template::of`: at the loop's head the bytes before i are told of, and none of them is '*'. Assumes nothing.
use native.Mathlib.Omega.{arith}
use borrow.Author.Rules.{rules}
use Rattle.rules.specs.Bytes.{byte}
use Rattle.search.proofs.Templates.{care-begins, care-star, care-all, care-on}
use Rattle.search.proofs.Template.of.Goals as goal

pub loop-i-init : goal.loop-i-init
loop-i-init c = care-begins _ _ (search rules)

pub loop-i-preserved : goal.loop-i-preserved
unfolding byte
loop-i-preserved c =
    care-on _ _ _ c.loop-i.invariant (omega (arith, c.loop-i-test.true)) c.if-search-i-eq-ANY_STRING.false _ c.asked.ensures

pub invariant_of-result : goal.invariant_of-result
unfolding byte
invariant_of-result c = record { ready = care-star _ _ _ c.loop-i.invariant c.if-search-i-eq-ANY_STRING.true }

pub invariant_of-result-2 : goal.invariant_of-result-2
invariant_of-result-2 c = record { ready = care-all _ _ _ c.loop-i.invariant (search rules) }
