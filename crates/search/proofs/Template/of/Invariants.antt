-- `search::Template::of`: at the loop's head the bytes before i are told of, and none of them is '*'. Assumes nothing.
use Rattle.search.specs.Marks.{Caring}
use Rattle.search.proofs.Template.of.Given as goal

abbrev pub invariant-loop-i : goal.invariant-loop-i
invariant-loop-i l = Caring l.search l.care l.i
