-- `search::Template::none_missed`: at the loop's head `missed` tells of the bytes before i. Assumes nothing.
use Rattle.search.proofs.Templates.{Missing}
use Rattle.search.proofs.Template.none_missed.Given as goal

abbrev pub invariant-loop-i : goal.invariant-loop-i
invariant-loop-i l = Missing l.self.search.now l.label l.self.used l.missed l.i
