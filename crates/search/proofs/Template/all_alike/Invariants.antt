-- `search::Template::all_alike`: at the loop's head the bytes before i go with the label's. Assumes nothing.
use Rattle.search.proofs.Templates.{Alike}
use Rattle.search.proofs.Template.all_alike.Given as goal

abbrev pub invariant-loop-i : goal.invariant-loop-i
invariant-loop-i l = Alike l.self.search.now l.label l.self.used l.i
