-- `search::Template::agrees` meets its contract. Assumes nothing.
use Rattle.search.proofs.Templates.{agree-is}
use Rattle.search.proofs.Template.agrees.Goals as goal

pub returns-then-self-lt-AT_ONCE : goal.returns-then-self-lt-AT_ONCE
returns-then-self-lt-AT_ONCE c = agree-is _ _ _ _ c.args.self.now.ready _ c.all_alike.ensures

pub returns : goal.returns
returns c = agree-is _ _ _ _ c.args.self.now.ready _ c.none_missed.ensures
