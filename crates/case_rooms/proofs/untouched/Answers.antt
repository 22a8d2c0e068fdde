-- `case_rooms::untouched` meets its contract: it finds the first byte that is not EEh. Assumes nothing.
use Rattle.std.proofs.Common.{◌∙◌, rules, tests}
use Rattle.std.proofs.lemmas.Iterator.{YieldsList-from_slice}
use Rattle.std.proofs.lemmas.Iterator.Search.{position_from_yields_List}
use Rattle.std.proofs.lemmas.List.Sums.{prefix_len-le-length}
use Rattle.case_rooms.proofs.Fronts.{touched, untouched_is, found_is}
use Rattle.case_rooms.proofs.untouched.Goals as goal

pub returns : goal.returns
returns c =
    let xs = c.args.xs.now in
    found_is _ _ _ _
    (position_from_yields_List touched _ _ _ c.position.ensures.ran (YieldsList-from_slice xs c.iter.ensures.rest) (λ x b q k. search (rules, tests)))
    (prefix_len-le-length _ xs) c.unwrap_or.ensures
    ∙ untouched_is xs
