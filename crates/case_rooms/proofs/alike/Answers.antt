-- `case_rooms::alike` meets its contract: it finds the first bytes that differ. Assumes nothing.
use Rattle.std.proofs.Common.{◌∙◌, refl, rules, tests}
use Rattle.std.proofs.lemmas.Iterator.{YieldsList-from_slice, YieldsList-from_zip}
use Rattle.std.proofs.lemmas.Iterator.Search.{position_from_yields_List}
use Rattle.std.proofs.lemmas.List.Sums.{prefix_len-le-length}
use Rattle.std.proofs.lemmas.Slice.Zip.{length-zip}
use Rattle.std.specs.List.{zip}
use Rattle.case_rooms.proofs.Fronts.{differ, alike_is, found_is}
use Rattle.case_rooms.proofs.alike.Goals as goal

pub returns : goal.returns
returns c =
    let xs = c.args.found.now in
    let ys = c.args.expected.now in
    found_is _ _ _ _
    (position_from_yields_List differ c.position.new.self _ _ c.position.ensures.ran
    (YieldsList-from_zip (YieldsList-from_slice xs cc) (YieldsList-from_slice ys cc)) (λ x b q k. search (rules, tests)))
    (prefix_len-le-length _ (zip xs ys)) (c.unwrap_or.ensures ∙ rw (c.min-both.ensures, length-zip) refl)
    ∙ alike_is xs ys
