-- `case_script::read_line` meets its contract. Assumes nothing.
use borrow.Author.Rules.{rules}
use Rattle.case_script.proofs.Bounds.{line-is, line-inside}
use Rattle.case_script.proofs.read_line.Goals as goal

pub returns-in_err-said : goal.returns-in_err-said
returns-in_err-said c =
    let find = c.find-end.ensures in
    record {
      bytes_after = line-is _ _ _ (search rules) find.lower_bound.1 _ _ c.read_text.ensures _ c.in_err-said.was _ (search rules);
      inside = line-inside _ _ _ (search rules) find.lower_bound.1 _ _ c.read_text.ensures _ c.in_err-said.was _ (search rules);
    }

pub returns : goal.returns
returns c =
    let find = c.find-end.ensures in
    record {
      bytes_after = line-is _ _ _ (search rules) find.lower_bound.1 _ _ c.read_text.ensures _ c.in_ok-said.was _ c.uncommented.ensures;
      inside = line-inside _ _ _ (search rules) find.lower_bound.1 _ _ c.read_text.ensures _ c.in_ok-said.was _ c.uncommented.ensures;
    }
