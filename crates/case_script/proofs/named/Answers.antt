-- `case_script::named` meets its contract: the table of the code is that of the definitions. Assumes nothing.
use Rattle.case_text.specs.Text.{letters}
use Rattle.case_script.specs.Names.{names, code_of}
use Rattle.case_script.proofs.named.Goals as goal

pub returns : goal.returns
unfolding code_of names letters
returns c = c.named_among.ensures
