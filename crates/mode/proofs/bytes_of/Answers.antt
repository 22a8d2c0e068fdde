-- `mode::bytes_of` meets its contract. Assumes nothing.
use mathlib.Core.Path.{sym, ◌∙◌}
use Rattle.mode.proofs.Pages.{bytes-sought, bytes-passed}
use Rattle.mode.proofs.bytes_of.Goals as goal

pub returns-then-sought : goal.returns-then-sought
returns-then-sought c = sym (bytes-sought _ _ _ (sym c.sought.ensures ∙ c.if-sought.true))

pub returns : goal.returns
returns c = sym (bytes-passed _ _ _ (sym c.sought.ensures ∙ c.if-sought.false))
