-- `pages::marks::marked` meets its contract. Assumes nothing.
use mathlib.Core.Path.{sym}
use borrow.Author.Tests.{eqb-true, eqb-false}
use Rattle.rules.specs.Choice.{differ}
use Rattle.rules.specs.Bytes.{byte}
use Rattle.pages.proofs.Marked.{all-marked, told-by, none-behind}
use Rattle.pages.proofs.marks.marked.Goals as goal

pub returns-then-is_empty : goal.returns-then-is_empty
returns-then-is_empty c = sym (all-marked _ _ (eqb-true _ _ (sym c.if-is_empty.ensures)))

pub returns-in-Some : goal.returns-in-Some
unfolding byte differ
returns-in-Some c = rw (c.in-Some.ensures.lookup.3.1 0) (sym (told-by _ _ (eqb-false _ _ (sym c.if-is_empty.ensures))))

pub returns-in-None : goal.returns-in-None
returns-in-None c = sym (none-behind _ _ (eqb-false _ _ (sym c.if-is_empty.ensures)) c.in-None.ensures.lookup.3)
