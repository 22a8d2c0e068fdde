-- `mode::no_answer` meets its contract. Assumes nothing.
use mathlib.Core.Path.{sym, ◌∙◌}
use Rattle.rules.specs.Bytes.{byte}
use Rattle.rules.specs.Mode.{page_control}
use Rattle.mode.proofs.Pages.{other-control, other-page, too_long}
use Rattle.mode.proofs.no_answer.Goals as goal

pub returns-then-block-ne0 : goal.returns-then-block-ne0
unfolding page_control byte
returns-then-block-ne0 c = let a = c.args in other-control a.head.now a.block.now c.if-block-ne0.true

pub returns-then-known : goal.returns-then-known
unfolding page_control byte
returns-then-known c =
    let a = c.args in
    too_long a.head.now a.block.now _ _ c.if-block-ne0.false c.page_code-code.ensures (sym c.known.ensures ∙ c.if-known.true) c.whole_bytes.ensures

pub returns : goal.returns
returns c =
    let a = c.args in
    other-page a.head.now a.block.now _ c.page_code-code.ensures (sym c.known.ensures ∙ c.if-known.false)
