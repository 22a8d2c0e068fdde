-- `form::lower` meets its contract. Assumes nothing.
use mathlib.Core.Path.{sym, ◌∙◌}
use Rattle.form.proofs.Lowest.{lower-second, lower-first, lower-both}
use Rattle.form.proofs.lower.Goals as goal

pub returns-in-None-default : goal.returns-in-None-default
returns-in-None-default c = λ m n e f. lower-second _ m n (sym c.in-None-default.is-0 ∙ e) f

pub returns-in_default-None : goal.returns-in_default-None
returns-in_default-None c = λ m n e f. lower-first _ m n e (sym c.in_default-None.is-1 ∙ f)

pub returns-in-Some-Some : goal.returns-in-Some-Some
returns-in-Some-Some c = λ m n e f.
    let both = lower-both c.in-Some-Some.i c.in-Some-Some.j m n (sym c.in-Some-Some.is-0 ∙ e) (sym c.in-Some-Some.is-1 ∙ f) in cc
