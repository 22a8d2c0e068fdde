-- Each call ends with the number of the first condition that holds. Assumes nothing.
use mathlib.Core.Path.{subst}
use Rattle.rules.specs.Command.{serve}
use Rattle.rules.specs.Numbers.{Foremost}
use Rattle.rules.proofs.Numbers.{number-foremost, foremost-one}
use Rattle.promises.specs.Numbers.{NumbersExact}

pub numbers-exact : NumbersExact
numbers-exact t c n =
    record {
      only-when = λ e. subst (Foremost t c) e (number-foremost t c);
      whenever = λ f. foremost-one t c (serve t c).number n (number-foremost t c) f;
    }
