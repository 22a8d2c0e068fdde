-- What other hosts hold. Assumes nothing.
use Rattle.std.specs.Prelude.{ℕ, List, Bool}
use Rattle.rules.specs.Choice.{any_from}
use Rattle.rules.specs.Tables.{places, holder}
use Rattle.rules.specs.Order.{other}

-- another host than h holds an element
unfoldable pub any_other : List ℕ → ℕ → Bool
any_other elements h = any_from (λ p. other h (holder elements p)) (places elements) 0
