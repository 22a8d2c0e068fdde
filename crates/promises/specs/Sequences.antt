-- "any sequence from sound tables ends where the rules, one by one, end." Assumes nothing.
use Rattle.std.specs.Prelude.{◌≡◌, ◌≢◌, true}
use mathlib.Core.List.{List, Memᴰ}
use Rattle.rules.specs.Tables.{Tables}
use Rattle.rules.specs.Sound.{sound}
use Rattle.rules.specs.Order.{Outcome}
use Rattle.rules.specs.Command.{Call}
use Rattle.rules.specs.Histories.{run, outcomes, History}

-- calls cs on tables t, answered with outcomes os, to tables u
pub record AsTheRules (t : Tables) (cs : List Call) (os : List Outcome) (u : Tables) : Type 0 where
  pub outcomes-are : os ≡ outcomes t cs
  pub tables-are : u ≡ run t cs
  pub sound-still : sound u ≡ true
  -- "One that works only for the first command falls to this"
  pub never-unsound : (o : Outcome) → Memᴰ o os → o.number ≢ 1

abbrev pub Sequences : Type 0
Sequences = (t u : Tables) (cs : List Call) (os : List Outcome) → History t cs os u → sound t ≡ true → AsTheRules t cs os u
