-- Demand 3: two hosts that have nothing to do with one another do not notice one another. Assumes nothing.
use Rattle.std.specs.Prelude.{ℕ, ◌≡◌, ◌≢◌, List, ◌++◌, map}
use Rattle.rules.specs.Tables.{Tables}
use Rattle.rules.specs.Order.{Outcome}
use Rattle.rules.specs.Command.{Request, Command}
use Rattle.rules.specs.Histories.{outcomes, History, told_to, run_requests, replies, Mixing, From, Apart}

-- each host is told what its own list alone would have told it, and the tables end as after one list and then the other
pub record AsIfAlone (h g : ℕ) (xs ys zs : List Request) (t : Tables) : Type 0 where
  pub first-host : replies h t zs ≡ replies h t xs
  pub second-host : replies g t zs ≡ replies g t ys
  pub tables : run_requests t zs ≡ run_requests t (xs ++ ys)

-- two hosts' lists of moves, exchanges, readiness tests and sense requests over disjoint addresses, in every mixing that keeps each host's
-- order, on any tables
abbrev pub Demand3 : Type 0
Demand3 =
    (h g : ℕ) → h ≢ g → (xs ys zs : List Request) → From h xs → From g ys → Apart xs ys → Mixing xs ys zs → (t : Tables)
    → AsIfAlone h g xs ys zs t

-- the runs and replies of demand 3 are those of histories: one of these requests there is, and whatever history it is, it ends in these tables and tells
-- each host these replies
pub record Lived (t : Tables) (rs : List Request) : Type 0 where
  pub lives : History t (map Command rs) (outcomes t (map Command rs)) (run_requests t rs)
  pub ends : (u : Tables) (os : List Outcome) → History t (map Command rs) os u → u ≡ run_requests t rs
  pub tells : (u : Tables) (os : List Outcome) → History t (map Command rs) os u → (h : ℕ) → told_to h rs os ≡ replies h t rs

abbrev pub RunsAreHistories : Type 0
RunsAreHistories = (t : Tables) (rs : List Request) → Lived t rs
