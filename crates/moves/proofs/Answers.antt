-- What answers share: a call's result that the next call takes, a place that has a record, the panel's number. Assumes nothing.
use Prim.Native.Nat.{ℕ, ◌+◌, ◌-◌, ◌<◌, ◌≤◌}
use native.Mathlib.Omega.{arith}
use mathlib.Core.Path.{◌≡◌, ap}
use mathlib.Core.List.{List}
use lib.ListN.{length}
use lib.Dec.{eqb}
use Rattle.std.specs.Prelude.{Option, Some}
use Rattle.rules.specs.Roster.{Slot, kind_of, place_of, transport, storage}
use Rattle.rules.specs.Tables.{shown}
use Rattle.rules.proofs.Ladder.{on}
use Rattle.rules.proofs.Rungs.{below_as}
use Rattle.rules.proofs.Places.{place_in}
use Rattle.tables.specs.declared.Spot.{Spot}
use Rattle.tables.specs.declared.Types.{Types}
use Rattle.tables.specs.declared.Types.TheVariants.{Transport}
use Rattle.tables.specs.LookUp.{found, spot_of}
use Rattle.tables.proofs.LookUp.{found-by, at-below}
use Rattle.arms.specs.Used.{arm_at}
use Rattle.moves.specs.Judged.{shelf}

-- a call's argument that is itself a call's result
pub arm-by : (f : Option ℕ) (ss : List Slot) (es : List ℕ) (h x y : ℕ) → f ≡ found Transport ss (arm_at ss es h x) → x ≡ y
    → f ≡ found Transport ss (arm_at ss es h y)
arm-by f ss es h x y e q = found-by f Transport ss (arm_at ss es h x) (arm_at ss es h y) e (ap (arm_at ss es h) q)

-- a place that is told has a record
pub at-record : (ts : Types) (ss : List Slot) (a n p : ℕ) (f : Option ℕ) → length ss ≡ n → f ≡ found ts ss a → f ≡ Some p → p < n
at-record ts ss a n p f m is e = below_as p (length ss) n m (at-below ts ss a f is p e)

-- an element that is no transport has a record
pub spot-record : (s : Spot) (ss : List Slot) (x n : ℕ) → length ss ≡ n → s ≡ spot_of ss x → transport < s.kind → s.place < n
unfolding spot_of
spot-record s ss x n m is k =
    let l : transport < kind_of ss x = rw is at k in
    let i : s.place ≡ place_of ss x = rw is in
    omega (arith, place_in ss x (λ z. omega arith))

pub ruleset recorded = (spot-record)

-- ---- the panel's number

pub shelf-most : (kind : ℕ) → shelf kind ≤ 1
shelf-most kind = on (λ (n : ℕ). n ≤ 1) (eqb kind storage) (λ _. omega arith) (λ _. omega arith)

-- its parts were read by calls
pub shown_by : (head head1 : List ℕ) (n k l n' k' l' : ℕ) → head1 ≡ shown head (n + k - l) → n ≡ n' → k ≡ k' → l ≡ l'
    → head1 ≡ shown head (n' + k' - l')
shown_by head head1 n k l n' k' l' f a b d = cc
