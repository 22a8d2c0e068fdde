-- RESERVE's list as the code reads it: what a descriptor names or its fault, and the places named so far. Assumes nothing.
use Rattle.std.specs.Prelude.{ℕ, ◌+◌, ◌≤◌, ◌<◌, ◌≡◌, List, Bool, Result, Ok, Err, length, get_or, set, eqb}
use Rattle.rules.specs.Choice.{when, differ, any_from}
use Rattle.rules.specs.Tables.{most_elements}
use Rattle.rules.specs.Roster.{Slot}
use Rattle.rules.specs.Holds.{descriptors, reserved_bytes, first, many, unknown, too_many, named_before}
use Rattle.order.specs.declared.Cause.{Cause}
use Rattle.order.specs.declared.Cause.TheVariants.{ListField, WrongAddress}
use Rattle.lists.specs.declared.Span.{Span}

-- ---- the k-th descriptor, from 0

-- the elements that it names
abbrev pub span_at : List Slot → List ℕ → ℕ → Span
span_at ss list k = record { first = first ss list k; end = first ss list k + many ss list k }

-- "an unknown address or too many"
abbrev pub wrong : Result Span Cause
wrong = Err WrongAddress

-- one rung for each test, and what follows: reserved bytes, unknown, too many
unfoldable pub looked_up_then : List Slot → List ℕ → ℕ → Result Span Cause → Result Span Cause
looked_up_then ss list k rest =
    when (differ (reserved_bytes list k) 0) (Err ListField) (when (unknown ss list k) wrong (when (too_many ss list k) wrong rest))

abbrev pub looked_up : List Slot → List ℕ → ℕ → Result Span Cause
looked_up ss list k = looked_up_then ss list k (Ok (span_at ss list k))

-- and, last, named before
unfoldable pub judged_at : List Slot → List ℕ → ℕ → Result Span Cause
judged_at ss list k = looked_up_then ss list k (when (named_before ss list k) wrong (Ok (span_at ss list k)))

-- ---- a mark for each place

unfoldable pub marked : List ℕ → ℕ → Bool
marked marks p = differ (get_or marks p 0) 0

unfoldable pub mark_at : ℕ → List ℕ → List ℕ
mark_at p marks = set marks p 1

-- the k-th descriptor names the element at a place
unfoldable pub names : List Slot → List ℕ → ℕ → ℕ → Bool
names ss list k p = any_from (λ q. eqb q p) (many ss list k) (first ss list k)

-- one of the first n does
unfoldable pub named : List Slot → List ℕ → ℕ → ℕ → Bool
named ss list n p = any_from (λ k. names ss list k p) n 0

-- of the first n descriptors each names an element, and all that they name is marked, and nothing else
pub record Marks (ss : List Slot) (list : List ℕ) (n : ℕ) (marks : List ℕ) : Type 0 where
  pub wide : length marks ≡ most_elements
  pub some : (k : ℕ) → k < n → 1 ≤ many ss list k
  pub told : (p : ℕ) → p < most_elements → marked marks p ≡ named ss list n p

-- the k-th descriptor can be judged: there are marks enough, and those for the descriptors before it
pub record Judging (ss : List Slot) (list : List ℕ) (k : ℕ) (marks : List ℕ) : Type 0 where
  pub few : length ss ≤ most_elements
  pub there : k < descriptors list
  pub so_far : Marks ss list k marks

-- where nothing was wrong, it names elements of the table, which are marked too
abbrev pub Judged : List Slot → List ℕ → ℕ → List ℕ → Result Span Cause → Type 0
Judged ss list n marks (Err c) = Unit {0}
Judged ss list n marks (Ok s) = (s.first ≤ s.end) × (s.end ≤ length ss) × Marks ss list n marks
