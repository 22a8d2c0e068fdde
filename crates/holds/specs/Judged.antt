-- RESERVE judged as the code goes, and what each answer means in the rules; the element table that a grant leaves. Assumes nothing.
use Rattle.std.specs.Prelude.{ℕ, zero, suc, ◌-◌, ◌*◌, ◌<◌, ◌≤◌, ◌≡◌, List, Bool, Result, Ok, Err, length, get_or}
use Rattle.rules.specs.Choice.{when, any_from, each}
use Rattle.rules.specs.Tables.{element_size, most_elements, places, held_at, freed_at, Under}
use Rattle.rules.specs.Roster.{Slot, roster}
use Rattle.rules.specs.Order.{Verdict, good}
use Rattle.rules.specs.Holds.{descriptors, wrong_list_length, taken, conflicts, granted}
use Rattle.tables.specs.declared.Range.{Range}
use Rattle.tables.specs.Ranges.{laid, Runs}
use Rattle.order.specs.declared.Cause.{Cause}
use Rattle.order.specs.declared.Cause.TheVariants.{ListLength}
use Rattle.order.specs.declared.Refusal.{Refusal}
use Rattle.order.specs.declared.Refusal.TheVariants.{For, Conflict}
use Rattle.order.specs.Ending.{verdict}
use Rattle.lists.specs.declared.Span.{Span}
use Rattle.lists.specs.Named.{judged_at, marked}

-- ---- RESERVE, rung for rung

-- one of the elements of a span is taken
unfoldable pub taken_in : List ℕ → ℕ → ℕ → Span → Bool
taken_in elements h i s = any_from (taken elements h i) (s.end - s.first) s.first

abbrev pub nowhere : Span
nowhere = record { first = 0; end = 0 }

-- one of those that the k-th descriptor names is
unfoldable pub taken_of : List ℕ → ℕ → ℕ → List Span → ℕ → Bool
taken_of elements h i spans k = taken_in elements h i (get_or spans k nowhere)

-- that the elements are to be held, or why they are not
abbrev pub Ruling : Type 0
Ruling = Result (Unit {0}) Refusal

-- a fault of a descriptor, or what follows
unfoldable pub on_named : Result Span Cause → Ruling → Ruling
on_named (Err c) rest = Err (For c)
on_named (Ok s) rest = rest

-- the first fault of the n descriptors from k on, or what follows
unfoldable pub judged_from : List Slot → List ℕ → ℕ → ℕ → Ruling → Ruling
judged_from ss list zero k rest = rest
judged_from ss list (suc n) k rest = on_named (judged_at ss list k) (judged_from ss list n (suc k) rest)

unfoldable pub elements_by : List Slot → List ℕ → ℕ → ℕ → List ℕ → Ruling
elements_by ss elements h i list =
    when (wrong_list_length list) (Err (For ListLength))
    (judged_from ss list (descriptors list) 0 (when (conflicts ss elements h i list) (Err Conflict) (Ok tt)))

-- "a definition gives this paper's number and values for each case"
unfoldable pub meaning : List Slot → ℕ → ℕ → List ℕ → Ruling → Verdict
meaning ss h i list (Ok held) = good h (granted ss h i list)
meaning ss h i list (Err why) = verdict h why

-- ---- what the functions ask for

-- the element table that the runs lay out, with a mark for each place
pub record LaidOut (runs : List Range) (elements : List ℕ) : Type 0 where
  pub elements-long : length elements ≡ element_size * length (laid runs)
  pub few : length (laid runs) ≤ most_elements

-- the spans are inside the element table
abbrev pub Bounded : List ℕ → List Span → Type 0
Bounded elements spans = (k : ℕ) → k < length spans → element_size * (get_or spans k nowhere).end ≤ length elements

-- RESERVE
pub record Reservable (runs : List Range) (head elements : List ℕ) : Type 0 where
  pub runs-are : Runs runs head
  pub elements-long : length elements ≡ element_size * length (roster head)
  pub few : length (roster head) ≤ most_elements

-- ---- the grant, in one pass

unfoldable pub settled_at : List ℕ → ℕ → ℕ → ℕ → List ℕ → List ℕ
settled_at marks h i p elements = when (marked marks p) (held_at h i p elements) (freed_at (Under h i) p elements)

unfoldable pub settled : List ℕ → ℕ → ℕ → List ℕ → List ℕ
settled marks h i elements = each (settled_at marks h i) (places elements) 0 elements
