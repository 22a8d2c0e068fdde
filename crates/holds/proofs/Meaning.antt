-- RESERVE's answer, and what it means: what the rules say. Assumes nothing.
use Prim.Native.Nat.{ℕ, zero, suc, ◌%◌}
use mathlib.Core.Path.{◌≡◌, refl}
use mathlib.Core.List.{List, [], ◌∷◌}
use mathlib.Core.Bool.{Bool, true, false}
use Rattle.std.specs.Prelude.{Ok, Err}
use Rattle.rules.specs.Choice.{when, any_of, differ}
use Rattle.rules.specs.Bytes.{byte}
use Rattle.rules.specs.Tables.{Tables, HoldUnit}
use Rattle.rules.specs.Roster.{Slot, roster}
use Rattle.rules.specs.Order.{ListField, WrongAddress, refused, conflict, good}
use Rattle.rules.specs.Holds.{reserved_bytes, unknown, too_many, named_before, wrong_address, faults_from, of_unit, reserve_unit, reserve_elements, reserve}
use Rattle.rules.proofs.Ladder.{yes, no, eq_is, eq-not, when-of}
use Rattle.tables.specs.declared.Range.{Range}
use Rattle.tables.specs.Ranges.{laid}
use Rattle.tables.proofs.Roster.{runs-laid}
use Rattle.order.specs.declared.Cause.TheVariants.{ListField as Fields}
use Rattle.order.specs.Ending.{reason, verdict}
use Rattle.order.specs.Holders.{any_other}
use Rattle.lists.specs.Named.{span_at, wrong, looked_up_then, judged_at}
use Rattle.holds.specs.Judged.{Ruling, on_named, judged_from, elements_by, meaning, LaidOut, Reservable}

-- ---- RESERVE of elements

module _ (ss : List Slot) (h i : ℕ) (list : List ℕ) (rest : Ruling) where
  judged-means : (n k : ℕ) → meaning ss h i list (judged_from ss list n k rest) ≡ faults_from ss h list n k (meaning ss h i list rest)
  unfolding judged_from judged_at looked_up_then faults_from wrong_address on_named meaning verdict reason any_of when
  judged-means zero k = refl
  judged-means (suc n) k = go (differ (reserved_bytes list k) 0) (unknown ss list k) (too_many ss list k) (named_before ss list k) (judged-means n (suc k))
    where
      go : (a b c d : Bool) → meaning ss h i list (judged_from ss list n (suc k) rest) ≡ faults_from ss h list n (suc k) (meaning ss h i list rest)
          → meaning ss h i list
          (on_named (when a (Err Fields) (when b wrong (when c wrong (when d wrong (Ok (span_at ss list k))))))
          (judged_from ss list n (suc k) rest))
          ≡ when a (refused h ListField) (when (any_of (b ∷ c ∷ d ∷ [])) (refused h WrongAddress) (faults_from ss h list n (suc k) (meaning ss h i list rest)))
      go true b c d ih = refl
      go false true c d ih = refl
      go false false true d ih = refl
      go false false false true ih = refl
      go false false false false ih = ih

elements-mean : (t : Tables) (h i : ℕ) (list : List ℕ)
    → meaning (roster t.head) h i list (elements_by (roster t.head) t.elements h i list) ≡ reserve_elements t h i list
unfolding elements_by meaning verdict reserve_elements reason
elements-mean t h i list = simp (when-of (meaning (roster t.head) h i list), judged-means)

-- ---- RESERVE of the unit, after the search r

module _ (t : Tables) (h : ℕ) (r : Bool) (is : r ≡ any_other t.elements h) where
  pub unit-taken : r ≡ true → conflict h ≡ reserve_unit t h
  unfolding reserve_unit any_other
  unit-taken e = yes r _ _ _ _ is e refl

  pub unit-free : r ≡ false → good h (HoldUnit h ∷ []) ≡ reserve_unit t h
  unfolding reserve_unit any_other
  unit-free e = no r _ _ _ _ is e refl

-- ---- from what RESERVE asks for

module _ (runs : List Range) (head elements : List ℕ) (asked : Reservable runs head elements) where
  pub same-roster : laid runs ≡ roster head
  same-roster = runs-laid runs head asked.runs-are

  pub lays-out : LaidOut runs elements
  lays-out = record { elements-long = rw same-roster asked.elements-long; few = rw same-roster asked.few }

module _ (t : Tables) (h : ℕ) (block list : List ℕ) where
  pub reserves-unit : byte block 1 % 2 ≡ 0 → reserve_unit t h ≡ reserve t h block list
  unfolding reserve of_unit
  reserves-unit e = eq_is (byte block 1 % 2) 0 _ _ _ e refl

  pub reserves-elements : (byte block 1 % 2 ≡ 0 → ⊥) → (ss : List Slot) → ss ≡ roster t.head
      → meaning ss h (byte block 2) list (elements_by ss t.elements h (byte block 2) list) ≡ reserve t h block list
  unfolding reserve of_unit
  reserves-elements e ss is = eq-not (byte block 1 % 2) 0 _ _ _ e (rw is (elements-mean t h (byte block 2) list))
