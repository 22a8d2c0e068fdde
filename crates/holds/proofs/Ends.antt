-- What a command ends with where it has more to change than its host's sense, and the verdicts that say so. Assumes nothing.
use Prim.Native.Nat.{ℕ, zero, suc, ◌*◌, ◌%◌, ◌≤◌}
use mathlib.Core.Path.{◌≡◌, refl, ap, ◌∙◌}
use mathlib.Core.List.{List, [], ◌∷◌}
use lib.ListN.{length}
use Rattle.rules.specs.Choice.{each}
use Rattle.rules.specs.Bytes.{byte}
use Rattle.rules.specs.Tables.{Tables, lent, element_size, most_elements, places, unit, mask, Change, HoldUnit, Prevent, Free, Under, Every, in_head, in_elements, change, changes, Rest}
use Rattle.rules.specs.Roster.{Slot}
use Rattle.rules.specs.Order.{Verdict, Outcome, outcome, good}
use Rattle.rules.specs.Holds.{descriptors, holds_from, granted, of_unit, release_unit, release, new_mask, prevent}
use Rattle.rules.proofs.Ladder.{eq_is, eq-not, eq_yes, eq_no}
use Rattle.order.specs.declared.Reply.{Reply}
use Rattle.order.specs.Ending.{ended}
use Rattle.lists.specs.Named.{Marks}
use Rattle.holds.specs.Judged.{settled}
use Rattle.holds.proofs.Passes.{held_by, settled_is}

-- an outcome, after which the changes cs were made
abbrev followed : List Change → Outcome → Outcome
followed cs o =
    record {
      number = o.number;
      status = o.status;
      count = o.count;
      preventers = o.preventers;
      lowest = o.lowest;
      tables = changes cs o.tables;
      buffer = o.buffer;
    }

module _ (r : Reply) (before head elements : List ℕ) (rest : Rest) (buffer : List ℕ) (h : ℕ)
    (cleared : ended r (lent head elements rest) buffer ≡ outcome (lent before elements rest) buffer (good h [])) where
  pub good-with : (cs : List Change) (v : Verdict) (head' elements' : List ℕ) → good h cs ≡ v
      → lent head' elements' rest ≡ changes cs (lent head elements rest)
      → ended r (lent head' elements' rest) buffer ≡ outcome (lent before elements rest) buffer v
  unfolding outcome good changes
  good-with cs v head' elements' d e =
      ap (λ (t : Tables). ended r t buffer) e ∙ ap (followed cs) cleared ∙ ap (outcome (lent before elements rest) buffer) d

pub both : (head head' elements elements' : List ℕ) (rest : Rest) → head ≡ head' → elements ≡ elements' → lent head elements rest ≡ lent head' elements' rest
both head head' elements elements' rest e d = rw (e, d)

-- ---- the elements that the grant's changes leave

module _ (ss : List Slot) (h i : ℕ) (list head : List ℕ) (rest : Rest) where
  holds-are : (n k : ℕ) (xs : List ℕ) → lent head (each (held_by h i ss list) n k xs) rest ≡ changes (holds_from ss h i list n k) (lent head xs rest)
  unfolding each changes change in_head in_elements holds_from
  holds-are zero k xs = refl
  holds-are (suc n) k xs = holds-are n (suc k) (held_by h i ss list k xs)

  pub grant-ends : (marks xs ys : List ℕ) → Marks ss list (descriptors list) marks → length xs ≡ element_size * places xs → places xs ≤ most_elements
      → ys ≡ settled marks h i xs → lent head ys rest ≡ changes (granted ss h i list) (lent head xs rest)
  unfolding granted changes change in_head in_elements
  grant-ends marks xs ys told long few e =
      ap (λ (zs : List ℕ). lent head zs rest) (e ∙ settled_is h i ss list marks (descriptors list) told xs long few) ∙ holds-are (descriptors list) 0 _

-- ---- the verdicts of RELEASE and PREVENT ALLOW, from what the code reads

module _ (t : Tables) (h : ℕ) where
  module _ (u : ℕ) (is : u ≡ unit t.head) where
    pub unit-own : u ≡ h → good h (HoldUnit 0 ∷ Free (Every h) ∷ []) ≡ good h (release_unit t h)
    unfolding release_unit
    unit-own e = ap (good h) (eq_yes u _ _ _ _ _ is e refl)

    pub unit-not : (u ≡ h → ⊥) → good h (Free (Every h) ∷ []) ≡ good h (release_unit t h)
    unfolding release_unit
    unit-not e = ap (good h) (eq_no u _ _ _ _ _ is e refl)

  module _ (block : List ℕ) where
    pub releases-all : byte block 1 % 2 ≡ 0 → good h (release_unit t h) ≡ release t h block
    unfolding release of_unit
    releases-all e = eq_is (byte block 1 % 2) 0 _ _ _ e refl

    pub releases-id : (byte block 1 % 2 ≡ 0 → ⊥) → good h (Free (Under h (byte block 2)) ∷ []) ≡ release t h block
    unfolding release of_unit
    releases-id e = eq-not (byte block 1 % 2) 0 _ _ _ e refl

    pub prevents : (old m : ℕ) → old ≡ mask t.head → m ≡ new_mask old h block → good h (Prevent m ∷ []) ≡ prevent t h block
    unfolding prevent
    prevents old m was new = rw (new, was)
