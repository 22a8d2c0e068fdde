-- Reset: its parts one after the other are the rules' changes. Assumes nothing.
use Prim.Native.Nat.{ℕ, zero, suc}
use mathlib.Core.Path.{◌≡◌, refl}
use mathlib.Core.Bool.{true}
use mathlib.Core.List.{List, [], ◌∷◌}
use Rattle.rules.specs.Choice.{when, each}
use Rattle.rules.specs.Bytes.{put}
use Rattle.rules.specs.Tables.{Tables, lent, hosts, unit_held, masked, freed, searching, Anyone, HoldUnit, Free, Seek, Prevent, change, changes, in_head, in_elements, in_search, Rest}
use Rattle.rules.specs.Sound.{sound}
use Rattle.rules.specs.Order.{GOOD, outcome}
use Rattle.rules.specs.Events.{done, restarted_from, resetting}
use Rattle.rules.specs.Search.{no_search}
use Rattle.order.specs.declared.Reply.{Reply}
use Rattle.order.specs.Ending.{ended, told}
use Rattle.events.specs.Restarted.{restarted_at}

pub restarted-is : (n h : ℕ) (head elements : List ℕ) (rest : Rest)
    → lent (each restarted_at n h head) elements rest ≡ changes (restarted_from n h) (lent head elements rest)
unfolding each restarted_at restarted_from changes change in_head in_elements
restarted-is zero h head elements rest = refl
restarted-is (suc n) h head elements rest = restarted-is n (suc h) (restarted_at h head) elements rest

module _ (t : Tables) (free_unit allow restarted elements search : List ℕ) (unit : free_unit ≡ unit_held t.head 0)
    (free : elements ≡ freed Anyone t.elements) (none : search ≡ put t.rest.search 0 no_search) (mask : allow ≡ masked free_unit 0)
    (hosts-are : (es : List ℕ) (rest : Rest) → lent restarted es rest ≡ changes (restarted_from hosts 1) (lent allow es rest)) where
  reset-is : lent restarted elements (searching t.rest search) ≡ changes (HoldUnit 0 ∷ Free Anyone ∷ Seek no_search ∷ Prevent 0 ∷ restarted_from hosts 1) t
  unfolding changes change in_head in_elements in_search
  reset-is = rw (hosts-are elements (searching t.rest search), mask, unit, free, none)

  pub reset-ends : sound t ≡ true → (r : Reply) → r ≡ told GOOD 0 → ended r (lent restarted elements (searching t.rest search)) [] ≡ outcome t [] (resetting t)
  unfolding resetting outcome done put when
  reset-ends s r is = rw (s, is, ← reset-is)
