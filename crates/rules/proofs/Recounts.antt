-- The change that counts the empty shelves anew: it writes the panel's two bytes alone, by the ranges and the elements alone, so that of two the
-- second is left, and a host's own changes of the head may stand before it or behind. Assumes nothing.
use Prim.Native.Nat.{ℕ, ◌≤◌}
use native.Mathlib.Omega.{arith}
use mathlib.Core.Path.{◌≡◌, refl}
use mathlib.Core.List.{List, [], ◌∷◌}
use Rattle.rules.specs.Bytes.{high, low}
use Rattle.rules.specs.Tables.{Tables, lent, hosts, panel_at, empty_shelves, shown, HeadChange, ElementChange, OfHead, OfElements, Recount, in_head, in_elements, change}
use Rattle.rules.specs.Roster.{roster}
use Rattle.rules.proofs.Writes.{put-over}
use Rattle.rules.proofs.Local.{Local, OfHost, OfPanel, leaves, local-comm, shown-local}
use Rattle.rules.proofs.Places.{roster-same}
use Rattle.rules.proofs.Panel.{shown-else}

-- ---- the write

shown-roster : (head : List ℕ) (n : ℕ) → roster (shown head n) ≡ roster head
shown-roster head n = roster-same head (shown head n) (λ j l. shown-else head n j (λ m x. omega arith))

shown-over : (head : List ℕ) (n m : ℕ) → shown (shown head n) m ≡ shown head m
unfolding shown
shown-over head n m = put-over head panel_at (high n ∷ low n ∷ []) (high m ∷ low m ∷ []) refl

-- ---- the change

-- what the panel showed does not matter to the count
recount-over : (t : Tables) (n : ℕ) → change Recount (lent (shown t.head n) t.elements t.rest) ≡ change Recount t
unfolding change
recount-over t n = cc (shown-roster t.head n, shown-over t.head n (empty_shelves (roster t.head) t.elements))

pub recount-twice : (t : Tables) → change Recount (change Recount t) ≡ change Recount t
unfolding change
recount-twice t = recount-over t (empty_shelves (roster t.head) t.elements)

-- a change of the elements between two counts
pub recount-elements : (c : ElementChange) (t : Tables) → change Recount (change (OfElements c) (change Recount t)) ≡ change Recount (change (OfElements c) t)
unfolding change
recount-elements c t = recount-over (lent t.head (in_elements c t.elements) t.rest) (empty_shelves (roster t.head) t.elements)

-- a host's own change, on either side of a count
module _ (h : ℕ) (o : 1 ≤ h) (k : h ≤ hosts) (c : HeadChange) (l : Local (OfHost h) (in_head c)) (t : Tables) where
  own-roster : roster (in_head c t.head) ≡ roster t.head
  own-roster = roster-same t.head (in_head c t.head) (λ j i. leaves (OfHost h) (in_head c) l j (λ x. omega arith) t.head)

  pub recount-past : change (OfHead c) (change Recount t) ≡ change Recount (change (OfHead c) t)
  unfolding change
  recount-past =
      let n = empty_shelves (roster t.head) t.elements in
      let past = local-comm (OfHost h) OfPanel (λ j x y. omega arith) (in_head c) (λ (xs : List ℕ). shown xs n) l (shown-local n) t.head in
      cc (own-roster, past)
