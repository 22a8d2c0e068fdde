-- The roster: addresses, places and types in it, how long it is, and which bytes of the head it is read from. Assumes nothing.
use Prim.Native.Nat.{ℕ, zero, suc, ◌+◌, ◌<◌, ◌≤◌}
use native.Mathlib.Omega.{arith}
use mathlib.Core.Path.{◌≡◌, refl, sym, ap, ◌∙◌}
use mathlib.Core.Logic.{◌≢◌}
use mathlib.Core.Bool.{Bool, true, false}
use mathlib.Core.List.{List, [], ◌∷◌, ◌++◌}
use lib.ListN.{length, length-append}
use lib.Dec.{eqb, leb}
use borrow.Author.Tests.{eqb-true}
use Rattle.rules.specs.Choice.{when}
use Rattle.rules.specs.Bytes.{byte, word}
use Rattle.rules.specs.Tables.{unit_at}
use Rattle.rules.specs.Roster.{Range, Slot, range, ranges, slots, spread, insert, sorted, roster, kind_at, place_of, kind_of, drive, range_at}
use Rattle.rules.specs.Ranges.{total}

-- ---- the place of an address that stands

pub place_in : (ss : List Slot) (a : ℕ) → kind_of ss a ≢ 0 → place_of ss a < length ss
unfolding place_of kind_of when
place_in [] a k = absurd (k refl)
place_in (s ∷ ss) a k = go (place_in ss a) (eqb s.address a) k
  where
    go : (kind_of ss a ≢ 0 → place_of ss a < length ss) → (b : Bool) → when b s.kind (kind_of ss a) ≢ 0
        → when b 0 (suc (place_of ss a)) < suc (length ss)
    go ih true k = omega arith
    go ih false k = let i = ih k in omega arith

-- the element there is of the address's type
pub kind-in : (ss : List Slot) (a : ℕ) → kind_of ss a ≢ 0 → kind_at ss (place_of ss a) ≡ kind_of ss a
unfolding place_of kind_of kind_at when
kind-in [] a k = absurd (k refl)
kind-in (s ∷ ss) a k = go (kind-in ss a) (eqb s.address a) k
  where
    go : (kind_of ss a ≢ 0 → kind_at ss (place_of ss a) ≡ kind_of ss a) → (b : Bool) → when b s.kind (kind_of ss a) ≢ 0
        → kind_at (s ∷ ss) (when b 0 (suc (place_of ss a))) ≡ when b s.kind (kind_of ss a)
    go ih true k = refl
    go ih false k = ih k

-- two addresses, one of which stands, have two places
pub place-apart : (ss : List Slot) (a b : ℕ) → a ≢ b → kind_of ss b ≢ 0 → place_of ss a ≢ place_of ss b
unfolding place_of kind_of when
place-apart [] a b n k e = k refl
place-apart (s ∷ ss) a b n k e = go (place-apart ss a b n) (eqb s.address a) (eqb s.address b) refl refl k e
  where
    go : (kind_of ss b ≢ 0 → place_of ss a ≢ place_of ss b) → (x y : Bool) → eqb s.address a ≡ x → eqb s.address b ≡ y
        → when y s.kind (kind_of ss b) ≢ 0 → when x 0 (suc (place_of ss a)) ≡ when y 0 (suc (place_of ss b)) → ⊥
    go ih true true p q k e = n (sym (eqb-true s.address a p) ∙ eqb-true s.address b q)
    go ih true false p q k e = omega arith
    go ih false true p q k e = omega arith
    go ih false false p q k e = ih k (omega arith)

-- ---- how many elements

pub slots_length : (k a p n : ℕ) → length (slots k a p n) ≡ n
unfolding slots
slots_length k a p zero = refl
slots_length k a p (suc n) = ap suc (slots_length k (suc a) (suc p) n)

pub spread-length : (p : ℕ) (rs : List Range) → length (spread p rs) ≡ total rs
unfolding spread total
spread-length p [] = refl
spread-length p (r ∷ rs) =
    let i = spread-length (p + r.count) rs in
    omega (arith, length-append (slots r.kind r.first p r.count) (spread (p + r.count) rs), slots_length r.kind r.first p r.count)

total-insert : (r : Range) (rs : List Range) → total (insert r rs) ≡ r.count + total rs
unfolding insert when total
total-insert r [] = refl
total-insert r (s ∷ ss) = go (total-insert r ss) (leb r.first s.first)
  where
    go : total (insert r ss) ≡ r.count + total ss → (b : Bool) → total (when b (r ∷ s ∷ ss) (s ∷ insert r ss)) ≡ r.count + (s.count + total ss)
    go ih true = refl
    go ih false = omega arith

total-sorted : (rs : List Range) → total (sorted rs) ≡ total rs
unfolding sorted total
total-sorted [] = refl
total-sorted (r ∷ rs) = let i = total-sorted rs in omega (arith, total-insert r (sorted rs))

pub roster-length : (head : List ℕ)
    → length (roster head) ≡ (range head 0).count + (range head 1).count + (range head 2).count + (range head 3).count
unfolding roster ranges total
roster-length head = omega (arith, spread-length 0 (sorted (ranges head)), total-sorted (ranges head))

-- ---- each element stands at its place

-- the first at place n
abbrev pub Placed : ℕ → List Slot → Type 0
Placed n [] = Unit {0}
Placed n (x ∷ xs) = (x.place ≡ n) × Placed (suc n) xs

slots-placed : (k a p n : ℕ) (ss : List Slot) → Placed (p + n) ss → Placed p (slots k a p n ++ ss)
unfolding slots
slots-placed k a p zero ss h = let e : p + 0 ≡ p = omega arith in rw e at h
slots-placed k a p (suc n) ss h = let e : p + suc n ≡ suc p + n = omega arith in (refl, slots-placed k (suc a) (suc p) n ss (rw e at h))

pub spread-placed : (p : ℕ) (rs : List Range) → Placed p (spread p rs)
unfolding spread
spread-placed p [] = tt
spread-placed p (r ∷ rs) = slots-placed r.kind r.first p r.count (spread (p + r.count) rs) (spread-placed (p + r.count) rs)

pub roster-placed : (head : List ℕ) → Placed 0 (roster head)
unfolding roster
roster-placed head = spread-placed 0 _

-- ---- every type is one of the four

abbrev Kind : ℕ → Type 0
Kind k = (1 ≤ k) × (k ≤ drive)

abbrev Kinds : List Range → Type 0
Kinds [] = Unit {0}
Kinds (r ∷ rs) = Kind r.kind × Kinds rs

kinds-insert : (r : Range) (rs : List Range) → Kind r.kind → Kinds rs → Kinds (insert r rs)
unfolding insert when
kinds-insert r [] k ks = (k, ks)
kinds-insert r (s ∷ ss) k (l, ks) = go (kinds-insert r ss k ks) (leb r.first s.first)
  where
    go : Kinds (insert r ss) → (b : Bool) → Kinds (when b (r ∷ s ∷ ss) (s ∷ insert r ss))
    go ih true = (k, (l, ks))
    go ih false = (l, ih)

kinds-sorted : (rs : List Range) → Kinds rs → Kinds (sorted rs)
unfolding sorted
kinds-sorted [] ks = ks
kinds-sorted (r ∷ rs) (k, ks) = kinds-insert r (sorted rs) k (kinds-sorted rs ks)

abbrev AllKinds : List Slot → Type 0
AllKinds [] = Unit {0}
AllKinds (s ∷ ss) = Kind s.kind × AllKinds ss

kinds-append : (ss rs : List Slot) → AllKinds ss → AllKinds rs → AllKinds (ss ++ rs)
kinds-append [] rs ks ls = ls
kinds-append (s ∷ ss) rs (k, ks) ls = (k, kinds-append ss rs ks ls)

kinds-slots : (k a p n : ℕ) → Kind k → AllKinds (slots k a p n)
unfolding slots
kinds-slots k a p zero h = tt
kinds-slots k a p (suc n) h = (h, kinds-slots k (suc a) (suc p) n h)

kinds-spread : (p : ℕ) (rs : List Range) → Kinds rs → AllKinds (spread p rs)
unfolding spread
kinds-spread p [] ks = tt
kinds-spread p (r ∷ rs) (k, ks) =
    kinds-append (slots r.kind r.first p r.count) (spread (p + r.count) rs) (kinds-slots r.kind r.first p r.count k) (kinds-spread (p + r.count) rs ks)

kinds-at : (ss : List Slot) → AllKinds ss → (p : ℕ) → p < length ss → Kind (kind_at ss p)
unfolding kind_at
kinds-at [] ks p h = absurd (omega arith)
kinds-at (s ∷ ss) (k, ks) zero h = k
kinds-at (s ∷ ss) (k, ks) (suc p) h = kinds-at ss ks p (omega arith)

kinds-of : (ss : List Slot) → AllKinds ss → (a : ℕ) → kind_of ss a ≤ drive
unfolding kind_of when
kinds-of [] ks a = omega arith
kinds-of (s ∷ ss) (k, ks) a = go (kinds-of ss ks a) (eqb s.address a)
  where
    go : kind_of ss a ≤ drive → (b : Bool) → when b s.kind (kind_of ss a) ≤ drive
    go ih true = k.1
    go ih false = ih

-- ---- the bytes before the unit holder's are all that ranges and roster are read from

abbrev pub SameRanges : List ℕ → List ℕ → Type 0
SameRanges head head' = (j : ℕ) → j < unit_at → byte head' j ≡ byte head j

pub range_same : (head head' : List ℕ) → SameRanges head head' → (k : ℕ) → k < 4 → range head' k ≡ range head k
unfolding range word
range_same head head' s k h =
    cc (
      s (range_at k) (omega arith),
      s (range_at k + 1) (omega arith),
      s (range_at k + 2) (omega arith),
      s (range_at k + 2 + 1) (omega arith),
    )

pub ranges-same : (head head' : List ℕ) → SameRanges head head' → ranges head' ≡ ranges head
unfolding ranges
ranges-same head head' s = cc (r 0 (omega arith), r 1 (omega arith), r 2 (omega arith), r 3 (omega arith))
  where
    r : (k : ℕ) → k < 4 → range head' k ≡ range head k
    r = range_same head head' s

pub roster-same : (head head' : List ℕ) → SameRanges head head' → roster head' ≡ roster head
unfolding roster
roster-same head head' s = cc (ranges-same head head' s)
