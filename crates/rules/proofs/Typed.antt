-- Type and place of an address that lies in a range. Assumes nothing.
use Prim.Native.Nat.{ℕ, zero, suc, ◌+◌, ◌-◌, ◌<◌, ◌≤◌}
use native.Mathlib.Omega.{arith}
use mathlib.Core.Path.{◌≡◌, refl, ◌∙◌}
use mathlib.Core.Logic.{◌≢◌, ◌⊎◌, inl, inr}
use mathlib.Core.Bool.{Bool, true, false}
use mathlib.Core.List.{List, [], ◌∷◌, ◌++◌}
use lib.Dec.{eqb, leb}
use borrow.Author.Tests.{eqb-false, eqb-true, ne_eqb}
use Rattle.rules.specs.Choice.{when}
use Rattle.rules.specs.Roster.{Range, Slot, range, ranges, slots, spread, insert, sorted, roster, kind_of, place_of}
use Rattle.rules.specs.Ranges.{Each, Pairs}
use Rattle.rules.specs.Sound.{ranges_sound}
use Rattle.rules.proofs.Ladder.{on}
use Rattle.rules.proofs.Ascending.{Before, ascending}

-- ---- the elements of one range, and those behind them

pub slots-in : (n k f q a : ℕ) (rest : List Slot) → f ≤ a → a < f + n
    → (kind_of (slots k f q n ++ rest) a ≡ k) × (place_of (slots k f q n ++ rest) a ≡ a - f)
unfolding slots kind_of place_of when
slots-in zero k f q a rest l h = absurd (let z : ⊥ = omega arith in z)
slots-in (suc n) k f q a rest l h = go (λ m. slots-in n k (suc f) (suc q) a rest m (omega arith)) (eqb f a) refl
  where
    more : List Slot
    more = slots k (suc f) (suc q) n ++ rest

    go : (suc f ≤ a → (kind_of more a ≡ k) × (place_of more a ≡ a - suc f)) → (b : Bool) → eqb f a ≡ b
        → (when b k (kind_of more a) ≡ k) × (when b 0 (suc (place_of more a)) ≡ a - f)
    go ih true e = let d = eqb-true f a e in (refl, omega arith)
    go ih false e = let d = eqb-false f a e in let i = ih (omega arith) in (i.0, omega arith)

pub slots-out : (n k f q a : ℕ) (rest : List Slot) → ((i : ℕ) → i < n → f + i ≢ a)
    → (kind_of (slots k f q n ++ rest) a ≡ kind_of rest a) × (place_of (slots k f q n ++ rest) a ≡ n + place_of rest a)
unfolding slots kind_of place_of when
slots-out zero k f q a rest d = (refl, omega arith)
slots-out (suc n) k f q a rest d =
    let i = slots-out n k (suc f) (suc q) a rest (λ i h e. d (suc i) (omega arith) (omega arith)) in
    rw (ne_eqb f a (λ e. d 0 (omega arith) (omega arith))) (i.0, omega arith)

-- ---- a range of a list, which sorting keeps

abbrev pub Among : Range → List Range → Type 0
Among s [] = ⊥
Among s (r ∷ rs) = (s ≡ r) ⊎ Among s rs

among-inserted : (s r : Range) (rs : List Range) → Among s (r ∷ rs) → Among s (insert r rs)
unfolding insert
among-inserted s r [] m = m
among-inserted s r (t ∷ ts) m =
    on (Among s) (leb r.first t.first) (λ e. m) (λ e. go (among-inserted s r ts) m)
  where
    go : (Among s (r ∷ ts) → Among s (insert r ts)) → Among s (r ∷ t ∷ ts) → Among s (t ∷ insert r ts)
    go ih (inl e) = inr (ih (inl e))
    go ih (inr (inl e)) = inl e
    go ih (inr (inr n)) = inr (ih (inr n))

pub among-sorted : (s : Range) (rs : List Range) → Among s rs → Among s (sorted rs)
unfolding sorted
among-sorted s [] m = m
among-sorted s (r ∷ rs) (inl e) = among-inserted s r (sorted rs) (inl e)
among-sorted s (r ∷ rs) (inr m) = among-inserted s r (sorted rs) (inr (among-sorted s rs m))

pub each-among : (P : Range → Type 0) (s : Range) (rs : List Range) → Among s rs → Each P rs → P s
each-among P s [] m ps = elim m [ ]
each-among P s (r ∷ rs) (inl e) ps = rw e ps.0
each-among P s (r ∷ rs) (inr m) ps = each-among P s rs m ps.1

-- ---- the ranges of a sound head

-- the address of the i-th element of a range: its type, and its place behind that of the first
pub record Counted (ss : List Slot) (s : Range) (i : ℕ) : Type 0 where
  pub kind-is : kind_of ss (s.first + i) ≡ s.kind
  pub place_is : place_of ss (s.first + i) ≡ place_of ss s.first + i

counted : (s : Range) (rs : List Range) (q i : ℕ) → Among s rs → Pairs Before rs → i < s.count → Counted (spread q rs) s i
unfolding spread
counted s [] q i m b h = elim m [ ]
counted s (r ∷ rs) q i (inl e) b h = rw e (go (rw e at h))
  where
    rest : List Slot
    rest = spread (q + r.count) rs

    go : i < r.count → Counted (slots r.kind r.first q r.count ++ rest) r i
    go l =
        let x = slots-in r.count r.kind r.first q (r.first + i) rest (omega arith) (omega arith) in
        let y = slots-in r.count r.kind r.first q r.first rest (omega arith) (omega arith) in
        record { kind-is = x.0; place_is = omega (arith, x.1, y.1) }
counted s (r ∷ rs) q i (inr m) b h =
    let past = each-among (Before r) s rs m b.0 in
    let rest = spread (q + r.count) rs in
    let c = counted s rs (q + r.count) i m b.1 h in
    let x = slots-out r.count r.kind r.first q (s.first + i) rest (λ j l z. omega arith) in
    let y = slots-out r.count r.kind r.first q s.first rest (λ j l z. omega arith) in
    record { kind-is = x.0 ∙ c.kind-is; place_is = omega (arith, x.1, y.1, c.place_is) }

-- the i-th element of a range of the head
range-counted : (head : List ℕ) (r : Range) → ranges_sound (ranges head) ≡ true → Among r (ranges head) → (i : ℕ) → i < r.count → Counted (roster head) r i
unfolding roster
range-counted head r e m i h = counted r (sorted (ranges head)) 0 i (among-sorted r (ranges head) m) (ascending (ranges head) e) h

pub transport-counted : (head : List ℕ) → ranges_sound (ranges head) ≡ true → (i : ℕ) → i < (range head 0).count → Counted (roster head) (range head 0) i
unfolding ranges
transport-counted head e i h = range-counted head (range head 0) e (inl refl) i h

pub drive-counted : (head : List ℕ) → ranges_sound (ranges head) ≡ true → (i : ℕ) → i < (range head 3).count → Counted (roster head) (range head 3) i
unfolding ranges
drive-counted head e i h = range-counted head (range head 3) e (inr (inr (inr (inl refl)))) i h
