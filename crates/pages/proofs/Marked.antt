-- The laws of marks: how many places of a run are marked, and how far the m-th of them is. Assumes nothing.
use Prim.Native.Nat.{ℕ, zero, suc, ◌+◌, ◌-◌, ◌≤◌, ◌<◌, min}
use native.Mathlib.Nat.{add-zero, zero-add, zero-min, min-zero, suc-min-suc}
use native.Mathlib.Omega.{arith}
use mathlib.Core.Path.{◌≡◌, refl, sym, ap, ◌∙◌}
use mathlib.Core.Bool.{Bool, true, false}
use mathlib.Core.List.{List, [], ◌∷◌, ◌++◌}
use lib.ListN.{length, take, drop, get_or, get_or-eq_default, length-take}
use lib.Seq.{get_or-take, get_or-drop}
use lib.Dec.{eqb, eqb-suc-zero}
use borrow.Author.Tests.{eq-eqb, ne_eqb}
use Rattle.rules.specs.Choice.{when, differ}
use Rattle.rules.specs.Bytes.{byte}
use Rattle.rules.specs.Roster.{Slot, slots}
use Rattle.rules.specs.Listing.{keep}
use Rattle.rules.specs.Search.{behind_all}
use Rattle.rules.proofs.Ladder.{either}
use Rattle.pages.specs.Pages.{slot}
use Rattle.pages.specs.Marks.{marked_at, marked, marked_of, marks_in, reach_of}
use Rattle.pages.proofs.Keeping.{keep_append, slots-more}

-- ---- one place

pub all-marked : (marks : List ℕ) (p : ℕ) → length marks ≡ 0 → marked_at marks p ≡ true
unfolding marked_at when
all-marked marks p e = rw (eq-eqb (length marks) 0 e)

pub told-by : (marks : List ℕ) (p : ℕ) → (length marks ≡ 0 → ⊥) → marked_at marks p ≡ differ (byte marks p) 0
unfolding marked_at when
told-by marks p n = rw (ne_eqb (length marks) 0 n)

pub none-behind : (marks : List ℕ) (p : ℕ) → (length marks ≡ 0 → ⊥) → length marks ≤ p → marked_at marks p ≡ false
unfolding byte differ
none-behind marks p n h = told-by marks p n ∙ rw (get_or-eq_default marks 0 {n = p} h)

here-marked : (marks : List ℕ) (p : ℕ) → (length marks ≡ 0 → ⊥) → (byte marks p ≡ 0 → ⊥) → marked_at marks p ≡ true
unfolding differ
here-marked marks p n h = told-by marks p n ∙ rw (ne_eqb (byte marks p) 0 h)

here-not : (marks : List ℕ) (p : ℕ) → (length marks ≡ 0 → ⊥) → byte marks p ≡ 0 → marked_at marks p ≡ false
unfolding differ
here-not marks p n h = told-by marks p n ∙ rw (eq-eqb (byte marks p) 0 h)

-- ---- how many

pub marks-all : (marks : List ℕ) (n p : ℕ) → length marks ≡ 0 → marks_in marks n p ≡ n
unfolding marks_in when
marks-all marks zero p e = refl
marks-all marks (suc n) p e = rw (all-marked marks p e, marks-all marks n (suc p) e)

pub marks-split : (marks : List ℕ) (a b p : ℕ) → marks_in marks (a + b) p ≡ marks_in marks a p + marks_in marks b (p + a)
unfolding marks_in when
marks-split marks zero b p = rw (zero-add b, add-zero p, zero-add (marks_in marks b p))
marks-split marks (suc a) b p =
    let e : suc a + b ≡ suc (a + b) = omega arith in
    let f : p + suc a ≡ suc p + a = omega arith in
    rw (e, f) (go (marked_at marks p) (marks-split marks a b (suc p)))
  where
    go : (x : Bool) → marks_in marks (a + b) (suc p) ≡ marks_in marks a (suc p) + marks_in marks b (suc p + a)
        → when x (suc (marks_in marks (a + b) (suc p))) (marks_in marks (a + b) (suc p))
        ≡ when x (suc (marks_in marks a (suc p))) (marks_in marks a (suc p)) + marks_in marks b (suc p + a)
    go true h = omega arith
    go false h = h

pub marks-few : (marks : List ℕ) (i n p : ℕ) → i ≤ n → marks_in marks i p ≤ marks_in marks n p
marks-few marks i n p h =
    let e : i + (n - i) ≡ n = omega arith in
    let s = rw e at (marks-split marks i (n - i) p) in
    omega arith

-- no more than places
pub marks-bound : (marks : List ℕ) (n p : ℕ) → marks_in marks n p ≤ n
unfolding marks_in when
marks-bound marks zero p = omega arith
marks-bound marks (suc n) p = go (marked_at marks p) (marks-bound marks n (suc p))
  where
    go : (x : Bool) → marks_in marks n (suc p) ≤ n → when x (suc (marks_in marks n (suc p))) (marks_in marks n (suc p)) ≤ suc n
    go true h = omega arith
    go false h = omega arith

marks-none : (marks : List ℕ) (n p : ℕ) → (length marks ≡ 0 → ⊥) → length marks ≤ p → marks_in marks n p ≡ 0
unfolding marks_in when
marks-none marks zero p e h = refl
marks-none marks (suc n) p e h = rw (none-behind marks p e h, marks-none marks n (suc p) e (omega arith))

pub marks-zero : (marks : List ℕ) (n p : ℕ) → n ≡ 0 → marks_in marks n p ≡ 0
unfolding marks_in
marks-zero marks n p e = rw e

-- behind the marks nothing is marked
pub marks-end : (marks : List ℕ) (n p : ℕ) → (length marks ≡ 0 → ⊥) → marks_in marks (min (p + n) (length marks) - p) p ≡ marks_in marks n p
marks-end marks n p ne =
    let k : ℕ = min (p + n) (length marks) - p in
    let e : k + (n - k) ≡ n = omega arith in
    let s = rw e at (marks-split marks k (n - k) p) in
    let z : marks_in marks (n - k) (p + k) ≡ 0 =
    either (n - k) 0 (λ y. marks-zero marks (n - k) (p + k) y) (λ y. marks-none marks (n - k) (p + k) ne (omega arith)) in
    omega arith

-- those of n places from p on that stand before the end of the marks
pub marks-part : (marks : List ℕ) (n p k end : ℕ) → (length marks ≡ 0 → ⊥) → end ≡ min (length marks) (p + n) → k ≡ end - min p end
    → marks_in marks k (min p end) ≡ marks_in marks n p
marks-part marks n p k end ne e g =
    let h = marks-end marks n p ne in
    either k 0
    (λ z. let a : min (p + n) (length marks) - p ≡ 0 = omega arith in
    marks-zero marks k (min p end) z ∙ sym (marks-zero marks (min (p + n) (length marks) - p) p a) ∙ h)
    (λ z. let f : min p end ≡ p = omega arith in let a : k ≡ min (p + n) (length marks) - p = omega arith in rw (f, a) h)

pub one_in : (marks : List ℕ) (p : ℕ) → marked_at marks p ≡ true → marks_in marks 1 p ≡ 1
unfolding marks_in when
one_in marks p e = rw e

pub none_in : (marks : List ℕ) (p : ℕ) → marked_at marks p ≡ false → marks_in marks 1 p ≡ 0
unfolding marks_in when
none_in marks p e = rw e

-- one place more of those from p on, marked or not
module _ (marks : List ℕ) (part p i k : ℕ) (ne : length marks ≡ 0 → ⊥) (h : i < length (take part (drop p marks))) (e : k ≡ marks_in marks i p) where
  mark-is : get_or (take part (drop p marks)) i 0 ≡ byte marks (p + i)
  unfolding byte
  mark-is =
      let l : i < part = omega (arith, length-take part (drop p marks)) in
      get_or-take part (drop p marks) i 0 l ∙ get_or-drop p marks i 0

  pub count-marked : (get_or (take part (drop p marks)) i 0 ≡ 0 → ⊥) → k + 1 ≡ marks_in marks (i + 1) p
  count-marked b =
      let s = marks-split marks i 1 p in
      let o = one_in marks (p + i) (here-marked marks (p + i) ne (rw mark-is at b)) in
      omega arith

  pub count-not : get_or (take part (drop p marks)) i 0 ≡ 0 → k ≡ marks_in marks (i + 1) p
  count-not b =
      let s = marks-split marks i 1 p in
      let o = none_in marks (p + i) (here-not marks (p + i) ne (rw mark-is at b)) in
      omega arith

-- ---- the elements that are marked

pub marks-length : (marks : List ℕ) (k a p n : ℕ) → length (marked_of marks k a p n) ≡ marks_in marks n p
unfolding marks_in keep slots when
marks-length marks k a p zero = refl
marks-length marks k a p (suc n) = go (marked_at marks p) (marks-length marks k (suc a) (suc p) n)
  where
    go : (x : Bool) → length (marked_of marks k (suc a) (suc p) n) ≡ marks_in marks n (suc p)
        → length (when x (slot k a p ∷ marked_of marks k (suc a) (suc p) n) (marked_of marks k (suc a) (suc p) n))
        ≡ when x (suc (marks_in marks n (suc p))) (marks_in marks n (suc p))
    go true h = ap suc h
    go false h = h

-- one element more of a run
pub marked_more : (marks : List ℕ) (k a p n : ℕ) → marked_of marks k a p (n + 1) ≡ marked_of marks k a p n ++ marked_of marks k (a + n) (p + n) 1
unfolding slots
marked_more marks k a p n =
    ap (keep (marked marks)) (slots-more k a p n) ∙ keep_append (marked marks) (slots k a p n) (slot k (a + n) (p + n) ∷ [])

pub marked-one : (marks : List ℕ) (k a p : ℕ) → marked_at marks p ≡ true → marked_of marks k a p 1 ≡ slot k a p ∷ []
unfolding keep slots when
marked-one marks k a p e = rw e

pub marked-not : (marks : List ℕ) (k a p : ℕ) → marked_at marks p ≡ false → marked_of marks k a p 1 ≡ []
unfolding keep slots when
marked-not marks k a p e = rw e

-- without marks, all
pub keep-unmarked : (marks : List ℕ) (ss : List Slot) → length marks ≡ 0 → keep (marked marks) ss ≡ ss
unfolding keep when
keep-unmarked marks [] e = refl
keep-unmarked marks (s ∷ ss) e = rw (all-marked marks s.place e, keep-unmarked marks ss e)

-- ---- how far

pub reach-all : (marks : List ℕ) (m n p : ℕ) → length marks ≡ 0 → reach_of marks m n p ≡ min m n
unfolding reach_of when
reach-all marks zero n p e = rw zero-min
reach-all marks (suc m) zero p e = rw min-zero
reach-all marks (suc m) (suc n) p e = rw (all-marked marks p e, reach-all marks m n (suc p) e, suc-min-suc)

pub reach-none : (marks : List ℕ) (n p : ℕ) → reach_of marks 0 n p ≡ 0
unfolding reach_of
reach-none marks n p = refl

pub reach-empty : (marks : List ℕ) (m p : ℕ) → reach_of marks m 0 p ≡ 0
unfolding reach_of
reach-empty marks zero p = refl
reach-empty marks (suc m) p = refl

-- the next place, marked or not
reach-next : (marks : List ℕ) (m n p : ℕ) → reach_of marks (suc m) (suc n) p ≡ suc (when (marked_at marks p) (reach_of marks m n (suc p)) (reach_of marks (suc m) n (suc p)))
unfolding reach_of
reach-next marks m n p = refl

module _ (marks : List ℕ) (place left i n : ℕ) (h : i < n) (g : left ≡ 0 → ⊥) where
  beyond : n - i ≡ suc (n - (i + 1))
  beyond = omega arith

  behind-here : suc (place + i) ≡ place + (i + 1)
  behind-here = omega arith

  one_fewer : left ≡ suc (left - 1)
  one_fewer = omega arith

  reach_here : reach_of marks left (n - i) (place + i)
      ≡ suc (when (marked_at marks (place + i)) (reach_of marks (left - 1) (n - (i + 1)) (place + (i + 1))) (reach_of marks left (n - (i + 1)) (place + (i + 1))))
  reach_here =
      ap (λ (x : ℕ). reach_of marks x (n - i) (place + i)) one_fewer
      ∙ ap (λ (x : ℕ). reach_of marks (suc (left - 1)) x (place + i)) beyond
      ∙ reach-next marks (left - 1) (n - (i + 1)) (place + i)
      ∙ rw (behind-here, ← one_fewer)

  pub reach-on : marked_at marks (place + i) ≡ true
      → i + reach_of marks left (n - i) (place + i) ≡ i + 1 + reach_of marks (left - 1) (n - (i + 1)) (place + (i + 1))
  unfolding when
  reach-on e = let r = rw e at reach_here in omega arith

  pub reach-past : marked_at marks (place + i) ≡ false
      → i + reach_of marks left (n - i) (place + i) ≡ i + 1 + reach_of marks left (n - (i + 1)) (place + (i + 1))
  unfolding when
  reach-past e = let r = rw e at reach_here in omega arith

pub reach_few : (marks : List ℕ) (m n p : ℕ) → reach_of marks m n p ≤ n
unfolding reach_of when
reach_few marks zero n p = omega arith
reach_few marks (suc m) zero p = omega arith
reach_few marks (suc m) (suc n) p = go (marked_at marks p) (reach_few marks m n (suc p)) (reach_few marks (suc m) n (suc p))
  where
    go : (x : Bool) → reach_of marks m n (suc p) ≤ n → reach_of marks (suc m) n (suc p) ≤ n
        → suc (when x (reach_of marks m n (suc p)) (reach_of marks (suc m) n (suc p))) ≤ suc n
    go true h g = omega arith
    go false h g = omega arith

-- the elements so far are the first m that are marked
pub reach-marked : (marks : List ℕ) (k a p m n : ℕ) → marked_of marks k a p (reach_of marks m n p) ≡ take m (marked_of marks k a p n)
unfolding reach_of keep slots when
reach-marked marks k a p zero n = refl
reach-marked marks k a p (suc m) zero = refl
reach-marked marks k a p (suc m) (suc n) = go (marked_at marks p) refl (reach-marked marks k (suc a) (suc p) m n) (reach-marked marks k (suc a) (suc p) (suc m) n)
  where
    y : List Slot
    y = marked_of marks k (suc a) (suc p) n

    go : (x : Bool) → marked_at marks p ≡ x
        → marked_of marks k (suc a) (suc p) (reach_of marks m n (suc p)) ≡ take m y
        → marked_of marks k (suc a) (suc p) (reach_of marks (suc m) n (suc p)) ≡ take (suc m) y
        → marked_of marks k a p (suc (when x (reach_of marks m n (suc p)) (reach_of marks (suc m) n (suc p)))) ≡ take (suc m) (when x (slot k a p ∷ y) y)
    go true e h g = rw (e, h)
    go false e h g = rw (e, g)

-- and the last of them stands at their end
pub reach-behind : (marks : List ℕ) (k a p m n from : ℕ) → m ≤ marks_in marks n p
    → behind_all from (take m (marked_of marks k a p n)) ≡ when (eqb m 0) from (a + reach_of marks m n p)
unfolding behind_all reach_of keep slots marks_in when
reach-behind marks k a p zero n from h = refl
reach-behind marks k a p (suc m) zero from h = absurd (omega arith)
reach-behind marks k a p (suc m) (suc n) from h =
    rw (eqb-suc-zero m) (go (marked_at marks p) refl h (λ g. reach-behind marks k (suc a) (suc p) m n (suc a) g) (λ g. reach-behind marks k (suc a) (suc p) (suc m) n from g))
  where
    y : List Slot
    y = marked_of marks k (suc a) (suc p) n

    c : ℕ
    c = marks_in marks n (suc p)

    first : (j : ℕ) → behind_all (suc a) (take j y) ≡ when (eqb j 0) (suc a) (suc a + reach_of marks j n (suc p))
        → behind_all (suc a) (take j y) ≡ a + suc (reach_of marks j n (suc p))
    first zero e = e ∙ omega arith
    first (suc j) e = let z : suc a + reach_of marks (suc j) n (suc p) ≡ a + suc (reach_of marks (suc j) n (suc p)) = omega arith in (rw (eqb-suc-zero j) at e) ∙ z

    go : (x : Bool) → marked_at marks p ≡ x → suc m ≤ when x (suc c) c
        → (m ≤ c → behind_all (suc a) (take m y) ≡ when (eqb m 0) (suc a) (suc a + reach_of marks m n (suc p)))
        → (suc m ≤ c → behind_all from (take (suc m) y) ≡ when (eqb (suc m) 0) from (suc a + reach_of marks (suc m) n (suc p)))
        → behind_all from (take (suc m) (when x (slot k a p ∷ y) y)) ≡ a + suc (when x (reach_of marks m n (suc p)) (reach_of marks (suc m) n (suc p)))
    go true e l f g = first m (f (omega arith))
    go false e l f g =
        let z : suc a + reach_of marks (suc m) n (suc p) ≡ a + suc (reach_of marks (suc m) n (suc p)) = omega arith in
        (rw (eqb-suc-zero m) at (g l)) ∙ z
