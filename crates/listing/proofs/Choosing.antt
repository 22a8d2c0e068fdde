-- "Chosen: elements of the type at or above start, ascending, at most that many": the filters of the rules, on those elements that are marked, and
-- the pages of what they leave, range by range. Assumes nothing.
use Prim.Native.Nat.{ℕ, zero, suc, ◌+◌, ◌-◌}
use native.Mathlib.Nat.{add-zero, zero-sub}
use native.Mathlib.Omega.{arith}
use mathlib.Core.Path.{◌≡◌, refl, sym, ap, ◌∙◌}
use mathlib.Core.Bool.{Bool, true, false}
use mathlib.Core.List.{List, [], ◌∷◌, ◌++◌, append_assoc, append-nil}
use lib.ListN.{length, take, length-take}
use lib.Seq.{take-nil}
use lib.Dec.{leb, T}
use borrow.Author.Tests.{leb-true, leb-false, eq-eqb, ne_eqb}
use Rattle.rules.specs.Choice.{when, any_of}
use Rattle.rules.specs.Tables.{Tables}
use Rattle.rules.specs.Roster.{Slot, Range, slots, spread}
use Rattle.rules.specs.Listing.{keep, of_type, at_or_above, chosen, pages}
use Rattle.rules.specs.Ranges.{Each, Pairs, Differ}
use Rattle.rules.proofs.Ladder.{on}
use Rattle.pages.specs.Marks.{marked, marked_of}
use Rattle.pages.specs.Pages.{slot}
use Rattle.pages.proofs.Keeping.{keep-nil, keep_append, keep-keep, take-append}
use Rattle.listing.specs.Plan.{skips, suits, offered, picked_of, planned}

-- ---- what the filters leave of elements of one type

abbrev Of : ℕ → List Slot → Type 0
Of k [] = T true
Of k (s ∷ ss) = (s.kind ≡ k) × Of k ss

of_slots : (k a p n : ℕ) → Of k (slots k a p n)
unfolding slots
of_slots k a p zero = tt
of_slots k a p (suc n) = (refl, of_slots k (suc a) (suc p) n)

of-keep : (k : ℕ) (f : Slot → Bool) (ss : List Slot) → Of k ss → Of k (keep f ss)
unfolding keep
of-keep k f [] o = tt
of-keep k f (s ∷ ss) o = on (Of k) (f s) (λ e. (o.0, of-keep k f ss o.1)) (λ e. of-keep k f ss o.1)

of-take : (k m : ℕ) (ss : List Slot) → Of k ss → Of k (take m ss)
of-take k zero ss o = tt
of-take k (suc m) [] o = tt
of-take k (suc m) (s ∷ ss) o = (o.0, of-take k m ss o.1)

-- a type that suits keeps all of them, and any other none
keep-suited : (type k : ℕ) (ss : List Slot) → Of k ss → suits type k ≡ true → keep (of_type type) ss ≡ ss
unfolding keep of_type suits when
keep-suited type k [] o e = refl
keep-suited type k (s ∷ ss) o e = rw (o.0, e, keep-suited type k ss o.1 e)

keep-unsuited : (type k : ℕ) (ss : List Slot) → Of k ss → suits type k ≡ false → keep (of_type type) ss ≡ []
unfolding keep of_type suits when
keep-unsuited type k [] o e = refl
keep-unsuited type k (s ∷ ss) o e = rw (o.0, e, keep-unsuited type k ss o.1 e)

keep-above : (start k a p n : ℕ) → keep (at_or_above start) (slots k a p n) ≡ slots k (a + (start - a)) (p + (start - a)) (n - (start - a))
unfolding keep slots when at_or_above
keep-above start k a p zero = rw zero-sub
keep-above start k a p (suc n) = go (leb start a) refl (keep-above start k (suc a) (suc p) n)
  where
    r : List Slot
    r = keep (at_or_above start) (slots k (suc a) (suc p) n)

    go : (b : Bool) → leb start a ≡ b → r ≡ slots k (suc a + (start - suc a)) (suc p + (start - suc a)) (n - (start - suc a))
        → when b (slot k a p ∷ r) r ≡ slots k (a + (start - a)) (p + (start - a)) (suc n - (start - a))
    go true h ih =
        let l = leb-true start a h in
        let e : start - a ≡ 0 = omega arith in
        let e1 : start - suc a ≡ 0 = omega arith in
        let z : suc n - 0 ≡ suc n = omega arith in
        let z1 : n - 0 ≡ n = omega arith in
        rw (ih, e, e1, z1, z, add-zero (suc a), add-zero (suc p), add-zero a, add-zero p)
    go false h ih =
        let l = leb-false start a h in
        let ea : suc a + (start - suc a) ≡ a + (start - a) = omega arith in
        let ep : suc p + (start - suc a) ≡ p + (start - a) = omega arith in
        let en : n - (start - suc a) ≡ suc n - (start - a) = omega arith in
        ih ∙ rw (ea, ep, en)

-- ---- the elements chosen, range by range

module _ (marks : List ℕ) (type start : ℕ) where
  -- of at most left, where the first element of the first range stands at place p
  unfoldable pub picked : ℕ → ℕ → List Range → List Slot
  picked left p [] = []
  picked left p (r ∷ rs) =
      picked_of marks type start left p r ++ picked (left - length (picked_of marks type start left p r)) (p + r.count) rs

  -- what is chosen of a range is of its type
  of-picked : (left p : ℕ) (r : Range) → Of r.kind (picked_of marks type start left p r)
  unfolding offered
  of-picked left p r =
      of-take r.kind left (offered marks type start p r)
      (on (Of r.kind) (suits type r.kind) (λ e. of-keep r.kind (marked marks) _ (of_slots r.kind _ _ _)) (λ e. tt))

  offered-is : (p : ℕ) (r : Range)
      → keep (at_or_above start) (keep (of_type type) (marked_of marks r.kind r.first p r.count)) ≡ offered marks type start p r
  unfolding offered when
  offered-is p r = go (suits type r.kind) refl
    where
      all : List Slot
      all = slots r.kind r.first p r.count

      go : (b : Bool) → suits type r.kind ≡ b
          → keep (at_or_above start) (keep (of_type type) (keep (marked marks) all))
          ≡ when b (marked_of marks r.kind (r.first + skips start r) (p + skips start r) (r.count - skips start r)) []
      go true e =
          ap (keep (at_or_above start)) (keep-suited type r.kind (keep (marked marks) all) (of-keep r.kind (marked marks) all (of_slots r.kind r.first p r.count)) e)
          ∙ keep-keep (at_or_above start) (marked marks) all
          ∙ ap (keep (marked marks)) (keep-above start r.kind r.first p r.count)
      go false e =
          ap (keep (at_or_above start)) (keep-unsuited type r.kind (keep (marked marks) all) (of-keep r.kind (marked marks) all (of_slots r.kind r.first p r.count)) e)
          ∙ keep-nil (at_or_above start)

  choose_one : (left p : ℕ) (r : Range) (rest : List Slot)
      → chosen type start left (keep (marked marks) (slots r.kind r.first p r.count ++ rest))
      ≡ picked_of marks type start left p r ++ chosen type start (left - length (picked_of marks type start left p r)) (keep (marked marks) rest)
  unfolding chosen
  choose_one left p r rest =
      let all : List Slot = slots r.kind r.first p r.count in
      let y : List Slot = keep (at_or_above start) (keep (of_type type) (keep (marked marks) rest)) in
      let x : List Slot = offered marks type start p r in
      let n : left - length (take left x) ≡ left - length x = omega (arith, length-take left x) in
      rw (
        keep_append (marked marks) all rest,
        keep_append (of_type type) (keep (marked marks) all) (keep (marked marks) rest),
        keep_append (at_or_above start) (keep (of_type type) (keep (marked marks) all)) (keep (of_type type) (keep (marked marks) rest)),
        offered-is p r,
        n,
      )
      (take-append left x y)

  chosen_none : (left : ℕ) → chosen type start left (keep (marked marks) []) ≡ []
  unfolding chosen keep
  chosen_none left = take-nil left

  pub chosen_is : (left p : ℕ) (rs : List Range) → chosen type start left (keep (marked marks) (spread p rs)) ≡ picked left p rs
  unfolding spread picked
  chosen_is left p [] = chosen_none left
  chosen_is left p (r ∷ rs) =
      choose_one left p r (spread (p + r.count) rs)
      ∙ rw (chosen_is (left - length (picked_of marks type start left p r)) (p + r.count) rs)

-- ---- their pages, range by range: no two ranges are of one type, and no type is 0, which would mean all

abbrev Other : ℕ → ℕ → Type 0
Other k j = (k ≡ 0 → ⊥) × (k ≡ j → ⊥)

other-type : (k j : ℕ) → Other k j → suits k j ≡ false
unfolding suits any_of when
other-type k j d = rw (ne_eqb k 0 d.0, ne_eqb k j d.1)

own-type : (k : ℕ) → (k ≡ 0 → ⊥) → suits k k ≡ true
unfolding suits any_of when
own-type k d = rw (ne_eqb k 0 d, eq-eqb k k refl)

-- none of the elements is of a type of the ranges
abbrev Passed : List Slot → List Range → Type 0
Passed ss [] = T true
Passed ss (r ∷ rs) = (keep (of_type r.kind) ss ≡ []) × Passed ss rs

passed-more : (ss us : List Slot) (k : ℕ) (rs : List Range) → Of k us → Each (λ r. Other r.kind k) rs → Passed ss rs → Passed (ss ++ us) rs
passed-more ss us k [] o d c = tt
passed-more ss us k (r ∷ rs) o d c = (
  keep_append (of_type r.kind) ss us ∙ rw (c.0, keep-unsuited r.kind k us o (other-type r.kind k d.0)),
  passed-more ss us k rs o d.1 c.1,
)

passed-nil : (rs : List Range) → Passed [] rs
passed-nil [] = tt
passed-nil (r ∷ rs) = (keep-nil _, passed-nil rs)

others : (r : Range) (rs : List Range) → (r.kind ≡ 0 → ⊥) → Each (Differ r) rs → Each (λ s. Other r.kind s.kind) rs
others r [] z d = tt
others r (s ∷ ss) z d = ((z, d.0), others r ss z d.1)

others-back : (r : Range) (rs : List Range) → Each (λ s. s.kind ≡ 0 → ⊥) rs → Each (Differ r) rs → Each (λ s. Other s.kind r.kind) rs
others-back r [] z d = tt
others-back r (s ∷ ss) z d = ((z.0, λ e. d.0 (sym e)), others-back r ss z.1 d.1)

-- of ranges whose types stand and differ
module _ (marks : List ℕ) (tagged : Bool) (t : Tables) (type start : ℕ) where
  keep-others : (k left p : ℕ) (rs : List Range) → Each (λ r. Other k r.kind) rs → keep (of_type k) (picked marks type start left p rs) ≡ []
  unfolding picked
  keep-others k left p [] d = keep-nil _
  keep-others k left p (r ∷ rs) d =
      let x : List Slot = picked_of marks type start left p r in
      keep_append (of_type k) x (picked marks type start (left - length x) (p + r.count) rs)
      ∙ rw (
        keep-unsuited k r.kind x (of-picked marks type start left p r) (other-type k r.kind d.0),
        keep-others k (left - length x) (p + r.count) rs d.1,
      )

  pages-from : (left p : ℕ) (rs : List Range) (ss : List Slot) → Each (λ r. r.kind ≡ 0 → ⊥) rs → Pairs Differ rs → Passed ss rs
      → pages tagged t rs (ss ++ picked marks type start left p rs) ≡ planned marks tagged t type start left p rs
  unfolding pages planned picked
  pages-from left p [] ss z d c = refl
  pages-from left p (r ∷ rs) ss z d c =
      let x : List Slot = picked_of marks type start left p r in
      let y : List Slot = picked marks type start (left - length x) (p + r.count) rs in
      let o = of-picked marks type start left p r in
      let k : keep (of_type r.kind) (ss ++ (x ++ y)) ≡ x =
      keep_append (of_type r.kind) ss (x ++ y)
      ∙ rw c.0 (keep_append (of_type r.kind) x y
      ∙ rw (keep-suited r.kind r.kind x o (own-type r.kind z.0), keep-others r.kind (left - length x) (p + r.count) rs (others r rs z.0 d.0))
      (append-nil x)) in
      let ih = pages-from (left - length x) (p + r.count) rs (ss ++ x) z.1 d.1
      (passed-more ss x r.kind rs o (others-back r rs z.1 d.0) c.1) in
      rw (k, ← append_assoc ss x y, ih)

  pub pages-are : (left p : ℕ) (rs : List Range) → Each (λ r. r.kind ≡ 0 → ⊥) rs → Pairs Differ rs
      → pages tagged t rs (picked marks type start left p rs) ≡ planned marks tagged t type start left p rs
  pages-are left p rs z d = pages-from left p rs [] z d (passed-nil rs)
