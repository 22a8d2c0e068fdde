-- The form of a line as the code goes is the rules'. Assumes nothing.
use Prim.Native.Nat.{ℕ, suc, ◌<◌}
use native.Mathlib.Omega.{arith}
use native.Mathlib.Nat.{suc-add}
use mathlib.Core.Path.{◌≡◌, refl, sym, ◌∙◌}
use mathlib.Core.Logic.{◌≢◌}
use mathlib.Core.Bool.{Bool, true, false, not}
use mathlib.Core.List.{List, [], ◌∷◌}
use lib.ListN.{length}
use lib.Dec.{eqb, leb, ltb}
use borrow.Author.Tests.{eq-eqb, ne_eqb, le-leb, lt-leb, lt-ltb, le-ltb, ltb-true, ltb-false}
use Rattle.rules.specs.Choice.{when, all_of, differ}
use Rattle.rules.specs.Bytes.{byte}
use Rattle.rules.specs.Log.{TAB, first_of, before, beyond, digit, number_of, hexed, bytes_of, Line, Other, entry_of, onto, fields, four_fields, line_of}
use Rattle.rules.proofs.Ladder.{on, either, when_true, when_false, ne-differ, eq-differ}
use Rattle.log_line.specs.Rungs.{after_host, after_number, line_by}
use Rattle.log_line.proofs.Text.{first-mark, first_next}

-- ---- the first field, and the others

module _ (x : ℕ) (xs : List ℕ) where
  fields-tab : x ≡ TAB → fields (x ∷ xs) ≡ [] ∷ fields xs
  unfolding fields
  fields-tab e = when_true _ _ _ (eq-eqb _ _ e)

  fields-next : x ≢ TAB → fields (x ∷ xs) ≡ onto x (fields xs)
  unfolding fields
  fields-next n = when_false _ _ _ (ne_eqb _ _ n)

no-tab : (s : List ℕ) → first_of TAB s ≡ length s → fields s ≡ s ∷ []
unfolding onto
no-tab [] e = unfold fields in refl
no-tab (x ∷ xs) e =
    either x TAB (λ t. absurd (let z = first-mark TAB x xs t in omega arith))
    λ n. let z = first_next TAB x xs n in fields-next x xs n ∙ rw (no-tab xs (omega arith)) refl

with-tab : (s : List ℕ) → first_of TAB s ≢ length s → fields s ≡ before TAB s ∷ fields (beyond TAB s)
unfolding onto
with-tab [] n = absurd (n (unfold first_of in refl))
with-tab (x ∷ xs) n =
    either x TAB (λ t. fields-tab x xs t ∙ rw (first-mark TAB x xs t) refl)
    λ m. let z = first_next TAB x xs m in fields-next x xs m ∙ rw (with-tab xs (λ q. n (omega arith)), z, suc-add) refl

-- ---- what a field can not be

any-other : (b : Bool) (l : Line) → l ≡ Other → when b Other l ≡ Other
any-other b l e = on (λ (x : Line). x ≡ Other) b (λ _. refl) (λ _. e)

bad-host : (n h : List ℕ) (fs : List (List ℕ)) → length h ≢ 1 → four_fields (n ∷ h ∷ fs) ≡ Other
unfolding four_fields all_of
bad-host n h [] m = refl
bad-host n h (c ∷ []) m = refl
bad-host n h (c ∷ p ∷ []) m = rw (ne_eqb _ _ m) (go (differ (number_of n) 0))
  where
    go : (b : Bool) → when (when b (when false (when (leb (digit (byte h 0)) 9) (when (hexed c) (when (hexed p) true false) false) false) false) false) (entry_of (number_of n) (digit (byte h 0)) (bytes_of c) (bytes_of p)) Other ≡ Other
    go true = unfold when in refl
    go false = unfold when in refl
bad-host n h (c ∷ p ∷ q ∷ qs) m = refl

-- a tab is no digit
no_digit : digit TAB ≡ 16
unfolding digit when
no_digit = refl

hexed-tab : (s : List ℕ) → first_of TAB s ≢ length s → hexed s ≡ false
unfolding hexed
hexed-tab [] n = absurd (n (unfold first_of in refl))
hexed-tab (x ∷ []) n = refl
hexed-tab (x ∷ y ∷ s) n =
    let F : Bool → Type 0 = λ b. b ≡ false in
    either x TAB (λ e. rw (e, no_digit) (unfold when in refl))
    λ m. on F _ (λ _. refl)
    λ _. either y TAB (λ e. rw (e, no_digit) (unfold when in refl))
    λ o. on F _ (λ _. refl) (λ _. hexed-tab s (λ q. n (let z = first_next TAB x (y ∷ s) m in let w = first_next TAB y s o in omega arith)))

leb-ltb : (d : ℕ) → leb d 9 ≡ not (ltb 9 d)
leb-ltb d = go (ltb 9 d) refl
  where
    go : (b : Bool) → ltb 9 d ≡ b → leb d 9 ≡ not (ltb 9 d)
    go true e = rw e (lt-leb d 9 (ltb-true 9 d e))
    go false e = rw e (le-leb d 9 (ltb-false 9 d e))

-- ---- command and parameters

some-fields : (n h c p z : List ℕ) → four_fields (n ∷ h ∷ c ∷ p ∷ fields z) ≡ Other
unfolding four_fields
some-fields n h c p z =
    either (first_of TAB z) (length z) (λ e. rw (no-tab z e) refl) (λ m. rw (with-tab z m) refl)

-- the tests of a line's fields, one by one and all at once
same_tests : (k d : ℕ) (c p : List ℕ) (l : Line)
    → when (eqb k 0) Other (when (ltb 9 d) Other (when (hexed c) (when (hexed p) l Other) Other))
    ≡ when (all_of (differ k 0 ∷ eqb 1 1 ∷ leb d 9 ∷ hexed c ∷ hexed p ∷ [])) l Other
unfolding all_of differ
same_tests k d c p l = rw (leb-ltb d) (go (eqb k 0) (ltb 9 d) (hexed c) (hexed p))
  where
    go : (a b x y : Bool) → when a Other (when b Other (when x (when y l Other) Other))
        ≡ when (when (not a) (when true (when (not b) (when x (when y true false) false) false) false) false) l Other
    go true b x y = unfold when in refl
    go false true x y = unfold when in refl
    go false false true true = unfold when in refl
    go false false true false = unfold when in refl
    go false false false y = unfold when in refl

ends-other : (b : Bool) (l : Line) → when false Other (when b (when false l Other) Other) ≡ Other
unfolding when
ends-other true l = refl
ends-other false l = refl

two_fields : (n rest : List ℕ) (x : ℕ)
    → when (eqb (number_of n) 0) Other (when (ltb 9 (digit x)) Other (after_host (number_of n) (digit x) rest)) ≡ four_fields (n ∷ (x ∷ []) ∷ fields rest)
unfolding after_host
two_fields n rest x =
    either (first_of TAB rest) (length rest)
    (λ e. any-other _ _ (any-other _ _ (when_true _ _ _ (eq-eqb _ _ e))) ∙ sym (rw (no-tab rest e) (unfold four_fields in refl)))
    λ m.
    let L : Line = entry_of (number_of n) (digit x) (bytes_of (before TAB rest)) (bytes_of (beyond TAB rest)) in
    rw (with-tab rest m, ne_eqb _ _ m)
    (either (first_of TAB (beyond TAB rest)) (length (beyond TAB rest))
    (λ e. rw (no-tab (beyond TAB rest) e) (unfold four_fields when byte in same_tests (number_of n) (digit x) (before TAB rest) (beyond TAB rest) L))
    λ o. rw (with-tab (beyond TAB rest) o, some-fields n (x ∷ []) (before TAB rest) (before TAB (beyond TAB rest)) (beyond TAB (beyond TAB rest)), hexed-tab (beyond TAB rest) o) (any-other _ _ (any-other _ _ (ends-other _ L))))

-- ---- the whole line

-- the tests that a text of two bytes or more passes
long : (k x y : ℕ) (rest : List ℕ)
    → after_number k (x ∷ y ∷ rest) ≡ when (eqb k 0) Other (when (ltb 9 (digit x)) Other (when (differ y TAB) Other (after_host k (digit x) rest)))
unfolding after_number byte
long k x y rest = rw (le-ltb (suc (suc (length rest))) 2 (omega arith)) (unfold when in refl)

short : (k : ℕ) (r : List ℕ) → length r < 2 → after_number k r ≡ Other
unfolding after_number
short k r h = any-other _ _ (when_true _ _ _ (lt-ltb _ _ h))

three-fields : (n r : List ℕ) → after_number (number_of n) r ≡ four_fields (n ∷ fields r)
three-fields n [] = short _ [] (omega arith) ∙ unfold fields four_fields in refl
three-fields n (x ∷ []) =
    short _ (x ∷ []) (omega arith)
    ∙ sym (either x TAB (λ e. rw (fields-tab x [] e) (unfold fields four_fields in refl)) (λ m. rw (fields-next x [] m) (unfold fields onto four_fields in refl)))
three-fields n (x ∷ y ∷ rest) =
    long _ x y rest
    ∙ either x TAB
    (λ e. any-other _ _ (rw (e, no_digit) (unfold when in refl)) ∙ sym (rw (fields-tab x (y ∷ rest) e) (bad-host n [] _ (λ q. omega arith))))
    λ m.
    either y TAB
    (λ e.
    rw (eq-differ y TAB e, fields-next x (y ∷ rest) m, fields-tab y rest e) (unfold onto when in two_fields n rest x))
    λ o.
    rw (ne-differ y TAB o, fields-next x (y ∷ rest) m, fields-next y rest o) (any-other _ _ (any-other _ _ (when_true true _ _ refl)) ∙ sym (two-letters (fields rest)))
  where
    two-letters : (l : List (List ℕ)) → four_fields (n ∷ onto x (onto y l)) ≡ Other
    two-letters [] = unfold onto in bad-host n (x ∷ y ∷ []) [] (λ q. omega arith)
    two-letters (f ∷ fs) = unfold onto in bad-host n (x ∷ y ∷ f) fs (λ q. omega arith)

pub four-fields : (s : List ℕ) → line_by s ≡ line_of s
unfolding line_by line_of
four-fields s =
    either (first_of TAB s) (length s)
    (λ e. when_true _ _ _ (eq-eqb _ _ e) ∙ sym (rw (no-tab s e) (unfold four_fields in refl)))
    λ n. when_false _ _ _ (ne_eqb _ _ n) ∙ three-fields (before TAB s) (beyond TAB s) ∙ rw (with-tab s n) refl
