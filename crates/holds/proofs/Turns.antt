-- The turns of the loop over descriptors. Assumes nothing.
use Prim.Native.Nat.{ℕ, zero, suc, ◌+◌, ◌-◌, ◌*◌, ◌<◌, ◌≤◌}
use native.Mathlib.Numerals.{add-one}
use native.Mathlib.Omega.{arith}
use mathlib.Core.Path.{◌≡◌, refl, sym, ◌∙◌}
use mathlib.Core.Bool.{Bool, true, false}
use mathlib.Core.List.{List}
use lib.Dec.{eqb}
use borrow.Author.Tests.{ltb-false}
use Rattle.std.specs.Prelude.{Result, Ok, Err, length, get_or, set, replicate, take}
use Rattle.std.proofs.lemmas.List.{length-set, length-replicate, length-take-le, get_or-take, get_or-set_same, get_or-set_other}
use Rattle.rules.specs.Choice.{when, any_from}
use Rattle.rules.specs.Tables.{element_size, most_descriptors}
use Rattle.rules.specs.Roster.{Slot}
use Rattle.rules.specs.Holds.{descriptors, wrong_list_length, first, many, takes, conflicts}
use Rattle.rules.proofs.Ladder.{yes, no, either, any-first, any-rest}
use Rattle.order.specs.declared.Cause.{Cause}
use Rattle.order.specs.declared.Cause.TheVariants.{ListLength}
use Rattle.order.specs.declared.Refusal.TheVariants.{For, Conflict}
use Rattle.lists.specs.declared.Span.{Span}
use Rattle.lists.specs.Named.{span_at, judged_at, Marks, Judged}
use Rattle.lists.proofs.Faults.{named-span}
use Rattle.holds.specs.Judged.{Ruling, nowhere, taken_in, taken_of, on_named, judged_from, elements_by, Bounded}

-- ---- where the elements of the first k descriptors begin and end is kept

pub record Spanned (ss : List Slot) (list : List ℕ) (k : ℕ) (spans : List Span) : Type 0 where
  pub wide : length spans ≡ most_descriptors
  pub told : (j : ℕ) → j < k → get_or spans j nowhere ≡ span_at ss list j
  pub inside : (j : ℕ) → j < k → (get_or spans j nowhere).end ≤ length ss

module _ (ss : List Slot) (list : List ℕ) where
  spans-begin : Spanned ss list 0 (replicate 32 nowhere)
  spans-begin =
      record { wide = length-replicate {A = Span} 32 nowhere; told = λ j h. absurd (omega arith); inside = λ j h. absurd (omega arith) }

  module _ (k : ℕ) (spans : List Span) (so_far : Spanned ss list k spans) where
    -- one span more, and what it says of each
    kept_more : (P : ℕ → Span → Type 0) (s : Span) → k < 32 → ((j : ℕ) → j < k → P j (get_or spans j nowhere)) → P k s
        → (j : ℕ) → j < k + 1 → P j (get_or (set spans k s) j nowhere)
    kept_more P s l before new j h =
        either j k
        (λ d. rw (d, get_or-set_same spans k s nowhere (omega (arith, so_far.wide))) new)
        (λ d. rw (get_or-set_other spans k j s nowhere d) (before j (omega arith)))

    spans-more : k < 32 → (s : Span) → s ≡ span_at ss list k → s.end ≤ length ss → Spanned ss list (k + 1) (set spans k s)
    spans-more l s is most =
        record {
          wide = length-set spans k s ∙ so_far.wide;
          told = kept_more (λ j x. x ≡ span_at ss list j) s l so_far.told is;
          inside = kept_more (λ j x. x.end ≤ length ss) s l so_far.inside most;
        }

    -- the first n of them
    module _ (n : ℕ) (few : n ≤ k) where
      spans-take : (es : List ℕ) (h i j : ℕ) → j < n → taken_of es h i (take n spans) j ≡ takes ss es h i list j
      unfolding taken_of taken_in takes
      spans-take es h i j l =
          let e : first ss list j + many ss list j - first ss list j ≡ many ss list j = omega arith in
          rw (get_or-take n spans j nowhere l, so_far.told j (omega arith), e)

      spans-inside : (es : List ℕ) → length es ≡ element_size * length ss → (j : ℕ) → j < n
          → element_size * (get_or (take n spans) j nowhere).end ≤ length es
      spans-inside es long j l =
          rw (get_or-take n spans j nowhere l) (let there = so_far.inside j (omega arith) in omega (arith, there, long))

-- two tests that agree at each of the numbers
any-alike : (f g : ℕ → Bool) (n i : ℕ) → ((p : ℕ) → i ≤ p → p < i + n → f p ≡ g p) → any_from f n i ≡ any_from g n i
unfolding any_from
any-alike f g zero i same = refl
any-alike f g (suc n) i same =
    rw (same i (omega arith) (omega arith), any-alike f g n (suc i) (λ p l h. same p (omega arith) (omega arith)))

-- ---- the first k descriptors had no fault, the places that they name are marked, and where those of each begin and end is kept

module _ (ss : List Slot) (es : List ℕ) (h i : ℕ) (list : List ℕ) where
  abbrev rest : Ruling
  rest = when (conflicts ss es h i list) (Err Conflict) (Ok tt)

  pub record Turning (n : ℕ) (marks : List ℕ) (spans : List Span) (k : ℕ) : Type 0 where
    pub most : n ≤ most_descriptors
    pub left : judged_from ss list n 0 rest ≡ judged_from ss list (n - k) k rest
    pub marked : Marks ss list k marks
    pub kept : Spanned ss list k spans

  pub turn-begins : (n : ℕ) → n ≤ 32 → (marks : List ℕ) → Marks ss list 0 marks → Turning n marks (replicate 32 nowhere) 0
  turn-begins n most marks m =
      let e : n - 0 ≡ n = omega arith in
      record { most = most; left = rw e; marked = m; kept = spans-begin ss list }

  module _ (n : ℕ) (marks : List ℕ) (spans : List Span) (k : ℕ) (at : Turning n marks spans k) where
    module _ (l : k < n) where
      turn : (x : Result Span Cause) → x ≡ judged_at ss list k → judged_from ss list n 0 rest ≡ on_named x (judged_from ss list (n - (k + 1)) (k + 1) rest)
      unfolding judged_from
      turn x is =
          let e : n - k ≡ suc (n - (k + 1)) = omega arith in
          at.left ∙ rw (e, is, add-one)

      pub turn-wrong : (c : Cause) → Err c ≡ judged_at ss list k → Err (For c) ≡ judged_from ss list n 0 rest
      unfolding on_named
      turn-wrong c is = sym (turn (Err c) is)

      -- it names the elements of s
      pub turn_on : (s : Span) → Ok s ≡ judged_at ss list k → (marks' : List ℕ) → Judged ss list (k + 1) marks' (Ok s)
          → Turning n marks' (set spans k s) (k + 1)
      unfolding on_named
      turn_on s is marks' told =
          record {
            most = at.most;
            left = turn (Ok s) is;
            marked = told.2;
            kept = spans-more ss list k spans at.kept (omega (arith, at.most)) s (named-span ss list k s is) told.1;
          }

    -- all are judged
    module _ (l : n ≤ k) (far : k ≤ n) (all : n ≡ descriptors list) where
      done : judged_from ss list n 0 rest ≡ rest
      unfolding judged_from
      done = let e : n - k ≡ 0 = omega arith in at.left ∙ rw e

      count_is : length (take n spans) ≡ n
      count_is = length-take-le n spans (omega (arith, at.most, at.kept.wide))

      pub turn-bounded : length es ≡ element_size * length ss → Bounded es (take n spans)
      turn-bounded long = λ j h. spans-inside ss list k spans at.kept n l es long j (omega (arith, count_is))

      module _ (bad : Bool) (is : bad ≡ any_from (taken_of es h i (take n spans)) (length (take n spans)) 0) where
        told : bad ≡ conflicts ss es h i list
        unfolding conflicts
        told =
            is ∙ rw count_is
            (any-alike _ (takes ss es h i list) n 0 (λ j _ m. spans-take ss list k spans at.kept n l es h i j (omega arith)) ∙ rw all)

        pub turn-taken : bad ≡ true → Err Conflict ≡ judged_from ss list n 0 rest
        turn-taken t = rw done (yes bad _ _ _ _ told t refl)

        pub turn-free : bad ≡ false → Ok tt ≡ judged_from ss list n 0 rest
        turn-free t = rw done (no bad _ _ _ _ told t refl)

      pub turn-marks : Marks ss list (descriptors list) marks
      turn-marks = let e : k ≡ descriptors list = omega arith in rw e at at.marked

  -- the length of the list was judged as r
  module _ (r : Bool) (is : r ≡ wrong_list_length list) where
    pub length-wrong : r ≡ true → Err (For ListLength) ≡ elements_by ss es h i list
    unfolding elements_by
    length-wrong t = yes r _ _ _ _ is t refl

    pub length-right : r ≡ false → (n : ℕ) → n ≡ descriptors list → (x : Ruling) → x ≡ judged_from ss list n 0 rest → x ≡ elements_by ss es h i list
    unfolding elements_by
    length-right t n all x w = no r _ _ _ _ is t (rw all at w)

-- "1 to 32 descriptors"
pub length_most : (list : List ℕ) (r : Bool) → r ≡ wrong_list_length list → r ≡ false → (n : ℕ) → n ≡ descriptors list → n ≤ 32
unfolding wrong_list_length descriptors
length_most list r is t n all =
    let few : length list ≤ 192 = ltb-false 192 (length list) (any-first _ _ (any-rest (eqb (length list) 0) _ (sym is ∙ t))) in
    omega arith
