-- The marks of the places that were named: one pass finds an element that is named twice. Assumes nothing.
use Prim.Native.Nat.{ℕ, ◌+◌, ◌-◌, ◌<◌, ◌≤◌, max}
use native.Mathlib.Omega.{arith}
use mathlib.Core.Path.{◌≡◌, refl, sym, ◌∙◌}
use mathlib.Core.Logic.{◌≢◌}
use mathlib.Core.Bool.{Bool, true, false}
use mathlib.Core.List.{List}
use lib.ListN.{length, set, length-set, replicate, length-replicate, get_or-replicate}
use lib.Seq.{get_or-set_same, get_or-set_other}
use lib.Dec.{eqb}
use borrow.Author.Tests.{eq-eqb, eqb-true, eqb-false, lt-ltb, ltb-true}
use Rattle.rules.specs.Choice.{when, differ, any_from, each}
use Rattle.rules.specs.Roster.{Slot}
use Rattle.rules.specs.Holds.{first, many, meet, named_before}
use Rattle.rules.proofs.Ladder.{either, any_here, any-nowhere, any-of-none, each_keeps, all_first, all_rest, all_cons, all_nil, eq-differ}
use Rattle.rules.proofs.Loops.{Failed, Turned, turned_more}
use Rattle.lists.specs.Named.{marked, mark_at, names, named, Marks}
use Rattle.lists.proofs.Steps.{each-writes, any-more, fail-alike}

-- ---- one place marked

mark_at-length : (p : ℕ) (ms : List ℕ) → length (mark_at p ms) ≡ length ms
unfolding mark_at
mark_at-length p ms = length-set ms p 1

mark_at-other : (p q : ℕ) (ms : List ℕ) → q ≢ p → marked (mark_at p ms) q ≡ marked ms q
unfolding marked mark_at
mark_at-other p q ms d = rw (get_or-set_other ms p q 1 0 d)

mark_at-tells : (p q : ℕ) (ms : List ℕ) → q < length ms → marked (mark_at p ms) q ≡ when (eqb p q) true (marked ms q)
unfolding marked mark_at when differ
mark_at-tells p q ms h = go (eqb p q) refl
  where
    go : (b : Bool) → eqb p q ≡ b → marked (mark_at p ms) q ≡ when b true (marked ms q)
    go true e = let d : p ≡ q = eqb-true p q e in rw (d, get_or-set_same ms q 1 0 h)
    go false e = mark_at-other p q ms (λ d. eqb-false p q e (sym d))

-- ---- the places of a span, one after the other: those before p were not marked, and are now

module _ (ms₀ : List ℕ) (f : ℕ) (ms : List ℕ) (p : ℕ) (at : Turned mark_at f ms₀ ms p) (passed : Failed (marked ms₀) f p) where
  pub as_before : marked ms₀ p ≡ marked ms p
  as_before =
      rw at.done
      (each_keeps (λ (ys : List ℕ). marked ms₀ p ≡ marked ys p) mark_at (p - f) f ms₀
      (λ j ys l h e. e ∙ sym (mark_at-other j p ys (λ d. omega (arith, at.from)))) refl)

  pub mark_on : Turned mark_at f ms₀ (set ms p 1) (p + 1)
  unfolding mark_at
  mark_on = turned_more mark_at f ms₀ ms p at (set ms p 1) refl (length-set ms p 1)

-- ---- the marks of the descriptors

pub marks_begin : (ss : List Slot) (list : List ℕ) → Marks ss list 0 (replicate 512 0)
unfolding marked named any_from
marks_begin ss list =
    record {
      wide = length-replicate {A = ℕ} 512 0;
      some = λ k h. absurd (omega arith);
      told = λ p h. eq-differ _ 0 (get_or-replicate 512 p 0 0 h);
    }

module _ (ss : List Slot) (list : List ℕ) (k : ℕ) (ms : List ℕ) (so_far : Marks ss list k ms) where
  abbrev a : ℕ
  a = first ss list k

  abbrev n : ℕ
  n = many ss list k

  pub marks-more : 1 ≤ many ss list k → (ms' : List ℕ) → ms' ≡ each mark_at (many ss list k) (first ss list k) ms → Marks ss list (k + 1) ms'
  unfolding named names when
  marks-more some ms' e =
      record {
        wide = rw e (each_keeps (λ (ys : List ℕ). length ys ≡ 512) mark_at n a ms (λ j ys _ _ w. mark_at-length j ys ∙ w) so_far.wide);
        some = λ j h. either j k (λ d. rw d some) (λ d. so_far.some j (omega arith));
        told = λ p h.
            rw (e, any-more (λ j. names ss list j p) k)
            (each-writes (λ (ys : List ℕ). marked ys p) mark_at (λ q. eqb q p) true 512
            (λ j ys w. mark_at-tells j p ys (omega arith)) mark_at-length n a ms so_far.wide
            ∙ rw (so_far.told p h) (swap (names ss list k p) (named ss list k p)));
      }
    where
      swap : (b c : Bool) → when b true c ≡ when c true b
      swap true true = refl
      swap true false = refl
      swap false true = refl
      swap false false = refl

  -- an element of the k-th is marked exactly where an earlier descriptor names one of its elements
  module _ (some : 1 ≤ many ss list k) (inside : first ss list k + many ss list k ≤ 512) where
    meets : (j p : ℕ) → p < a + n → a ≤ p → first ss list j ≤ p → p < first ss list j + many ss list j → meet ss list k j ≡ true
    unfolding meet
    meets j p u l m o =
        let x : first ss list j < a + n = omega arith in
        let y : a < first ss list j + many ss list j = omega arith in
        all_cons _ _ (lt-ltb _ _ x) (all_cons _ _ (lt-ltb _ _ y) all_nil)

    none_named : named_before ss list k ≡ false → any_from (marked ms) n a ≡ false
    unfolding named_before named names
    none_named e =
        any-of-none (marked ms) n a
        (λ p l u. so_far.told p (omega arith)
        ∙ any-of-none _ k 0
        (λ j _ h. any-of-none _ (many ss list j) (first ss list j)
        (λ q m o. clear j p q (omega arith) u l m o (any-nowhere (meet ss list k) k 0 e j (omega arith) h) (eqb q p) refl)))
      where
        clear : (j p q : ℕ) → j < k → p < a + n → a ≤ p → first ss list j ≤ q → q < first ss list j + many ss list j
            → meet ss list k j ≡ false → (b : Bool) → eqb q p ≡ b → b ≡ false
        clear j p q h u l m o w true t =
            let d : q ≡ p = eqb-true q p t in
            sym (meets j p u l (omega arith) (omega arith)) ∙ w
        clear j p q h u l m o w false t = refl

    named_by : (j p : ℕ) → j < k → first ss list j ≤ p → p < first ss list j + many ss list j → named ss list k p ≡ true
    unfolding named names
    named_by j p h l u =
        any_here (λ x. names ss list x p) k 0 j (omega arith) (omega arith)
        (any_here (λ q. eqb q p) (many ss list j) (first ss list j) p l u (eq-eqb p p refl))

    none-marked : any_from (marked ms) n a ≡ false → named_before ss list k ≡ false
    unfolding named_before meet
    none-marked e = any-of-none (meet ss list k) k 0 (λ j _ h. apart j (omega arith) (meet ss list k j) refl)
      where
        apart : (j : ℕ) → j < k → (b : Bool) → meet ss list k j ≡ b → b ≡ false
        apart j h true t =
            let x : first ss list j < a + n = ltb-true _ _ (all_first _ _ t) in
            let y : a < first ss list j + many ss list j = ltb-true _ _ (all_first _ _ (all_rest _ _ t)) in
            let p = max (first ss list j) a in
            let s = so_far.some j h in
            let m = named_by j p h (omega arith) (omega arith) in
            sym m ∙ sym (so_far.told p (omega arith)) ∙ any-nowhere (marked ms) n a e p (omega arith) (omega arith)
        apart j h false t = refl

    pub before-is : any_from (marked ms) n a ≡ named_before ss list k
    before-is = fail-alike _ _ none-marked none_named
