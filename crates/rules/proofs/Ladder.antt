-- Down a run of tests: the laws of the shut choices, for searches (`search ladder`) and for proofs by hand. Assumes nothing.
use Prim.Native.Nat.{ℕ, zero, suc, ◌+◌, ◌<◌, ◌≤◌}
use native.Mathlib.Omega.{arith}
use native.Mathlib.Numerals.{add-one, unary_clauses}
use mathlib.Core.Path.{◌≡◌, refl, sym, ap, ◌∙◌}
use mathlib.Core.Logic.{◌≢◌}
use mathlib.Core.List.{List, [], ◌∷◌}
use mathlib.Core.Bool.{Bool, true, false, not}
use lib.Dec.{eqb, leb, ltb}
use borrow.Author.Tests.{eqb-true, eqb-false, eq-eqb, ne_eqb, le-leb, lt-leb, lt-ltb, le-ltb}
use Rattle.rules.specs.Choice.{when, any_of, all_of, differ, below, any_from, each}

-- ---- `when`: the code's test r is the definition's test b, and it came out so

pub yes : {A : Type 0} (r b : Bool) (x y z : A) → r ≡ b → r ≡ true → z ≡ x → z ≡ when b x y
unfolding when
yes r b x y z e t w = rw (sym e ∙ t) w

pub no : {A : Type 0} (r b : Bool) (x y z : A) → r ≡ b → r ≡ false → z ≡ y → z ≡ when b x y
unfolding when
no r b x y z e t w = rw (sym e ∙ t) w

pub eq_is : {A : Type 0} (a b : ℕ) (x y z : A) → a ≡ b → z ≡ x → z ≡ when (eqb a b) x y
unfolding when
eq_is a b x y z t w = rw (eq-eqb a b t) w

pub eq-not : {A : Type 0} (a b : ℕ) (x y z : A) → (a ≡ b → ⊥) → z ≡ y → z ≡ when (eqb a b) x y
unfolding when
eq-not a b x y z t w = rw (ne_eqb a b t) w

pub le_is : {A : Type 0} (a b : ℕ) (x y z : A) → a ≤ b → z ≡ x → z ≡ when (leb a b) x y
unfolding when
le_is a b x y z t w = rw (le-leb a b t) w

pub le_not : {A : Type 0} (a b : ℕ) (x y z : A) → b < a → z ≡ y → z ≡ when (leb a b) x y
unfolding when
le_not a b x y z t w = rw (lt-leb a b t) w

pub lt-is : {A : Type 0} (a b : ℕ) (x y z : A) → a < b → z ≡ x → z ≡ when (ltb a b) x y
unfolding when
lt-is a b x y z t w = rw (lt-ltb a b t) w

pub lt_not : {A : Type 0} (a b : ℕ) (x y z : A) → b ≤ a → z ≡ y → z ≡ when (ltb a b) x y
unfolding when
lt_not a b x y z t w = rw (le-ltb a b t) w

-- the number that the test reads came from a call
pub eq_yes : {A : Type 0} (r a b : ℕ) (x y z : A) → r ≡ a → r ≡ b → z ≡ x → z ≡ when (eqb a b) x y
eq_yes r a b x y z e t w = eq_is a b x y z (sym e ∙ t) w

pub eq_no : {A : Type 0} (r a b : ℕ) (x y z : A) → r ≡ a → (r ≡ b → ⊥) → z ≡ y → z ≡ when (eqb a b) x y
eq_no r a b x y z e t w = eq-not a b x y z (λ q. t (e ∙ q)) w

-- numbers that differ, and do not
pub differ-is : {A : Type 0} (a b : ℕ) (x y z : A) → (a ≡ b → ⊥) → z ≡ x → z ≡ when (differ a b) x y
unfolding when differ
differ-is a b x y z t w = rw (ne_eqb a b t) w

pub differ-not : {A : Type 0} (a b : ℕ) (x y z : A) → a ≡ b → z ≡ y → z ≡ when (differ a b) x y
unfolding when differ
differ-not a b x y z t w = rw (eq-eqb a b t) w

-- one rung of a list of tests
pub any-yes : {A : Type 0} (b : Bool) (bs : List Bool) (x y z : A) → z ≡ when b x (when (any_of bs) x y) → z ≡ when (any_of (b ∷ bs)) x y
unfolding when any_of
any-yes true bs x y z w = w
any-yes false bs x y z w = w

pub any_none : {A : Type 0} (x y z : A) → z ≡ y → z ≡ when (any_of []) x y
unfolding when any_of
any_none x y z w = w

pub all_yes : {A : Type 0} (b : Bool) (bs : List Bool) (x y z : A) → z ≡ when b (when (all_of bs) x y) y → z ≡ when (all_of (b ∷ bs)) x y
unfolding when all_of
all_yes true bs x y z w = w
all_yes false bs x y z w = w

pub all_none : {A : Type 0} (x y z : A) → z ≡ x → z ≡ when (all_of []) x y
unfolding when all_of
all_none x y z w = w

-- for `search ladder`: a way out of a run of tests
pub ruleset ladder =
    (yes, no, eq_is, eq-not, le_is, le_not, lt-is, lt_not, eq_yes, eq_no, differ-is, differ-not, any-yes, any_none, all_yes, all_none)

-- ---- a property of a choice: of each side, where the test came out so

pub on : {A : Type 0} (P : A → Type 0) (b : Bool) {x y : A} → (b ≡ true → P x) → (b ≡ false → P y) → P (when b x y)
unfolding when
on P true f g = f refl
on P false f g = g refl

pub when_true : {A : Type 0} (b : Bool) (x y : A) → b ≡ true → when b x y ≡ x
unfolding when
when_true b x y e = rw e

pub when_false : {A : Type 0} (b : Bool) (x y : A) → b ≡ false → when b x y ≡ y
unfolding when
when_false b x y e = rw e

-- a test is the choice by it
pub test-is : (b : Bool) → b ≡ when b true false
unfolding when
test-is true = refl
test-is false = refl

-- what is made of a choice is chosen likewise
pub when-of : {A B : Type 0} (f : A → B) (b : Bool) (x y : A) → f (when b x y) ≡ when b (f x) (f y)
unfolding when
when-of f true x y = refl
when-of f false x y = refl

pub when-not : {A : Type 0} (b : Bool) (x y : A) → when (not b) x y ≡ when b y x
unfolding when
when-not true x y = refl
when-not false x y = refl

-- two numbers are equal, or they are not
pub either : {P : Type 0} (a b : ℕ) → (a ≡ b → P) → (a ≢ b → P) → P
either {P} a b f g = go (eqb a b) refl
  where
    go : (t : Bool) → eqb a b ≡ t → P
    go true e = f (eqb-true a b e)
    go false e = g (eqb-false a b e)

-- one side of a choice is no demand: the other holds where it is chosen
pub if-true : (a b : ℕ) (x : Bool) → when (eqb a b) x true ≡ true → a ≡ b → x ≡ true
if-true a b x e i = sym (when_true (eqb a b) x true (eq-eqb a b i)) ∙ e

pub if-of : (a b : ℕ) (x : Bool) → (a ≡ b → x ≡ true) → when (eqb a b) x true ≡ true
if-of a b x f = on (λ (y : Bool). y ≡ true) (eqb a b) (λ e. f (eqb-true a b e)) (λ _. refl)

pub unless-true : (a b : ℕ) (x : Bool) → when (eqb a b) true x ≡ true → a ≢ b → x ≡ true
unless-true a b x e n = sym (when_false (eqb a b) true x (ne_eqb a b n)) ∙ e

pub unless-of : (a b : ℕ) (x : Bool) → (a ≢ b → x ≡ true) → when (eqb a b) true x ≡ true
unless-of a b x f = on (λ (y : Bool). y ≡ true) (eqb a b) (λ _. refl) (λ e. f (eqb-false a b e))

-- ---- tests taken apart

pub never : false ≡ true → ⊥
never e = let y : ◌≡◌ {A = ℕ} 0 1 = cc in omega arith

-- one of the tests holds: the first, or one of the rest
pub any-cases : {P : Type 0} (b : Bool) (bs : List Bool) → any_of (b ∷ bs) ≡ true → (b ≡ true → P) → (any_of bs ≡ true → P) → P
unfolding any_of when
any-cases true bs e f g = f refl
any-cases false bs e f g = g e

pub any-by-first : (b : Bool) (bs : List Bool) → b ≡ true → any_of (b ∷ bs) ≡ true
unfolding any_of when
any-by-first b bs e = rw e

pub any-by-rest : (b : Bool) (bs : List Bool) → any_of bs ≡ true → any_of (b ∷ bs) ≡ true
unfolding any_of when
any-by-rest true bs e = refl
any-by-rest false bs e = e

pub any-nil : any_of [] ≡ true → ⊥
unfolding any_of
any-nil e = never e

pub any-first : (b : Bool) (bs : List Bool) → any_of (b ∷ bs) ≡ false → b ≡ false
unfolding any_of when
any-first true bs e = e
any-first false bs e = refl

pub any-rest : (b : Bool) (bs : List Bool) → any_of (b ∷ bs) ≡ false → any_of bs ≡ false
unfolding any_of when
any-rest true bs e = cc
any-rest false bs e = e

pub all_first : (b : Bool) (bs : List Bool) → all_of (b ∷ bs) ≡ true → b ≡ true
unfolding all_of when
all_first true bs e = refl
all_first false bs e = e

pub all_rest : (b : Bool) (bs : List Bool) → all_of (b ∷ bs) ≡ true → all_of bs ≡ true
unfolding all_of when
all_rest true bs e = e
all_rest false bs e = cc

pub all_cons : (b : Bool) (bs : List Bool) → b ≡ true → all_of bs ≡ true → all_of (b ∷ bs) ≡ true
unfolding all_of when
all_cons b bs e f = rw e f

pub all_nil : all_of [] ≡ true
unfolding all_of
all_nil = refl

pub differ-true : (a b : ℕ) → differ a b ≡ true → a ≢ b
unfolding differ
differ-true a b e = eqb-false a b (borrow.Author.Tests.not-true (eqb a b) e)

pub differ-false : (a b : ℕ) → differ a b ≡ false → a ≡ b
unfolding differ
differ-false a b e = eqb-true a b (borrow.Author.Tests.not-false (eqb a b) e)

pub ne-differ : (a b : ℕ) → a ≢ b → differ a b ≡ true
unfolding differ
ne-differ a b n = rw (ne_eqb a b n)

pub eq-differ : (a b : ℕ) → a ≡ b → differ a b ≡ false
unfolding differ
eq-differ a b e = rw (eq-eqb a b e)

-- ---- tests at each number below n

pub below_step : (n : ℕ) (f : ℕ → Bool) → below (n + 1) f ≡ when (f n) (below n f) false
unfolding below
below_step n f = rw add-one refl

pub below_at : (n : ℕ) (f : ℕ → Bool) → below n f ≡ true → (p : ℕ) → p < n → f p ≡ true
unfolding below when
below_at zero f e p h = absurd (omega arith)
below_at (suc n) f e p h = go (λ d k. below_at n f d p (omega arith)) (f n) refl e
  where
    near : (below n f ≡ true → p ≢ n → f p ≡ true) → f n ≡ true → below n f ≡ true → (b : Bool) → eqb p n ≡ b → f p ≡ true
    near ih t d true i = rw (eqb-true p n i) t
    near ih t d false i = ih d (eqb-false p n i)

    go : (below n f ≡ true → p ≢ n → f p ≡ true) → (b : Bool) → f n ≡ b → when b (below n f) false ≡ true → f p ≡ true
    go ih true t d = near ih t d (eqb p n) refl
    go ih false t d = cc

pub below_of : (n : ℕ) (f : ℕ → Bool) → ((p : ℕ) → p < n → f p ≡ true) → below n f ≡ true
unfolding below when
below_of zero f h = refl
below_of (suc n) f h = rw (h n (omega arith)) (below_of n f (λ p i. h p (omega arith)))

-- one that fails is enough
pub below_fails : (n : ℕ) (f : ℕ → Bool) (p : ℕ) → p < n → f p ≡ false → below n f ≡ false
below_fails n f p h e = go (below n f) refl
  where
    go : (b : Bool) → below n f ≡ b → b ≡ false
    go true d = let x : f p ≡ true = below_at n f d p h in sym x ∙ e
    go false d = refl

-- ---- tests at one of the numbers from i on

pub any_here : (f : ℕ → Bool) (n i p : ℕ) → i ≤ p → p < i + n → f p ≡ true → any_from f n i ≡ true
unfolding any_from when
any_here f zero i p l h e = absurd (omega arith)
any_here f (suc n) i p l h e = go (λ k. any_here f n (suc i) p (omega arith) (omega arith) e) (f i) refl
  where
    go : (i ≢ p → any_from f n (suc i) ≡ true) → (b : Bool) → f i ≡ b → when b true (any_from f n (suc i)) ≡ true
    go ih true t = refl
    go ih false t = ih (λ q. let z : true ≡ false = sym e ∙ ap f (sym q) ∙ t in let y : ◌≡◌ {A = ℕ} 0 1 = cc in omega arith)

pub any-nowhere : (f : ℕ → Bool) (n i : ℕ) → any_from f n i ≡ false → (p : ℕ) → i ≤ p → p < i + n → f p ≡ false
any-nowhere f n i e p l h = go (f p) refl
  where
    go : (b : Bool) → f p ≡ b → b ≡ false
    go true t = let x : any_from f n i ≡ true = any_here f n i p l h t in sym x ∙ e
    go false t = refl

pub any-of-none : (f : ℕ → Bool) (n i : ℕ) → ((p : ℕ) → i ≤ p → p < i + n → f p ≡ false) → any_from f n i ≡ false
unfolding any_from when
any-of-none f zero i h = refl
any-of-none f (suc n) i h = rw (h i (omega arith) (omega arith)) (any-of-none f n (suc i) (λ p l k. h p (omega arith) (omega arith)))

-- ---- steps one after another: what each step keeps, all keep

pub each_keeps : (P : List ℕ → Type 0) (f : ℕ → List ℕ → List ℕ) (n i : ℕ) (xs : List ℕ)
    → ((j : ℕ) (ys : List ℕ) → i ≤ j → j < i + n → P ys → P (f j ys)) → P xs → P (each f n i xs)
unfolding each
each_keeps P f zero i xs k p = p
each_keeps P f (suc n) i xs k p = each_keeps P f n (suc i) (f i xs) (λ j ys l m. k j ys (omega arith) (omega arith)) (k i xs (omega arith) (omega arith) p)

-- what the step at p turns from P to Q, and no other step undoes
pub each_at : (P Q : List ℕ → Type 0) (f : ℕ → List ℕ → List ℕ) (n i p : ℕ) (xs : List ℕ) → i ≤ p → p < i + n
    → ((j : ℕ) (ys : List ℕ) → j ≢ p → P ys → P (f j ys)) → ((ys : List ℕ) → P ys → Q (f p ys))
    → ((j : ℕ) (ys : List ℕ) → j ≢ p → Q ys → Q (f j ys)) → P xs → Q (each f n i xs)
unfolding each
each_at P Q f zero i p xs l h before there after x = absurd (omega arith)
each_at P Q f (suc n) i p xs l h before there after x =
    either i p
    (λ e. each_keeps Q f n (suc i) (f i xs) (λ j ys k m. after j ys (omega arith)) (rw e (there xs x)))
    (λ d. each_at P Q f n (suc i) p (f i xs) (omega arith) (omega arith) before there after (before i xs d x))

-- the last of so many steps
each-suc : (f : ℕ → List ℕ → List ℕ) (n i : ℕ) (xs : List ℕ) → each f (suc n) i xs ≡ f (i + n) (each f n i xs)
unfolding each
each-suc f zero i xs = simp unary_clauses
each-suc f (suc n) i xs =
    let e : suc i + n ≡ i + suc n = omega arith in
    each-suc f n (suc i) (f i xs) ∙ ap (λ (k : ℕ). f k (each f n (suc i) (f i xs))) e

pub each_last : (f : ℕ → List ℕ → List ℕ) (n i : ℕ) (xs : List ℕ) → each f (n + 1) i xs ≡ f (i + n) (each f n i xs)
each_last f n i xs = rw add-one (each-suc f n i xs)
