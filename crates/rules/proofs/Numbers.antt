-- The number of a call is the first whose condition holds. Assumes nothing.
use Prim.Native.Nat.{ℕ, zero, suc, ◌+◌, ◌<◌}
use native.Mathlib.Omega.{arith}
use mathlib.Core.Path.{◌≡◌, refl, sym, ap, ◌∙◌}
use mathlib.Core.Logic.{◌≢◌}
use mathlib.Core.Bool.{Bool, true, false, not}
use mathlib.Core.List.{List, [], ◌∷◌}
use lib.ListN.{length, get_or}
use lib.Dec.{eqb, leb, ltb}
use borrow.Author.Tests.{eqb-false, leb-true, leb-false, le-ltb, lt-ltb}
use Rattle.rules.specs.Choice.{when, differ}
use Rattle.rules.specs.Tables.{Tables, hosts, mask}
use Rattle.rules.specs.Sound.{sound, within}
use Rattle.rules.specs.Order.{Verdict, Number, Prevented, Done, GOOD, outcome, fits, volume_of}
use Rattle.rules.specs.Events.{no_port, at_port, wrong_volume, done, importing, exporting, resetting}
use Rattle.rules.specs.Command.{Request, Call, Command, Import, Export, Reset, block_fits, parameters_fit, after_numbers, judged, judge, verdict, buffer_of, serve}
use Rattle.rules.specs.Numbers.{good_bytes, too_short, conditions, condition, Foremost}
use Rattle.rules.proofs.Ladder.{on, either, never, when_true, when_false}
use Rattle.rules.proofs.Untouched.{Stepped, steps-end}

-- ---- the first of a list of tests

-- its place, counted from i; 0 where none holds
first_from : List Bool → ℕ → ℕ
first_from [] i = 0
first_from (b ∷ bs) i = when b i (first_from bs (suc i))

-- the test at a place
abbrev at : List Bool → ℕ → Bool
at bs m = get_or bs m false

data First (bs : List Bool) (i k : ℕ) : Type 0 where
  nowhere : k ≡ 0 → ((m : ℕ) → at bs m ≡ false) → First bs i k
  somewhere : (j : ℕ) → k ≡ i + j → at bs j ≡ true → ((m : ℕ) → m < j → at bs m ≡ false) → First bs i k

behind : (bs : List Bool) (i k : ℕ) → First bs (suc i) k → First (false ∷ bs) i k
behind bs i k (nowhere z n) = nowhere z go
  where
    go : (m : ℕ) → at (false ∷ bs) m ≡ false
    go zero = refl
    go (suc m) = n m
behind bs i k (somewhere j e h n) = somewhere (suc j) (omega arith) h go
  where
    go : (m : ℕ) → m < suc j → at (false ∷ bs) m ≡ false
    go zero l = refl
    go (suc m) l = n m (omega arith)

first-is : (bs : List Bool) (i : ℕ) → First bs i (first_from bs i)
unfolding first_from when
first-is [] i = nowhere refl (λ m. refl)
first-is (true ∷ bs) i = somewhere 0 (omega arith) refl (λ m l. absurd (omega arith))
first-is (false ∷ bs) i = behind bs i _ (first-is bs (suc i))

-- ---- one rung: the number of a choice of verdicts

module _ (f : Verdict → ℕ) where
  -- the test is that of the number
  rung : (b : Bool) (x y : Verdict) (k z : ℕ) → f x ≡ k → f y ≡ z → f (when b x y) ≡ when b k z
  unfolding when
  rung true x y k z e d = e
  rung false x y k z e d = d

  -- the test is that of going on
  rung-not : (b : Bool) (x y : Verdict) (k z : ℕ) → f y ≡ k → f x ≡ z → f (when b x y) ≡ when (not b) k z
  unfolding when
  rung-not true x y k z e d = d
  rung-not false x y k z e d = e

-- a test turned round
turned : (a b x y : ℕ) → when (leb a b) x y ≡ when (ltb b a) y x
turned a b x y =
    on (λ (z : ℕ). z ≡ when (ltb b a) y x) (leb a b) (λ e. sym (when_false _ _ _ (le-ltb b a (leb-true a b e))))
    (λ e. sym (when_true _ _ _ (lt-ltb b a (leb-false a b e))))

-- ---- the number of each call

module _ (t : Tables) (buffer : List ℕ) where
  number_of : Verdict → ℕ
  number_of v = (outcome t buffer v).number

  number_fits : (v : Verdict) → Stepped v → number_of (fits buffer v) ≡ when (ltb (length buffer) (length (good_bytes v))) 5 0
  unfolding number_of outcome fits good_bytes
  number_fits (Number n) e = absurd e
  number_fits (Prevented n h) e = absurd e
  number_fits (Done s bytes cs) e =
      let all : when (eqb s GOOD) bytes [] ≡ bytes
      = on (λ (x : List ℕ). x ≡ bytes) (eqb s GOOD) (λ _. refl) (λ d. sym (e (eqb-false s GOOD d))) in
      rung number_of (leb (length bytes) (length buffer)) _ _ 0 5 refl refl
      ∙ turned (length bytes) (length buffer) 0 5
      ∙ ap (λ (x : List ℕ). when (ltb (length buffer) (length x)) 5 0) (sym all)

  number-port : (a : ℕ) (rest : Verdict) (z : ℕ) → number_of rest ≡ z
      → number_of (at_port t a rest) ≡ when (not (sound t)) 1 (when (no_port t a) 6 (when (differ (mask t.head) 0) 7 z))
  unfolding number_of outcome at_port
  number-port a rest z e =
      rung-not number_of (sound t) _ _ 1 _ refl
      (rung number_of (no_port t a) _ _ 6 _ refl (rung number_of (differ (mask t.head) 0) _ _ 7 _ refl e))

  number-import : (a v : ℕ)
      → number_of (importing t a v)
      ≡ when (not (sound t)) 1 (when (no_port t a) 6 (when (differ (mask t.head) 0) 7 (when (differ (volume_of t a) 0) 8 (when (wrong_volume t v) 9 0))))
  unfolding number_of outcome importing done
  number-import a v =
      number-port a _ _ (rung number_of (differ (volume_of t a) 0) _ _ 8 _ refl (rung number_of (wrong_volume t v) _ _ 9 0 refl refl))

  number-export : (a : ℕ)
      → number_of (exporting t a)
      ≡ when (not (sound t)) 1 (when (no_port t a) 6 (when (differ (mask t.head) 0) 7 (when (eqb (volume_of t a) 0) 8 0)))
  unfolding number_of outcome exporting done
  number-export a = number-port a _ _ (rung number_of (eqb (volume_of t a) 0) _ _ 8 0 refl refl)

  number-reset : number_of (resetting t) ≡ when (not (sound t)) 1 0
  unfolding number_of outcome resetting done
  number-reset = rung-not number_of (sound t) _ _ 1 0 refl refl

number-command : (t : Tables) (r : Request)
    → number_of t r.buffer (judge t r)
    ≡ when (not (sound t)) 1
    (when (not (within 1 hosts r.host)) 2
    (when (not (block_fits r.block)) 3 (when (not (parameters_fit r.block r.parameters)) 4 (when (too_short t r) 5 0))))
unfolding number_of outcome judge judged after_numbers too_short
number-command t r =
    let f : Verdict → ℕ = number_of t r.buffer in
    rung-not f (sound t) _ _ 1 _ refl
    (rung-not f (within 1 hosts r.host) _ _ 2 _ refl
    (rung-not f (block_fits r.block) _ _ 3 _ refl
    (rung-not f (parameters_fit r.block r.parameters) _ _ 4 _ refl (number_fits t r.buffer _ (steps-end t r.host r.block r.parameters)))))

number_is : (t : Tables) (c : Call) → (serve t c).number ≡ first_from (conditions t c) 0
unfolding serve verdict buffer_of conditions first_from number_of when
number_is t (Command r) = number-command t r
number_is t (Import a v) = number-import t [] a v
number_is t (Export a) = number-export t [] a
number_is t Reset = number-reset t []

-- ---- exactly

-- "0 is none of these."
zero-none : (t : Tables) (c : Call) → at (conditions t c) 0 ≡ false
unfolding conditions
zero-none t (Command r) = refl
zero-none t (Import a v) = refl
zero-none t (Export a) = refl
zero-none t Reset = refl

foremost : (t : Tables) (c : Call) (k : ℕ) → First (conditions t c) 0 k → Foremost t c k
unfolding condition
foremost t c k (nowhere z n) = record { none_before = λ m _. n m; own = λ d. absurd (d z); else-none = λ _. n }
foremost t c k (somewhere j e h n) =
    let i : k ≡ j = omega arith in
    record {
      none_before = λ m l. n m (omega arith);
      own = λ _. rw i h;
      else-none = λ z. let z' : j ≡ 0 = omega arith in absurd (never (sym (zero-none t c) ∙ ap (at (conditions t c)) (sym z') ∙ h));
    }

pub number-foremost : (t : Tables) (c : Call) → Foremost t c (serve t c).number
number-foremost t c = rw (number_is t c) (foremost t c _ (first-is (conditions t c) 0))

lower-not : (t : Tables) (c : Call) (n k : ℕ) → Foremost t c n → Foremost t c k → n < k → ⊥
lower-not t c n k a b l =
    either n 0 (λ z. never (sym (a.else-none z k) ∙ b.own (omega arith))) (λ d. never (sym (b.none_before n l) ∙ a.own d))

-- two that are the first are one
pub foremost-one : (t : Tables) (c : Call) (n k : ℕ) → Foremost t c n → Foremost t c k → n ≡ k
foremost-one t c n k a b =
    either n k (λ e. e)
    (λ d. on (λ (_ : ℕ). n ≡ k) (leb n k) {x = 0} {y = 0}
    (λ l. absurd (lower-not t c n k a b (omega (arith, leb-true n k l)))) (λ l. absurd (lower-not t c k n b a (omega (arith, leb-false n k l)))))

-- ---- number 1 is that of unsound tables alone

first-condition : (t : Tables) (c : Call) → condition t c 1 ≡ not (sound t)
unfolding condition conditions
first-condition t (Command r) = refl
first-condition t (Import a v) = refl
first-condition t (Export a) = refl
first-condition t Reset = refl

pub sound-number : (t : Tables) (c : Call) → sound t ≡ true → (serve t c).number ≢ 1
sound-number t c s z =
    let o : condition t c (serve t c).number ≡ true = (number-foremost t c).own (omega arith) in
    never (ap not (sym s) ∙ sym (first-condition t c) ∙ ap (condition t c) (sym z) ∙ o)
