-- Further laws for runs of tests: numbers that came from a call, and lists of tests as the answer itself. Assumes nothing.
use Prim.Native.Nat.{ℕ, ◌+◌, ◌<◌, ◌≤◌}
use native.Mathlib.Omega.{arith}
use mathlib.Core.Path.{◌≡◌, refl, sym, ap, ◌∙◌}
use mathlib.Core.Bool.{Bool, true, false}
use mathlib.Core.List.{List, [], ◌∷◌}
use lib.ListN.{length}
use lib.Dec.{eqb}
use borrow.Author.Tests.{eq-eqb, ne_eqb}
use Rattle.rules.specs.Choice.{when, any_of, all_of, differ}
use Rattle.rules.specs.Tables.{Tables, element_at, element_size, places}
use Rattle.rules.specs.Order.{Verdict, Outcome, outcome, other}
use Rattle.rules.proofs.Ladder.{differ-is, differ-not, ne-differ, eq-differ, test-is}

-- a place of the table has its bytes there
pub room : (es : List ℕ) (p : ℕ) → p < places es → element_at p + element_size ≤ length es
unfolding places
room es p h = omega arith

-- as many elements as records
pub below_as : (p n m : ℕ) → n ≡ m → p < n → p < m
below_as p n m e h = omega arith

-- ---- the number that a test reads came from a call

pub differ-yes : {A : Type 0} (r a b : ℕ) (x y z : A) → r ≡ a → (r ≡ b → ⊥) → z ≡ x → z ≡ when (differ a b) x y
differ-yes r a b x y z e n w = differ-is a b x y z (λ q. n (e ∙ q)) w

pub differ-no : {A : Type 0} (r a b : ℕ) (x y z : A) → r ≡ a → r ≡ b → z ≡ y → z ≡ when (differ a b) x y
differ-no r a b x y z e q w = differ-not a b x y z (sym e ∙ q) w

-- ---- lists of tests as the answer itself: the code's test r is the definition's test b, and it came out so

pub hit : (r b : Bool) (bs : List Bool) → r ≡ b → r ≡ true → true ≡ any_of (b ∷ bs)
unfolding any_of when
hit r b bs e t = rw (sym e ∙ t)

pub pass : (r b z : Bool) (bs : List Bool) → r ≡ b → r ≡ false → z ≡ any_of bs → z ≡ any_of (b ∷ bs)
unfolding any_of when
pass r b z bs e t w = rw (sym e ∙ t) w

pub only : (r b : Bool) → r ≡ b → r ≡ any_of (b ∷ [])
unfolding any_of when
only r true e = e
only r false e = e

pub hit-eq : (a b : ℕ) (bs : List Bool) → a ≡ b → true ≡ any_of (eqb a b ∷ bs)
hit-eq a b bs e = hit (eqb a b) (eqb a b) bs refl (eq-eqb a b e)

pub pass-eq : (a b : ℕ) (z : Bool) (bs : List Bool) → (a ≡ b → ⊥) → z ≡ any_of bs → z ≡ any_of (eqb a b ∷ bs)
pass-eq a b z bs n w = pass (eqb a b) (eqb a b) z bs refl (ne_eqb a b n) w

pub ruleset rungs = (differ-yes, differ-no, hit, pass, only, hit-eq, pass-eq)

-- ---- the last test is the answer, for searches

pub as-choice : (z b : Bool) → z ≡ when b true false → z ≡ b
as-choice z b e = e ∙ sym (test-is b)

-- the last test of a list is handed on
pub last-of-any : (b : Bool) → b ≡ when (any_of (b ∷ [])) true false
unfolding any_of
last-of-any b = rw (sym (test-is b)) (test-is b)

pub last-of-all : (b : Bool) → b ≡ when (all_of (b ∷ [])) true false
unfolding all_of
last-of-all b = rw (sym (test-is b)) (test-is b)

-- ---- an outcome by its verdict

pub ends_as : (t : Tables) (buffer : List ℕ) {o : Outcome} {v w : Verdict} → o ≡ outcome t buffer v → v ≡ w → o ≡ outcome t buffer w
ends_as t buffer e d = e ∙ ap (outcome t buffer) d

-- ---- the tests of `other`

pub nobody : (h o : ℕ) → o ≡ 0 → false ≡ other h o
unfolding other all_of when
nobody h o e = rw (eq-differ o 0 e)

pub somebody : (h o : ℕ) (b : Bool) → (o ≡ 0 → ⊥) → b ≡ differ o h → b ≡ other h o
unfolding other all_of when
somebody h o b n e = rw (ne-differ o 0 n, e) (test-is (differ o h))
