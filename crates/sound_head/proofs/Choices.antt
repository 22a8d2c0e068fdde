-- The shut choices as equations, for `grind`: a test that came out so opens the choice by it. Assumes nothing.
use Rattle.std.proofs.Common.{◌≡◌, ℕ, Bool, true, false, not, eqb, List, [], ◌∷◌, refl}
use Rattle.rules.specs.Choice.{when, any_of, all_of, differ}

pub when-yes : {A : Type 0} (b : Bool) (x y : A) → b ≡ true → when b x y ≡ x
unfolding when
when-yes b x y e = rw e

pub when-no : {A : Type 0} (b : Bool) (x y : A) → b ≡ false → when b x y ≡ y
unfolding when
when-no b x y e = rw e

-- a test that stands last is the choice by it
pub when-last : (b : Bool) → when b true false ≡ b
unfolding when
when-last true = refl
when-last false = refl

pub all-cons : (b : Bool) (bs : List Bool) → all_of (b ∷ bs) ≡ when b (all_of bs) false
unfolding all_of
all-cons b bs = refl

pub all-nil : all_of [] ≡ true
unfolding all_of
all-nil = refl

pub any-cons : (b : Bool) (bs : List Bool) → any_of (b ∷ bs) ≡ when b true (any_of bs)
unfolding any_of
any-cons b bs = refl

pub any_nothing : any_of [] ≡ false
unfolding any_of
any_nothing = refl

pub differ-test : (a b : ℕ) → differ a b ≡ not (eqb a b)
unfolding differ
differ-test a b = refl

pub ruleset choices = (when-yes, when-no, when-last, all-cons, all-nil, any-cons, any_nothing, differ-test)
