-- What the answer of a look-up tells: for callers. Assumes nothing.
use Rattle.std.proofs.Common.{◌≡◌, ℕ, ◌+◌, ◌*◌, ◌<◌, ◌≤◌, Bool, true, false, not, ◌≢◌, List, length, Option, Some, None, sym, refl, ap, ◌∙◌, arith, eqb-true}
use Rattle.rules.specs.Choice.{when, differ}
use Rattle.rules.specs.Tables.{Tables, element_size, element_at, places}
use Rattle.rules.specs.Roster.{Slot, roster, kind_of, place_of, transport, port}
use Rattle.rules.specs.Moves.{no_transport}
use Rattle.rules.specs.Events.{no_port}
use Rattle.rules.proofs.Ladder.{differ-true}
use Rattle.rules.proofs.Places.{place_in}
use Rattle.tables.specs.declared.Spot.{Spot}
use Rattle.tables.specs.declared.Types.{Types}
use Rattle.tables.specs.declared.Types.TheVariants.{Any, Transport, Port}
use Rattle.tables.specs.LookUp.{admits, found, on_found, spot_of}

-- type and place of the address make the answer
pub found-spot : (ts : Types) (ss : List Slot) (a : ℕ) (s : Spot) → s ≡ spot_of ss a → (f : Option ℕ) → f ≡ when (admits ts s.kind) (Some s.place) None → f ≡ found ts ss a
unfolding found spot_of
found-spot ts ss a s is f e = e ∙ rw is

-- ---- by cases on a look-up's answer

pub at-yes : {A : Type 0} (f g : Option ℕ) (p : ℕ) (k : ℕ → A) (y z : A) → f ≡ g → f ≡ Some p → z ≡ k p → z ≡ on_found g k y
unfolding on_found
at-yes f g p k y z e t w = rw (sym e ∙ t) w

pub at-no : {A : Type 0} (f g : Option ℕ) (k : ℕ → A) (y z : A) → f ≡ g → f ≡ None → z ≡ y → z ≡ on_found g k y
unfolding on_found
at-no f g k y z e t w = rw (sym e ∙ t) w

-- the address that was looked up came from a call
pub found-by : (f : Option ℕ) (ts : Types) (ss : List Slot) (x y : ℕ) → f ≡ found ts ss x → x ≡ y → f ≡ found ts ss y
found-by f ts ss x y e q = e ∙ ap (found ts ss) q

-- the cases of an answer are those of the type
pub found-cases : {A : Type 0} (ts : Types) (ss : List Slot) (a : ℕ) (k : ℕ → A) (y : A)
    → on_found (found ts ss a) k y ≡ when (admits ts (kind_of ss a)) (k (place_of ss a)) y
unfolding found when on_found
found-cases {A} ts ss a k y = go (admits ts (kind_of ss a))
  where
    go : (b : Bool) → on_found (when b (Some (place_of ss a)) None) k y ≡ when b (k (place_of ss a)) y
    go true = refl
    go false = refl

-- ---- types

-- what is looked for has a type
admits-some : (ts : Types) (k : ℕ) → admits ts k ≡ true → k ≢ 0
unfolding admits
admits-some Any k e = differ-true k 0 e
admits-some Transport k e = λ z. omega (arith, eqb-true k transport e)
admits-some Port k e = λ z. omega (arith, eqb-true k port e)

-- ---- what callers learn: the answer f of a look-up of the address a

module _ (ts : Types) (ss : List Slot) (a : ℕ) (f : Option ℕ) (is : f ≡ found ts ss a) where
  module _ (p : ℕ) (e : f ≡ Some p) where
    tells : (b : Bool) → admits ts (kind_of ss a) ≡ b → (b ≡ true) × (p ≡ place_of ss a)
    unfolding found when
    tells true t = (refl, let z : Some p ≡ Some (place_of ss a) = sym e ∙ is ∙ rw t in cc)
    tells false t = let z : Some p ≡ None = sym e ∙ is ∙ rw t in let y : ◌≡◌ {A = ℕ} 0 1 = cc in absurd (let w : ⊥ = omega arith in w)

    pub at-admits : admits ts (kind_of ss a) ≡ true
    at-admits = (tells (admits ts (kind_of ss a)) refl).0

    pub at_place : p ≡ place_of ss a
    at_place = (tells (admits ts (kind_of ss a)) refl).1

    pub at_some : kind_of ss a ≢ 0
    at_some = admits-some ts (kind_of ss a) at-admits

    pub at-below : p < length ss
    at-below = rw at_place (place_in ss a at_some)

    -- it is a place of a table that is as long as the elements say
    pub at_room : (n : ℕ) → n ≡ element_size * length ss → element_at p + element_size ≤ n
    at_room n long = omega (arith, at-below)

    pub at-within : (es : List ℕ) → length es ≡ element_size * length ss → p < places es
    unfolding places
    at-within es long = omega (arith, at-below)

  pub nothing-admits : f ≡ None → admits ts (kind_of ss a) ≡ false
  unfolding found when
  nothing-admits e = go (admits ts (kind_of ss a)) refl
    where
      go : (b : Bool) → admits ts (kind_of ss a) ≡ b → b ≡ false
      go true t = let z : None ≡ Some (place_of ss a) = sym e ∙ is ∙ rw t in let y : ◌≡◌ {A = ℕ} 0 1 = cc in absurd (let w : ⊥ = omega arith in w)
      go false t = refl

-- ---- the rules' tests ask the same

pub no-transport-is : (t : Tables) (a : ℕ) → no_transport t a ≡ not (admits Transport (kind_of (roster t.head) a))
unfolding no_transport differ admits
no-transport-is t a = refl

pub no-port-is : (t : Tables) (a : ℕ) → no_port t a ≡ not (admits Port (kind_of (roster t.head) a))
unfolding no_port differ admits
no-port-is t a = refl

-- such a test b, after the look-up
module _ (ts : Types) (ss : List Slot) (a : ℕ) (b : Bool) (asks : b ≡ not (admits ts (kind_of ss a))) (f : Option ℕ) (is : f ≡ found ts ss a) where
  pub passes : (p : ℕ) → f ≡ Some p → b ≡ false
  passes p e = asks ∙ ap not (at-admits ts ss a f is p e)

  pub fails : f ≡ None → b ≡ true
  fails e = asks ∙ ap not (nothing-admits ts ss a f is e)
