-- Which transport is used where the block has 0: a transport, that no other host holds if there is such a one, and the lowest of these. Assumes nothing.
use Prim.Native.Nat.{ℕ, suc, ◌+◌, ◌<◌, ◌≤◌}
use native.Mathlib.Omega.{arith}
use mathlib.Core.Path.{◌≡◌, refl, sym, ap, ◌∙◌}
use mathlib.Core.Logic.{◌≢◌, ◌⊎◌, inl, inr}
use mathlib.Core.Bool.{Bool, true, false, not}
use mathlib.Core.List.{List, [], ◌∷◌}
use lib.Dec.{eqb}
use borrow.Author.Tests.{eqb-true, eq-eqb, ne_eqb}
use Rattle.rules.specs.Choice.{when, all_of}
use Rattle.rules.specs.Tables.{Tables, holder}
use Rattle.rules.specs.Roster.{Slot, range, roster, place_of, kind_of, first_transport, transport}
use Rattle.rules.specs.Sound.{sound}
use Rattle.rules.specs.Order.{other, held_by_other}
use Rattle.rules.specs.Moves.{open_transport, transport_used}
use Rattle.rules.proofs.Ladder.{on, never, when_true, when_false, all_first, all_rest, all_cons, all_nil}
use Rattle.rules.proofs.Places.{Placed, roster-placed}
use Rattle.rules.proofs.Ascending.{Rising, ranges-sound, roster-rises}
use Rattle.rules.proofs.Typed.{transport-counted}
use Rattle.rules.proofs.Soundness.{sound-true}

-- ---- the first element of a rising list that passes a test

module _ (f : Slot → Bool) where
  -- its address; `none` where none passes
  unfoldable first_of : List Slot → ℕ → ℕ
  first_of [] none = none
  first_of (s ∷ ss) none = when (f s) s.address (first_of ss none)

  -- an address is that of an element that passes
  unfoldable passes : List Slot → ℕ → Bool
  passes [] b = false
  passes (s ∷ ss) b = when (eqb s.address b) (f s) (passes ss b)

  -- it passes, and none below it does; or none does at all
  abbrev First : List Slot → ℕ → ℕ → Type 0
  First ss none a = ((passes ss a ≡ true) × ((b : ℕ) → b < a → passes ss b ≡ false)) ⊎ ((a ≡ none) × ((b : ℕ) → passes ss b ≡ false))

  low : (ss : List Slot) (c b : ℕ) → Rising c ss → passes ss b ≡ true → c ≤ b
  unfolding passes when
  low [] c b r e = absurd (never e)
  low (s ∷ ss) c b r e = go (low ss (suc s.address) b r.1) (eqb s.address b) refl e
    where
      go : (passes ss b ≡ true → suc s.address ≤ b) → (x : Bool) → eqb s.address b ≡ x → when x (f s) (passes ss b) ≡ true → c ≤ b
      go ih true i e = let d = eqb-true s.address b i in omega (arith, r.0)
      go ih false i e = omega (arith, ih e, r.0)

  -- below the first of a list that rises
  under : (ss : List Slot) (c b : ℕ) → Rising c ss → b < c → passes ss b ≡ false
  under ss c b r l = go (passes ss b) refl
    where
      go : (x : Bool) → passes ss b ≡ x → x ≡ false
      go true e = absurd (let m = low ss c b r e in let z : ⊥ = omega arith in z)
      go false e = refl

  past : (s : Slot) (ss : List Slot) (b : ℕ) → s.address ≢ b → passes (s ∷ ss) b ≡ passes ss b
  unfolding passes
  past s ss b d = when_false _ _ _ (ne_eqb s.address b d)

  not-here : (s : Slot) (ss : List Slot) (b : ℕ) → f s ≡ false → passes ss b ≡ false → passes (s ∷ ss) b ≡ false
  unfolding passes
  not-here s ss b e d = on (λ (x : Bool). x ≡ false) (eqb s.address b) (λ _. e) (λ _. d)

  first-is : (ss : List Slot) (c none : ℕ) → Rising c ss → First ss none (first_of ss none)
  unfolding first_of
  first-is [] c none r = inr (refl, λ b. unfold passes in refl)
  first-is (s ∷ ss) c none r =
      on (First (s ∷ ss) none) (f s)
      (λ e. inl (unfold passes in when_true _ _ _ (eq-eqb s.address s.address refl) ∙ e, λ b l. past s ss b (λ d. omega arith) ∙ under ss _ b r.1 (omega arith)))
      (λ e. go e (first-is ss (suc s.address) none r.1))
    where
      go : f s ≡ false → First ss none (first_of ss none) → First (s ∷ ss) none (first_of ss none)
      go e (inl (p, l)) =
          let m = low ss _ (first_of ss none) r.1 p in
          inl (past s ss _ (λ d. omega arith) ∙ p, λ b k. not-here s ss b e (l b k))
      go e (inr (p, l)) = inr (p, λ b. not-here s ss b e (l b))

-- ---- the two tests of the rules

abbrev arm : Slot → Bool
arm s = eqb s.kind transport

abbrev free : ℕ → List ℕ → Slot → Bool
free h es s = all_of (eqb s.kind transport ∷ not (other h (holder es s.place)) ∷ [])

first_transport-is : (ss : List Slot) → first_transport ss ≡ first_of arm ss 0
unfolding first_transport first_of
first_transport-is [] = refl
first_transport-is (s ∷ ss) = cc (first_transport-is ss)

open_transport-is : (h : ℕ) (es : List ℕ) (ss : List Slot) (none : ℕ) → open_transport h es ss none ≡ first_of (free h es) ss none
unfolding open_transport first_of
open_transport-is h es [] none = refl
open_transport-is h es (s ∷ ss) none = cc (open_transport-is h es ss none)

arm-passes : (ss : List Slot) (b : ℕ) → passes arm ss b ≡ eqb (kind_of ss b) transport
unfolding passes kind_of when
arm-passes [] b = refl
arm-passes (s ∷ ss) b = go (arm-passes ss b) (eqb s.address b)
  where
    go : passes arm ss b ≡ eqb (kind_of ss b) transport → (x : Bool) → when x (arm s) (passes arm ss b) ≡ eqb (when x s.kind (kind_of ss b)) transport
    go ih true = refl
    go ih false = ih

free-passes : (h : ℕ) (es : List ℕ) (q : ℕ) (ss : List Slot) → Placed q ss → (b : ℕ)
    → passes (free h es) ss b ≡ all_of (eqb (kind_of ss b) transport ∷ not (other h (holder es (q + place_of ss b))) ∷ [])
unfolding passes kind_of place_of when all_of
free-passes h es q [] p b = refl
free-passes h es q (s ∷ ss) p b = go (free-passes h es (suc q) ss p.1 b) (eqb s.address b)
  where
    test : ℕ → ℕ → Bool
    test k n = all_of (eqb k transport ∷ not (other h (holder es n)) ∷ [])

    go : passes (free h es) ss b ≡ test (kind_of ss b) (suc q + place_of ss b) → (x : Bool)
        → when x (free h es s) (passes (free h es) ss b) ≡ test (when x s.kind (kind_of ss b)) (q + when x 0 (suc (place_of ss b)))
    go ih true = ap (test s.kind) (omega (arith, p.0))
    go ih false = ih ∙ ap (test (kind_of ss b)) (omega arith)

-- ---- sound tables

module _ (t : Tables) (s : sound t ≡ true) where
  rises : Rising 0 (roster t.head)
  rises = roster-rises t.head (ranges-sound t s)

  -- "1 to 127 transports": the first of the list is one
  first-stands : kind_of (roster t.head) (first_transport (roster t.head)) ≡ transport
  unfolding range
  first-stands = go (first-is arm (roster t.head) 0 0 rises)
    where
      a : ℕ
      a = (range t.head 0).first + 0

      stands : passes arm (roster t.head) a ≡ true
      stands = arm-passes (roster t.head) a ∙ eq-eqb _ _ (transport-counted t.head (ranges-sound t s) 0 (sound-true t s).head-fits.transports-some).kind-is

      go : First arm (roster t.head) 0 (first_of arm (roster t.head) 0) → kind_of (roster t.head) (first_transport (roster t.head)) ≡ transport
      go (inl (p, l)) = rw (first_transport-is (roster t.head)) (eqb-true _ _ (sym (arm-passes (roster t.head) _) ∙ p))
      go (inr (p, l)) = absurd (never (sym (l a) ∙ stands))

  module _ (h : ℕ) where
    -- the test at an address, in the words of the rules
    free-at : (b : ℕ) → passes (free h t.elements) (roster t.head) b ≡ all_of (eqb (kind_of (roster t.head) b) transport ∷ not (held_by_other t h b) ∷ [])
    unfolding held_by_other
    free-at b =
        let e : 0 + place_of (roster t.head) b ≡ place_of (roster t.head) b = omega arith in
        rw e at (free-passes h t.elements 0 (roster t.head) (roster-placed t.head) b)

    -- a transport that does not pass is held
    held_at : (b : ℕ) → kind_of (roster t.head) b ≡ transport → passes (free h t.elements) (roster t.head) b ≡ false → held_by_other t h b ≡ true
    held_at b k e = go (held_by_other t h b) refl
      where
        go : (x : Bool) → held_by_other t h b ≡ x → x ≡ true
        go true d = refl
        go false d = absurd (never (sym e ∙ free-at b ∙ all_cons _ _ (eq-eqb _ _ k) (all_cons _ _ (ap not d) all_nil)))

    used-is : transport_used t h 0 ≡ first_of (free h t.elements) (roster t.head) (first_transport (roster t.head))
    unfolding transport_used
    used-is = when_true _ _ _ refl ∙ open_transport-is h t.elements (roster t.head) _

    abbrev Used : Type 0
    Used = First (free h t.elements) (roster t.head) (first_transport (roster t.head)) (transport_used t h 0)

    used : Used
    used = rw used-is (first-is (free h t.elements) (roster t.head) 0 _ rises)

    pub used-stands : kind_of (roster t.head) (transport_used t h 0) ≡ transport
    used-stands = go used
      where
        go : Used → kind_of (roster t.head) (transport_used t h 0) ≡ transport
        go (inl (p, l)) = eqb-true _ _ (all_first _ _ (sym (free-at _) ∙ p))
        go (inr (p, l)) = rw p first-stands

    pub lower-held : (b : ℕ) → kind_of (roster t.head) b ≡ transport → b < transport_used t h 0 → held_by_other t h b ≡ true
    lower-held b k i = go used
      where
        go : Used → held_by_other t h b ≡ true
        go (inl (p, l)) = held_at b k (l b i)
        go (inr (p, l)) = held_at b k (l b)

    pub used-held-last : held_by_other t h (transport_used t h 0) ≡ true → (b : ℕ) → kind_of (roster t.head) b ≡ transport → held_by_other t h b ≡ true
    used-held-last e b k = go used
      where
        go : Used → held_by_other t h b ≡ true
        go (inl (p, l)) = absurd (never (sym (ap not e) ∙ all_first _ _ (all_rest _ _ (sym (free-at _) ∙ p))))
        go (inr (p, l)) = held_at b k (l b)
