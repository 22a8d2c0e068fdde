-- Lists of elements, kept by a test and taken from the front; and runs. Assumes nothing.
use Prim.Native.Nat.{ℕ, zero, suc, ◌+◌, ◌-◌}
use native.Mathlib.Nat.{add-zero, zero-sub, sub-zero, suc-sub-suc}
use native.Mathlib.Numerals.{add-one}
use native.Mathlib.Omega.{arith}
use mathlib.Core.Path.{◌≡◌, refl, sym, ap, ◌∙◌}
use mathlib.Core.Bool.{Bool, true, false}
use mathlib.Core.List.{List, [], ◌∷◌, ◌++◌}
use lib.ListN.{length, take}
use lib.Seq.{take-nil}
use Rattle.rules.specs.Choice.{when}
use Rattle.rules.specs.Roster.{Slot, slots}
use Rattle.rules.specs.Listing.{keep}
use Rattle.pages.specs.Pages.{slot}

pub keep-nil : (f : Slot → Bool) → keep f [] ≡ []
unfolding keep
keep-nil f = refl

pub keep_append : (f : Slot → Bool) (ss us : List Slot) → keep f (ss ++ us) ≡ keep f ss ++ keep f us
unfolding keep when
keep_append f [] us = refl
keep_append f (s ∷ ss) us = go (f s) (keep_append f ss us)
  where
    go : (b : Bool) → keep f (ss ++ us) ≡ keep f ss ++ keep f us
        → when b (s ∷ keep f (ss ++ us)) (keep f (ss ++ us)) ≡ when b (s ∷ keep f ss) (keep f ss) ++ keep f us
    go true h = rw h
    go false h = h

-- in either order
pub keep-keep : (f g : Slot → Bool) (ss : List Slot) → keep f (keep g ss) ≡ keep g (keep f ss)
unfolding keep when
keep-keep f g [] = refl
keep-keep f g (s ∷ ss) = go (f s) (g s) refl refl (keep-keep f g ss)
  where
    go : (a b : Bool) → f s ≡ a → g s ≡ b → keep f (keep g ss) ≡ keep g (keep f ss)
        → keep f (when b (s ∷ keep g ss) (keep g ss)) ≡ keep g (when a (s ∷ keep f ss) (keep f ss))
    go true true p q h = rw (p, q, h)
    go true false p q h = rw (q, h)
    go false true p q h = rw (p, h)
    go false false p q h = h

pub take-append : (m : ℕ) (ss us : List Slot) → take m (ss ++ us) ≡ take m ss ++ take (m - length ss) us
take-append m [] us = rw (take-nil {A = Slot} m, sub-zero m)
take-append zero (s ∷ ss) us = rw zero-sub
take-append (suc m) (s ∷ ss) us = rw (suc-sub-suc m (length ss)) (ap (λ (r : List Slot). s ∷ r) (take-append m ss us))

-- one element more of a run
pub slots-more : (k a p n : ℕ) → slots k a p (n + 1) ≡ slots k a p n ++ (slot k (a + n) (p + n) ∷ [])
unfolding slots
slots-more k a p zero = rw (add-zero a, add-zero p)
slots-more k a p (suc n) =
    let ea : suc a + n ≡ a + suc n = omega arith in
    let ep : suc p + n ≡ p + suc n = omega arith in
    ap (slots k a p) (add-one (suc n) ∙ ap suc (sym (add-one n)))
    ∙ ap (λ (r : List Slot). slot k a p ∷ r) (slots-more k (suc a) (suc p) n ∙ rw (ea, ep))
