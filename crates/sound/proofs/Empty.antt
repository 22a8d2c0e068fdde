-- The empty places of a run, the empty shelves run after run, and what a pass tells. Assumes nothing.
use Rattle.std.proofs.Common.{◌≡◌, ℕ, zero, suc, ◌+◌, ◌-◌, ◌<◌, ◌≤◌, Bool, true, false, eqb, List, [], ◌∷◌, ◌++◌, sym, refl, ◌∙◌, zero-add, add-one, arith, eq-eqb, ne_eqb, Option, Some, None}
use Rattle.rules.specs.Choice.{when, all_of}
use Rattle.rules.specs.Tables.{volume, vacant, empty_shelves}
use Rattle.rules.specs.Roster.{Slot, slots, storage}
use Rattle.sound.specs.Checks.{empty_from}

pub counts-most : (b : Bool) (n : ℕ) → when b n 0 ≤ n
unfolding when
counts-most true n = omega arith
counts-most false n = omega arith

pub empty-most : (es : List ℕ) (p n : ℕ) → empty_from es p n ≤ n
unfolding empty_from
empty-most es p zero = omega arith
empty-most es p (suc n) = omega (arith, counts-most (eqb (volume es p) 0) 1, empty-most es (suc p) n)

-- those from p on to the end: the one at p, and those behind it
pub empty-next : (es : List ℕ) (p end : ℕ) → p < end
    → empty_from es p (end - p) ≡ when (eqb (volume es p) 0) 1 0 + empty_from es (p + 1) (end - (p + 1))
unfolding empty_from
empty-next es p end h =
    let e : end - p ≡ suc (end - (p + 1)) = omega arith in
    rw (e, add-one)

-- ---- the elements of a run, before others: they count where the run is of shelves

pub shelves-of : (es : List ℕ) (n k a p : ℕ) (rest : List Slot)
    → empty_shelves (slots k a p n ++ rest) es ≡ when (eqb k storage) (empty_from es p n) 0 + empty_shelves rest es
unfolding slots empty_shelves empty_from vacant all_of when
shelves-of es zero k a p rest = sym (none (eqb k storage))
  where
    none : (b : Bool) → when b 0 0 + empty_shelves rest es ≡ empty_shelves rest es
    none true = zero-add (empty_shelves rest es)
    none false = zero-add (empty_shelves rest es)
shelves-of es (suc n) k a p rest = go (eqb k storage) (eqb (volume es p) 0) (shelves-of es n k (suc a) (suc p) rest)
  where
    go : (b e : Bool) → empty_shelves (slots k (suc a) (suc p) n ++ rest) es ≡ when b (empty_from es (suc p) n) 0 + empty_shelves rest es
        → when (all_of (b ∷ e ∷ [])) 1 0 + empty_shelves (slots k (suc a) (suc p) n ++ rest) es
        ≡ when b (when e 1 0 + empty_from es (suc p) n) 0 + empty_shelves rest es
    go true true ih = omega arith
    go true false ih = omega arith
    go false e ih = omega arith

-- the code's two ways
pub add-shelf : (k a n m : ℕ) → k ≡ storage → m ≡ a + n → m ≡ a + when (eqb k storage) n 0
unfolding when
add-shelf k a n m e is = is ∙ rw (eq-eqb k storage e)

pub add-other : (k a n m : ℕ) → (k ≡ storage → ⊥) → m ≡ a → m ≡ a + when (eqb k storage) n 0
unfolding when
add-other k a n m d is = rw (ne_eqb k storage d) (omega arith)

-- ---- what a pass over a run tells: b, that its places are sound, and their empty ones n

module _ (b : Bool) (n : ℕ) where
  pub none_tells : None ≡ when b (Some n) None → b ≡ false
  unfolding when
  none_tells = go b
    where
      go : (x : Bool) → ◌≡◌ {A = Option ℕ} None (when x (Some n) None) → x ≡ false
      go true e = cc
      go false e = refl

  pub some_tells : (m : ℕ) → Some m ≡ when b (Some n) None → (b ≡ true) × (m ≡ n)
  unfolding when
  some_tells m = go b
    where
      go : (x : Bool) → Some m ≡ when x (Some n) None → (x ≡ true) × (m ≡ n)
      go true e = (refl, cc)
      go false e = absurd (let w : ⊥ = cc in w)
