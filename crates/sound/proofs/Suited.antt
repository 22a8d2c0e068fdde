-- The drives, one after the other, are those of the range: their records lie from the place of the first on. Assumes nothing.
use Rattle.std.proofs.Common.{◌≡◌, ℕ, zero, suc, ◌+◌, ◌-◌, ◌*◌, ◌<◌, ◌≤◌, Bool, true, false, eqb, List, [], ◌∷◌, length, sym, refl, arith}
use Rattle.rules.specs.Choice.{below}
use Rattle.rules.specs.Tables.{Rest, lent, element_size}
use Rattle.rules.specs.Roster.{Slot, range, ranges, roster, place_of}
use Rattle.rules.specs.Order.{volume_of}
use Rattle.rules.specs.Fitting.{generation, mask_of, drive_takes, suited}
use Rattle.rules.specs.Sound.{ranges_sound, drives_sound}
use Rattle.rules.proofs.Ladder.{on, either, below_of, below_fails}
use Rattle.rules.proofs.Places.{place_in}
use Rattle.rules.proofs.Typed.{drive-counted}
use Rattle.sound.specs.Checks.{suited_at, suited_to, drives_by}

-- ---- one drive after the other

module _ (es gs ms : List ℕ) (p n : ℕ) where
  pub all_pass : ((k : ℕ) → k < n → suited_at es gs ms (p + k) k ≡ true) → true ≡ suited_to es gs ms p n
  unfolding suited_to
  all_pass pass = sym (below_of n _ pass)

  pub one_fails : (k : ℕ) → k < n → suited_at es gs ms (p + k) k ≡ false → false ≡ suited_to es gs ms p n
  unfolding suited_to
  one_fails k h e = sym (below_fails n (λ j. suited_at es gs ms (p + j) j) k h e)

-- ---- in a sound head

below-same : (n : ℕ) (f g : ℕ → Bool) → ((k : ℕ) → k < n → f k ≡ g k) → below n f ≡ below n g
unfolding below
below-same zero f g same = refl
below-same (suc n) f g same = rw (same n (omega arith), below-same n f g (λ k h. same k (omega arith)))

place-most : (ss : List Slot) (a : ℕ) → place_of ss a ≤ length ss
unfolding place_of
place-most [] a = omega arith
place-most (s ∷ ss) a = let ih = place-most ss a in on (λ (n : ℕ). n ≤ suc (length ss)) (eqb s.address a) (λ e. omega arith) (λ e. omega arith)

module _ (head : List ℕ) (ok : ranges_sound (ranges head) ≡ true) (es : List ℕ) where
  -- the records of the drives are there
  pub drives-there : length es ≡ element_size * length (roster head)
      → element_size * (place_of (roster head) (range head 3).first + (range head 3).count) ≤ length es
  unfolding range
  drives-there l =
      let d = range head 3 in
      either d.count 0
      (λ none. omega (arith, place-most (roster head) d.first))
      (λ some.
      let c = drive-counted head ok (d.count - 1) (omega arith) in
      let i = place_in (roster head) (d.first + (d.count - 1)) (omega (arith, c.kind-is)) in
      omega (arith, c.place_is))

  -- the k-th drive
  drive-is : (rest : Rest) (k : ℕ) → k < (range head 3).count
      → suited_at es rest.generations rest.masks (place_of (roster head) (range head 3).first + k) k ≡ suited (lent head es rest) ((range head 3).first + k)
  unfolding suited_at suited drive_takes mask_of generation volume_of
  drive-is rest k h =
      let i : (range head 3).first + k - (range head 3).first ≡ k = omega arith in
      rw ((drive-counted head ok k h).place_is, i)

  pub drives-are : (rest : Rest) → drives_by (roster head) (range head 3) es rest.generations rest.masks ≡ drives_sound (lent head es rest) (range head 3)
  unfolding drives_by drives_sound suited_to
  drives-are rest = rw (below-same (range head 3).count _ _ (drive-is rest))
