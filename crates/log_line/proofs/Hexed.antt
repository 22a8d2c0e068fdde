-- Bytes in hexadecimal, two digits at a time. Assumes nothing.
use Prim.Native.Nat.{ℕ, suc, ◌+◌, ◌*◌, ◌/◌, ◌<◌, ◌≤◌}
use native.Mathlib.Omega.{arith}
use native.Mathlib.Numerals.{add-one}
use mathlib.Core.Path.{◌≡◌, refl, sym, ap, ◌∙◌}
use mathlib.Core.Logic.{◌≢◌}
use mathlib.Core.Bool.{Bool, true, false}
use mathlib.Core.List.{List, [], ◌∷◌, ◌++◌, append_assoc, append-nil}
use lib.ListN.{length, get_or, take, drop, set}
use lib.Seq.{take-suc-set}
use lib.Dec.{eqb}
use borrow.Author.Tests.{eq-eqb, ne_eqb, lt-ltb, le-ltb}
use Rattle.rules.specs.Log.{first_of, before, digit, hexed, bytes_of}
use Rattle.rules.proofs.Ladder.{on, either, when_true, when_false}
use Rattle.std.specs.Prelude.{Option, Some, None}
use Rattle.std.specs.Bool.{then_some}
use Rattle.log_line.specs.Fields.{Decoded, hexed_to}
use Rattle.log_line.proofs.Text.{first-mark, first_next, one_at, two_at, none-at}

-- ---- digits that are none

high-none : (x : ℕ) (s : List ℕ) → 15 < digit x → hexed (x ∷ s) ≡ false
unfolding hexed
high-none x [] h = refl
high-none x (y ∷ s) h = when_true _ _ _ (lt-ltb _ _ h)

low-none : (x y : ℕ) (s : List ℕ) → 15 < digit y → hexed (x ∷ y ∷ s) ≡ false
unfolding hexed
low-none x y s h = on (λ (b : Bool). b ≡ false) _ (λ _. refl) (λ _. when_true _ _ _ (lt-ltb _ _ h))

-- ---- by the first bytes

-- without the form before a mark there is none up to it
pub unformed : (m : ℕ) (s : List ℕ) → hexed (before m s) ≡ false → hexed_to m s ≡ false
unfolding hexed_to
unformed m s e = on (λ (b : Bool). b ≡ false) _ (λ _. refl) (λ _. e)

no-mark : (m : ℕ) (s : List ℕ) → first_of m s ≡ length s → hexed_to m s ≡ false
unfolding hexed_to
no-mark m s e = when_true _ _ _ (eq-eqb _ _ e)

module _ (m x : ℕ) (s : List ℕ) where
  at_mark : x ≡ m → hexed_to m (x ∷ s) ≡ true
  unfolding hexed_to hexed
  at_mark e =
      let n : 0 ≢ suc (length s) = λ q. omega arith in
      rw (first-mark m x s e) (when_false _ _ _ (ne_eqb _ _ n))

  at_none : x ≢ m → 15 < digit x → hexed_to m (x ∷ s) ≡ false
  at_none n h = unformed m (x ∷ s) (rw (first_next m x s n) (high-none x _ h))

  at-end : x ≢ m → length s ≡ 0 → hexed_to m (x ∷ s) ≡ false
  at-end n e = no-mark m (x ∷ s) (omega (arith, first_next m x s n, inside))
    where
      inside : first_of m s ≡ 0
      inside = rw (empty s e) (unfold first_of in refl)
        where
          empty : (l : List ℕ) → length l ≡ 0 → l ≡ []
          empty [] z = refl
          empty (y ∷ l) z = absurd (omega arith)

module _ (m x y : ℕ) (s : List ℕ) (nx : x ≢ m) where
  at-low-none : 15 < digit y → hexed_to m (x ∷ y ∷ s) ≡ false
  at-low-none h =
      unformed m (x ∷ y ∷ s)
      (either y m
      (λ e. rw (first_next m x (y ∷ s) nx, first-mark m y s e) (unfold hexed in refl))
      (λ ny. rw (first_next m x (y ∷ s) nx, first_next m y s ny) (low-none x y _ h)))

  module _ (ny : y ≢ m) where
    two-on : first_of m (x ∷ y ∷ s) ≡ suc (suc (first_of m s))
    two-on = first_next m x (y ∷ s) nx ∙ ap suc (first_next m y s ny)

    form-on : digit x ≤ 15 → digit y ≤ 15 → hexed_to m (x ∷ y ∷ s) ≡ hexed_to m s
    unfolding hexed_to
    form-on hx hy =
        either (first_of m s) (length s)
        (λ e.
        let w : first_of m (x ∷ y ∷ s) ≡ suc (suc (length s)) = omega (arith, two-on) in
        when_true _ _ _ (eq-eqb _ _ w) ∙ sym (when_true _ _ _ (eq-eqb _ _ e)))
        λ k.
        let w : first_of m (x ∷ y ∷ s) ≢ suc (suc (length s)) = λ q. k (omega (arith, two-on)) in
        when_false _ _ _ (ne_eqb _ _ w)
        ∙ rw two-on (unfold hexed in when_false _ _ _ (le-ltb _ _ hx) ∙ when_false _ _ _ (le-ltb _ _ hy))
        ∙ sym (when_false _ _ _ (ne_eqb _ _ k))

    bytes_on : bytes_of (before m (x ∷ y ∷ s)) ≡ (digit x * 16 + digit y) ∷ bytes_of (before m s)
    bytes_on = rw two-on (unfold bytes_of in refl)

-- a digit is no mark
marks-not : (m x d : ℕ) → 15 < digit m → d ≡ digit x → d ≤ 15 → x ≢ m
marks-not m x d h is k e = omega (arith, ap digit e)

-- ---- the bytes from a place on

-- what the digits before the place have come to
pub record Decoding (m : ℕ) (s out : List ℕ) (n i : ℕ) : Type 0 where
  pub even : i ≡ 2 * n
  pub inside : i ≤ length s
  pub first : first_of m s ≡ i + first_of m (drop i s)
  pub form : hexed_to m s ≡ hexed_to m (drop i s)
  pub bytes : bytes_of (before m s) ≡ take n out ++ bytes_of (before m (drop i s))

pub starts : (m : ℕ) (s out : List ℕ) → Decoding m s out 0 0
starts m s out = record { even = omega arith; inside = omega arith; first = omega arith; form = refl; bytes = refl }

-- the form up to a mark that is there is the form before it
formed : (m : ℕ) (s : List ℕ) → first_of m s < length s → hexed_to m s ≡ true → hexed (before m s) ≡ true
unfolding hexed_to
formed m s h e = let n : first_of m s ≢ length s = λ q. omega arith in sym (when_false _ _ _ (ne_eqb _ _ n)) ∙ e

module _ (m : ℕ) (none : 15 < digit m) (s out : List ℕ) (n i : ℕ) (inv : Decoding m s out n i) where
  bad : hexed_to m (drop i s) ≡ false → Decoded m s out None
  bad e = inv.form ∙ e

  pub ended : i ≡ length s → Decoded m s out None
  ended e = bad (rw (none-at s i e) (no-mark m [] (unfold first_of in refl)))

  module _ (h : i < length s) where
    found : get_or s i 0 ≡ m → Decoded m s out (Some i)
    found e =
        let z : first_of m (drop i s) ≡ 0 = rw (one_at s i h) (first-mark m _ _ e) in
        let f : first_of m s ≡ i = omega (arith, inv.first) in
        let g : first_of m s < length s = omega arith in
        let half : i / 2 ≡ n = omega (arith, inv.even) in
        record {
          parted = record { first = sym f; inside = h };
          digits = formed m s g (inv.form ∙ rw (one_at s i h) (at_mark m _ _ e));
          decoded = sym (inv.bytes ∙ rw (z, half) (unfold bytes_of in append-nil (take n out)));
        }

    alone : i + 1 ≡ length s → (get_or s i 0 ≡ m → ⊥) → Decoded m s out None
    alone e other = bad (rw (one_at s i h) (at-end m _ _ other (rw (none-at s (i + 1) e) refl)))

    -- the last byte of an odd number is the mark, or there is none
    pub last : (j : ℕ) → j ≡ i → i + 1 ≡ length s → (b : ℕ) → b ≡ get_or s j 0 → (r : Option ℕ) → r ≡ then_some (eqb b m) j → Decoded m s out r
    last j same e b is r told =
        let told' : r ≡ then_some (eqb b m) i = rw same at told in
        let is' : b ≡ get_or s i 0 = rw same at is in
        rw told' (either b m
        (λ q. rw (eq-eqb b m q) (found (sym is' ∙ q)))
        (λ n. rw (ne_eqb b m n) (alone e (λ q. n (is' ∙ q)))))

    module _ (x : ℕ) (is : x ≡ digit (get_or s i 0)) where
      -- a first digit that is none is the mark, or there is none
      pub no-high : 15 < x → (r : Option ℕ) → r ≡ then_some (eqb (get_or s i 0) m) i → Decoded m s out r
      no-high k r told = rw told (either (get_or s i 0) m
          (λ q. rw (eq-eqb _ m q) (found q))
          (λ n. rw (ne_eqb _ m n) (bad (rw (one_at s i h) (at_none m _ _ n (rw is at k))))))

      module _ (hx : x ≤ 15) (more : i + 1 < length s) (y : ℕ) (also : y ≡ digit (get_or s (i + 1) 0)) where
        other : get_or s i 0 ≢ m
        other = marks-not m _ x none is hx

        two : drop i s ≡ get_or s i 0 ∷ get_or s (i + 1) 0 ∷ drop (i + 1 + 1) s
        two = two_at s i more

        pub no-low : 15 < y → Decoded m s out None
        no-low k = bad (rw two (at-low-none m _ _ _ other (rw also at k)))

        pub goes_on : y ≤ 15 → n < length out → (j : ℕ) → j ≡ i + 1 + 1 → Decoding m s (set out n (x * 16 + y)) (n + 1) j
        goes_on hy room j at =
            let ny : get_or s (i + 1) 0 ≢ m = marks-not m _ y none also hy in
            let f : first_of m (drop i s) ≡ suc (suc (first_of m (drop (i + 1 + 1) s))) = rw two (two-on m _ _ _ other ny) in
            let b : bytes_of (before m (drop i s)) ≡ (x * 16 + y) ∷ bytes_of (before m (drop (i + 1 + 1) s)) = rw (two, is, also) (bytes_on m _ _ _ other ny) in
            rw at
            record {
              even = omega (arith, inv.even);
              inside = omega arith;
              first = omega (arith, inv.first);
              form = inv.form ∙ rw two (form-on m _ _ _ other ny (rw is at hx) (rw also at hy));
              bytes = inv.bytes ∙ rw (b, add-one n, take-suc-set out n (x * 16 + y) room) (sym (append_assoc (take n out) ((x * 16 + y) ∷ []) _));
            }
