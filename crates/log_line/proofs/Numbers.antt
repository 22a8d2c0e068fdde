-- The sequence number of a line, one digit at a time. Assumes nothing.
use Prim.Native.Nat.{ℕ, suc, ◌+◌, ◌*◌, ◌<◌, ◌≤◌}
use native.Mathlib.Omega.{arith}
use mathlib.Core.Path.{◌≡◌, refl, sym, ap, ◌∙◌}
use mathlib.Core.Logic.{◌≢◌}
use mathlib.Core.Bool.{Bool, true, false}
use mathlib.Core.List.{List, [], ◌∷◌}
use lib.ListN.{length, get_or, take, drop}
use lib.Dec.{eqb, ltb}
use borrow.Author.Tests.{eq-eqb, ne_eqb, lt-ltb, le-ltb}
use Prim.Native.Char.{code}
use Rattle.rules.specs.Choice.{when}
use Rattle.rules.specs.Bytes.{byte}
use Rattle.rules.specs.Log.{TAB, first_of, before, digit, number_from, number_of}
use Rattle.rules.proofs.Ladder.{on, either, when_true, when_false}
use Rattle.std.specs.Prelude.{Some, None}
use Rattle.std.specs.List.{starts_with}
use Rattle.std.proofs.lemmas.Bool.Decides.{nat_tests}
use Rattle.log_line.specs.Fields.{Numbered, number_to}
use Rattle.log_line.proofs.Text.{first-mark, first_next, one_at, none-at}
use Rattle.log_line.proofs.Feeds.{tab-none}

-- the digits before a tab, behind the number n; 0 where no tab stands behind them
unfoldable pub digits_to : List ℕ → ℕ → ℕ
digits_to s n = when (eqb (first_of TAB s) (length s)) 0 (number_from (before TAB s) n)

-- ---- by the first byte

no-digits : (n : ℕ) → digits_to [] n ≡ 0
unfolding digits_to first_of when
no-digits n = refl

module _ (b : ℕ) (s : List ℕ) (n : ℕ) where
  at-tab : b ≡ TAB → digits_to (b ∷ s) n ≡ n
  unfolding digits_to number_from
  at-tab e =
      let z = first-mark TAB b s e in
      let m : 0 ≢ suc (length s) = λ q. omega arith in
      rw z (when_false _ _ _ (ne_eqb _ _ m))

  -- no tab comes: no digit makes a number
  lost : {x y : ℕ} (d f : Bool) → x ≡ 0 → y ≡ 0 → x ≡ when d 0 (when f 0 y)
  lost d f e g = e ∙ sym (on (λ (x : ℕ). x ≡ 0) d (λ _. refl) (λ _. on (λ (x : ℕ). x ≡ 0) f (λ _. refl) (λ _. g)))

  at-digit : b ≢ TAB
      → digits_to (b ∷ s) n ≡ when (ltb 9 (digit b)) 0 (when (ltb 999999999 (n * 10 + digit b)) 0 (digits_to s (n * 10 + digit b)))
  unfolding digits_to
  at-digit m =
      let z = first_next TAB b s m in
      either (first_of TAB s) (length s)
      (λ e.
      let w : first_of TAB (b ∷ s) ≡ suc (length s) = omega arith in
      lost (ltb 9 (digit b)) (ltb 999999999 (n * 10 + digit b)) (when_true _ _ _ (eq-eqb _ _ w)) (when_true _ _ _ (eq-eqb _ _ e)))
      λ k.
      let w : first_of TAB (b ∷ s) ≢ suc (length s) = λ q. k (omega arith) in
      when_false _ _ _ (ne_eqb _ _ w) ∙ rw (z, ne_eqb _ _ k) (unfold when number_from in refl)

-- ---- the first digit

first-zero : (x : ℕ) (xs : List ℕ) → starts_with eqb (x ∷ xs) (code "0" ∷ []) ≡ true → x ≡ code "0"
first-zero x xs e = grind (arith, nat_tests)

-- "no leading zero"
pub zero-first : (s : List ℕ) → starts_with eqb s (code "0" ∷ []) ≡ true → Numbered s None
unfolding number_to
zero-first [] e = unfold first_of when in refl
zero-first (x ∷ xs) e =
    let z = first-zero x xs e in
    let m : x ≢ TAB = λ q. omega arith in
    on (λ (k : ℕ). k ≡ 0) _ (λ _. refl) (λ _. rw (first_next TAB x xs m) (unfold number_of byte in when_true _ _ _ (eq-eqb _ _ z)))

other-first : (s : List ℕ) → starts_with eqb s (code "0" ∷ []) ≡ false → number_to s ≡ digits_to s 0
unfolding number_to digits_to number_of byte
other-first [] e = unfold first_of when number_from in refl
other-first (x ∷ xs) e = rw (ne_eqb _ _ first) (unfold when in refl)
  where
    m : x ≢ code "0"
    m = grind (arith, nat_tests)

    first : get_or (before TAB (x ∷ xs)) 0 0 ≢ code "0"
    first q =
        either x TAB
        (λ e. let z : get_or (take 0 (x ∷ xs)) 0 0 ≡ code "0" = rw (first-mark TAB x xs e) at q in omega arith)
        (λ k. m (rw (first_next TAB x xs k) at q))

-- ---- the digits from a place on

-- what the digits before the place have come to
pub record Counting (s : List ℕ) (n i : ℕ) : Type 0 where
  pub inside : i ≤ length s
  pub low : n ≤ 999999999
  pub first : first_of TAB s ≡ i + first_of TAB (drop i s)
  pub whole : number_to s ≡ digits_to (drop i s) n

pub starts : (s : List ℕ) → starts_with eqb s (code "0" ∷ []) ≡ false → Counting s 0 0
starts s e = record { inside = omega arith; low = omega arith; first = omega arith; whole = other-first s e }

module _ (s : List ℕ) (n i : ℕ) (inv : Counting s n i) where
  pub ended : length s ≤ i → Numbered s None
  ended l =
      let e : i ≡ length s = omega (arith, inv.inside) in inv.whole ∙ rw (none-at s i e) (no-digits n)

  module _ (h : i < length s) where
    number_is : get_or s i 0 ≡ TAB → number_to s ≡ n
    number_is e = inv.whole ∙ rw (one_at s i h) (at-tab _ _ n e)

    pub found : get_or s i 0 ≡ TAB → (n ≡ 0 → ⊥) → Numbered s (Some (record { value = n; end = i }))
    found e some =
        let f : first_of TAB (drop i s) ≡ 0 = rw (one_at s i h) (first-mark TAB _ _ e) in
        record { value-is = sym (number_is e); some = some; parted = record { first = omega (arith, inv.first); inside = h } }

    -- zero is no number
    pub zero : get_or s i 0 ≡ TAB → n ≡ 0 → Numbered s None
    zero e z = number_is e ∙ z

    module _ (d : ℕ) (is : d ≡ digit (get_or s i 0)) where
      here : get_or s i 0 ≢ TAB → number_to s ≡ when (ltb 9 d) 0 (when (ltb 999999999 (n * 10 + d)) 0 (digits_to (drop (i + 1) s) (n * 10 + d)))
      here m = inv.whole ∙ rw (one_at s i h, is) (at-digit _ _ n m)

      pub no_digit : 9 < d → (get_or s i 0 ≡ TAB → ⊥) → Numbered s None
      no_digit l m = here m ∙ when_true _ _ _ (lt-ltb _ _ l)

      module _ (small : d ≤ 9) where
        no-tab : get_or s i 0 ≢ TAB
        no-tab e = omega (arith, is, ap digit e, tab-none)

        pub too_large : 999999999 < n * 10 + d → Numbered s None
        too_large l = here no-tab ∙ when_false _ _ _ (le-ltb _ _ small) ∙ when_true _ _ _ (lt-ltb _ _ l)

        pub goes_on : n * 10 + d ≤ 999999999 → Counting s (n * 10 + d) (i + 1)
        goes_on l =
            let f : first_of TAB (drop i s) ≡ suc (first_of TAB (drop (i + 1) s)) = rw (one_at s i h) (first_next TAB _ _ no-tab) in
            record {
              inside = omega arith;
              low = l;
              first = omega (arith, inv.first);
              whole = here no-tab ∙ when_false _ _ _ (le-ltb _ _ small) ∙ when_false _ _ _ (le-ltb _ _ l);
            }
