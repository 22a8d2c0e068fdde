-- The search: judged by its fields where its action is known, else byte by byte. Assumes nothing.
use Rattle.std.proofs.Common.{◌≡◌, ℕ, Bool, true, false, eqb, List, length, sym, refl, arith, eq-eqb, ne_eqb, eqb-true}
use Rattle.rules.specs.Choice.{when, any_of, all_of, below}
use Rattle.rules.specs.Bytes.{byte}
use Rattle.rules.specs.Tables.{search_size, action_at, action}
use Rattle.rules.specs.Search.{known_action}
use Rattle.rules.specs.Sound.{search_sound}
use Rattle.rules.proofs.Ladder.{any-cases, any-nil, below_fails}
use Rattle.sound.specs.Checks.{fields_sound}

-- a known action is not 0
known_some : (a : ℕ) → known_action a ≡ true → a ≡ 0 → ⊥
unfolding known_action
known_some a k z =
    any-cases _ _ k (λ e. let x : a ≡ 1 = eqb-true _ _ e in omega arith) λ m. any-cases _ _ m (λ e. let x : a ≡ 5 = eqb-true _ _ e in omega arith) any-nil

-- a test made of a test is the test
twice : (b : Bool) → b ≡ when (when b true false) true false
unfolding when
twice true = refl
twice false = refl

module _ (search : List ℕ) (l : length search ≡ search_size) where
  pub by_fields : known_action (action search) ≡ true → search_sound search ≡ fields_sound search
  unfolding search_sound fields_sound any_of all_of when action
  by_fields k =
      let some : eqb (byte search action_at) 0 ≡ false = ne_eqb _ _ (known_some _ k) in
      let not_None = below_fails search_size (λ i. eqb (byte search i) 0) action_at (omega arith) some in
      rw (eq-eqb _ _ l, not_None, k) (sym (twice (fields_sound search)))

  pub by_zeros : known_action (action search) ≡ false → search_sound search ≡ below search_size (λ i. eqb (byte search i) 0)
  unfolding search_sound any_of all_of when
  by_zeros k = rw (eq-eqb _ _ l, k) (sym (twice (below search_size (λ i. eqb (byte search i) 0))))

pub wrong_size : (search : List ℕ) → (length search ≡ search_size → ⊥) → search_sound search ≡ false
unfolding search_sound all_of when
wrong_size search d = rw (ne_eqb _ _ d)

pub ruleset searching = (by_fields, by_zeros, wrong_size)
