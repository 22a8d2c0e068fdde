-- Laws of searches in a text. Assumes nothing.
use Prim.Native.Nat.{ℕ, ◌+◌, ◌-◌, ◌≤◌}
use native.Mathlib.Omega.{arith}
use mathlib.Core.Path.{◌≡◌, refl}
use mathlib.Core.List.{List, [], ◌∷◌}
use mathlib.Core.Bool.{Bool, true, false, cond, not}
use lib.ListN.{length, drop, take, length-drop}
use lib.Seq.{take_all}
use lib.Dec.{ltb}
use borrow.Author.Tests.{ltb-true, ltb-false}
use Rattle.std.specs.Prelude.{Some, None, position}
use Rattle.std.specs.List.{prefix_len, position_or_len}
use Rattle.case_text.specs.declared.Sought.{Sought}
use Rattle.case_text.specs.Text.{stops, first}

-- what comes first is in the list or behind it
pub prefix_within : {X : Type 0} (p : X → Bool) (xs : List X) → prefix_len p xs ≤ length xs
prefix_within p [] = omega arith
prefix_within p (x ∷ xs) = go (p x) (prefix_within p xs)
  where
    go : (t : Bool) → prefix_len p xs ≤ length xs → cond t (1 + prefix_len p xs) 0 ≤ length (x ∷ xs)
    go true h = omega arith
    go false h = omega arith

module _ (what : Sought) (s : List ℕ) (i : ℕ) (h : i ≤ length s) where
  abbrev here : ℕ
  here = position_or_len (stops what) (drop i s)

  all-of-it : take (length s - i) (drop i s) ≡ drop i s
  all-of-it = take_all (length s - i) (drop i s) (omega (arith, length-drop i s))

  pub stops-at : (n : ℕ) → Some n ≡ position (stops what) (take (length s - i) (drop i s)) → (i + n ≡ first what s i) × (i + n ≤ length s)
  unfolding first
  stops-at n e = go (ltb here (length (drop i s))) refl (rw all-of-it at e)
    where
      go : (t : Bool) → ltb here (length (drop i s)) ≡ t → Some n ≡ cond t (Some here) None → (i + n ≡ i + here) × (i + n ≤ length s)
      go true k e = let f : n ≡ here = cc in (omega arith, omega (arith, ltb-true here (length (drop i s)) k, length-drop i s))
      go false k e = absurd (cc)

  pub stops-nowhere : None ≡ position (stops what) (take (length s - i) (drop i s)) → length s ≡ first what s i
  unfolding first
  stops-nowhere e = go (ltb here (length (drop i s))) refl (rw all-of-it at e)
    where
      go : (t : Bool) → ltb here (length (drop i s)) ≡ t → None ≡ cond t (Some here) None → length s ≡ i + here
      go true k e = absurd (cc)
      go false k e = omega (arith, ltb-false here (length (drop i s)) k, length-drop i s, prefix_within (λ b. not (stops what b)) (drop i s))

-- a search from a place of the text ends in the text, at that place or behind it
pub first-within : (what : Sought) (s : List ℕ) (i : ℕ) → i ≤ length s → (i ≤ first what s i) × (first what s i ≤ length s)
unfolding first
first-within what s i h =
    (omega arith, omega (arith, prefix_within (λ b. not (stops what b)) (drop i s), length-drop i s))
