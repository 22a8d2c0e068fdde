-- Writes that stay within some bytes: they leave every other byte alone, and two that have no byte in common change places. Which bytes a host or an
-- element has, and the panel's number, is said here alone. Assumes nothing.
use Prim.Native.Nat.{ℕ, ◌+◌, ◌<◌, ◌≤◌}
use native.Mathlib.Omega.{arith}
use mathlib.Core.Path.{◌≡◌, refl, sym, ap, ◌∙◌}
use mathlib.Core.Logic.{◌≢◌}
use mathlib.Core.List.{List, [], ◌∷◌}
use lib.ListN.{length}
use Rattle.rules.specs.Bytes.{byte, put, high, low}
use Rattle.rules.specs.Tables.{head_size, host_at, attention_at, panel_at, element_at, element_size, sensed, attended, shown, filled, NewSense, NewAttention, NewStock, in_head, in_elements}
use Rattle.rules.proofs.Writes.{put-length, byte_put, put-put}

pub record Put : Type 0 where
  pub at : ℕ
  pub bytes : List ℕ

-- one after the other
unfoldable pub applied : List Put → List ℕ → List ℕ
applied [] xs = xs
applied (w ∷ ws) xs = applied ws (put xs w.at w.bytes)

-- each byte that they write is one of W
abbrev pub Inside : (ℕ → Type 0) → List Put → Type 0
Inside W [] = Unit {0}
Inside W (w ∷ ws) = ((k : ℕ) → k < length w.bytes → W (w.at + k)) × Inside W ws

-- f writes bytes of W, and no others
pub record Local (W : ℕ → Type 0) (f : List ℕ → List ℕ) : Type 0 where
  pub puts : List Put
  pub inside : Inside W puts
  pub is : (xs : List ℕ) → f xs ≡ applied puts xs

-- ---- what is not written is left alone

applied-leaves : (W : ℕ → Type 0) (ws : List Put) → Inside W ws → (j : ℕ) → (W j → ⊥) → (xs : List ℕ) → byte (applied ws xs) j ≡ byte xs j
unfolding applied
applied-leaves W [] i j n xs = refl
applied-leaves W (w ∷ ws) (i, is) j n xs =
    applied-leaves W ws is j n (put xs w.at w.bytes) ∙ byte_put xs w.at j w.bytes (λ k l e. n (rw (← e) (i k l)))

applied-length : (ws : List Put) (xs : List ℕ) → length (applied ws xs) ≡ length xs
unfolding applied
applied-length [] xs = refl
applied-length (w ∷ ws) xs = applied-length ws (put xs w.at w.bytes) ∙ put-length xs w.at w.bytes

pub leaves : (W : ℕ → Type 0) (f : List ℕ → List ℕ) → Local W f → (j : ℕ) → (W j → ⊥) → (xs : List ℕ) → byte (f xs) j ≡ byte xs j
leaves W f l j n xs = ap (λ (ys : List ℕ). byte ys j) (l.is xs) ∙ applied-leaves W l.puts l.inside j n xs

pub leaves-length : (W : ℕ → Type 0) (f : List ℕ → List ℕ) → Local W f → (xs : List ℕ) → length (f xs) ≡ length xs
leaves-length W f l xs = ap length (l.is xs) ∙ applied-length l.puts xs

-- ---- writes of different bytes change places

module _ (W X : ℕ → Type 0) (apart : (j : ℕ) → W j → X j → ⊥) where
  put-past : (w : Put) → ((k : ℕ) → k < length w.bytes → W (w.at + k)) → (vs : List Put) → Inside X vs → (xs : List ℕ)
      → applied vs (put xs w.at w.bytes) ≡ put (applied vs xs) w.at w.bytes
  unfolding applied
  put-past w i [] js xs = refl
  put-past w i (v ∷ vs) (j, js) xs =
      ap (applied vs)
      (put-put xs v.at w.at v.bytes w.bytes (λ k l m n e. apart (w.at + l) (i l n) (rw (← e) (j k m))))
      ∙ put-past w i vs js (put xs v.at v.bytes)

  applied-comm : (ws vs : List Put) → Inside W ws → Inside X vs → (xs : List ℕ) → applied ws (applied vs xs) ≡ applied vs (applied ws xs)
  unfolding applied
  applied-comm [] vs is js xs = refl
  applied-comm (w ∷ ws) vs (i, is) js xs =
      ap (applied ws) (sym (put-past w i vs js xs)) ∙ applied-comm ws vs is js (put xs w.at w.bytes)

  pub local-comm : (f g : List ℕ → List ℕ) → Local W f → Local X g → (xs : List ℕ) → f (g xs) ≡ g (f xs)
  local-comm f g l m xs =
      l.is (g xs)
      ∙ ap (applied l.puts) (m.is xs)
      ∙ applied-comm l.puts m.puts l.inside m.inside xs
      ∙ ap (applied m.puts) (sym (l.is xs))
      ∙ sym (m.is (f xs))

-- ---- the bytes of a host, those of the panel's number, and those of an element but for holder and id

abbrev pub OfHost : ℕ → ℕ → Type 0
OfHost h j = (host_at h ≤ j) × (j < host_at (1 + h))

abbrev pub OfPanel : ℕ → Type 0
OfPanel j = (panel_at ≤ j) × (j < head_size)

abbrev pub OfStock : ℕ → ℕ → Type 0
OfStock p j = (element_at p ≤ j) × (j < element_at p + element_size) × (j ≢ element_at p + 4) × (j ≢ element_at p + 5)

pub sense-local : (h k a q : ℕ) → Local (OfHost h) (in_head (NewSense h k a q))
unfolding in_head sensed applied
sense-local h k a q =
    record {
      puts = record { at = host_at h; bytes = k ∷ a ∷ q ∷ [] } ∷ [];
      inside = (λ i l. (omega arith, omega arith), tt);
      is = λ xs. refl;
    }

pub attention-local : (h a q : ℕ) → Local (OfHost h) (in_head (NewAttention h a q))
unfolding in_head attended applied
attention-local h a q =
    record {
      puts = record { at = attention_at h; bytes = a ∷ q ∷ [] } ∷ [];
      inside = (λ i l. (omega arith, omega arith), tt);
      is = λ xs. refl;
    }

pub shown-local : (n : ℕ) → Local OfPanel (λ head. shown head n)
unfolding shown applied
shown-local n =
    record {
      puts = record { at = panel_at; bytes = high n ∷ low n ∷ [] } ∷ [];
      inside = (λ i l. (omega arith, omega arith), tt);
      is = λ xs. refl;
    }

pub stock-local : (p v s m : ℕ) → Local (OfStock p) (in_elements (NewStock p v s m))
unfolding in_elements filled applied
stock-local p v s m =
    record {
      puts = record { at = element_at p; bytes = high v ∷ low v ∷ high s ∷ low s ∷ [] } ∷ record { at = element_at p + 6; bytes = m ∷ [] } ∷ [];
      inside = (
        λ i l. (omega arith, omega arith, λ e. omega arith, λ e. omega arith),
        (λ i l. (omega arith, omega arith, λ e. omega arith, λ e. omega arith), tt),
      );
      is = λ xs. refl;
    }

-- more bytes may be written than are
pub local-more : (W X : ℕ → Type 0) (f : List ℕ → List ℕ) → ((j : ℕ) → W j → X j) → Local W f → Local X f
local-more W X f more l = record { puts = l.puts; inside = go l.puts l.inside; is = l.is }
  where
    go : (ws : List Put) → Inside W ws → Inside X ws
    go [] i = tt
    go (w ∷ ws) (i, is) = (λ k n. more _ (i k n), go ws is)
