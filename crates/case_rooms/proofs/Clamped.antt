-- What is asked for past the end of a room: a part, and a write, are what there is. Assumes nothing.
use Prim.Native.Nat.{ℕ, zero, suc, ◌+◌, ◌-◌, ◌≤◌, ◌<◌, min}
use native.Mathlib.Omega.{arith}
use native.Mathlib.Nat.{zero-add}
use mathlib.Core.Path.{◌≡◌, refl, sym, ap, ◌∙◌}
use mathlib.Core.Bool.{Bool, true, false}
use mathlib.Core.List.{List, [], ◌∷◌, append-nil, append_assoc}
use lib.ListN.{length, take, drop, set, replicate, length-take, length-drop, length-set, length-replicate, drop_of_length-le}
use lib.Seq.{sets, sets-eq, set_out, take_all, take-nil, drop-drop}
use lib.Dec.{leb}
use borrow.Author.Tests.{leb-true, leb-false}
use borrow.Rule.Slice.PartMut.{put_mid}
use Rattle.rules.specs.Bytes.{put}
use Rattle.case_rooms.specs.Parts.{part}

-- one number is at most the other, or it is more
pub sides : {P : Type 0} (a b : ℕ) → (a ≤ b → P) → (b < a → P) → P
sides {P} a b f g = go (leb a b) refl
  where
    go : (t : Bool) → leb a b ≡ t → P
    go true e = f (leb-true a b e)
    go false e = g (leb-false a b e)

-- as many as there are
pub take-least : (xs : List ℕ) (n k : ℕ) → k ≡ min n (length xs) → take k xs ≡ take n xs
take-least xs n k e =
    sides n (length xs) (λ h. let i : k ≡ n = omega arith in rw i)
    (λ h. let i : length xs ≤ k = omega arith in let j : length xs ≤ n = omega arith in take_all k xs i ∙ sym (take_all n xs j))

-- a part of a room: the code's start and end are where the room ends, if not before
pub part-least : (xs : List ℕ) (from n start k : ℕ) → start ≡ min from (length xs) → k ≡ min n (length xs - start)
    → take (start + k - start) (drop start xs) ≡ part xs from n
unfolding part
part-least xs from n start k e f =
    let m : start + k - start ≡ min n (length (drop start xs)) = rw length-drop (omega arith) in
    take-least (drop start xs) n (start + k - start) m
    ∙ sides from (length xs) (λ h. let i : start ≡ from = omega arith in rw i)
    (λ h. let i : length xs ≤ start = omega arith in let j : length xs ≤ from = omega arith in rw (drop_of_length-le xs {i = start} i, drop_of_length-le xs {i = from} j))

-- a write past the end writes nothing
sets-out : (vs l : List ℕ) (i : ℕ) → length l ≤ i → sets l i vs ≡ l
sets-out [] l i h = refl
sets-out (v ∷ vs) l i h = let e : length l ≤ suc i = omega arith in rw (set_out l i v h) (sets-out vs l (suc i) e)

-- a write that runs past the end stops there
sets-cut : (vs l : List ℕ) (i k : ℕ) → k ≡ min (length vs) (length l - i) → sets l i (take k vs) ≡ sets l i vs
sets-cut [] l i k e = rw take-nil
sets-cut (v ∷ vs) l i zero e = let h : length l ≤ i = omega arith in sym (sets-out (v ∷ vs) l i h)
sets-cut (v ∷ vs) l i (suc k) e = sets-cut vs (set l i v) (suc i) k (rw length-set (omega arith))

put-least : (l vs : List ℕ) (at start k : ℕ) → start ≡ min at (length l) → k ≡ min (length vs) (length l - start)
    → put l start (take k vs) ≡ put l at vs
unfolding put
put-least l vs at start k e f =
    sides at (length l) (λ h. let i : start ≡ at = omega arith in rw i (sets-cut vs l at k (omega arith)))
    (λ h. let i : length l ≤ start = omega arith in let j : length l ≤ at = omega arith in sets-out (take k vs) l start i ∙ sym (sets-out vs l at j))

-- a part that was lent comes back with other bytes, as many
put_back : (l vs : List ℕ) (at k : ℕ) → length vs ≡ k → at + k ≤ length l → put_mid at k l vs ≡ put l at vs
unfolding put
put_back l vs at k e h =
    rw (drop-drop k at l, ← e) (sym (append_assoc (take at l) vs (drop (at + length vs) l)) ∙ sym (sets-eq vs l at (omega arith)))

-- what is as long as the list takes its place
put_whole : (l vs : List ℕ) → length vs ≡ length l → put l 0 vs ≡ vs
unfolding put
put_whole l vs e =
    sets-eq vs l 0 (omega arith)
    ∙ rw (zero-add (length vs), drop_of_length-le l {i = length vs} (omega arith)) (append-nil vs)

take-replicate : (n k v : ℕ) → k ≤ n → take k (replicate n v) ≡ replicate k v
take-replicate n zero v h = refl
take-replicate zero (suc k) v h = absurd (omega arith)
take-replicate (suc n) (suc k) v h = ap (λ (t : List ℕ). v ∷ t) (take-replicate n k v (omega arith))

module _ (l : List ℕ) (at start : ℕ) (e : start ≡ min at (length l)) where
  -- the lent part, of as many bytes as are written
  lent_length : (n k : ℕ) → k ≡ min n (length l - start) → length (take (start + k - start) (drop start l)) ≡ k
  lent_length n k f = simp (length-take, length-drop) (omega arith)

  back : (vs ys : List ℕ) (k : ℕ) → k ≡ min (length vs) (length l - start) → ys ≡ take k vs → put_mid start (start + k - start) l ys ≡ put l at vs
  back vs ys k f g =
      let n : length ys ≡ start + k - start = rw (g, length-take) (omega arith) in
      put_back l ys start (start + k - start) n (omega arith) ∙ rw g (put-least l vs at start k e f)

  pub written : (vs ys : List ℕ) (k : ℕ) → k ≡ min (length vs) (length l - start)
      → ys ≡ take k vs → put_mid start (start + k - start) l ys ≡ put l at vs
  written vs ys k f g = back vs ys k f g

  pub painted : (n v : ℕ) (ys : List ℕ) (k : ℕ) → k ≡ min n (length l - start)
      → ys ≡ replicate (length (take (start + k - start) (drop start l))) v → put_mid start (start + k - start) l ys ≡ put l at (replicate n v)
  painted n v ys k f g =
      back (replicate n v) ys k (rw length-replicate f)
      (g ∙ rw (lent_length n k f) (sym (take-replicate n k v (omega arith))))
