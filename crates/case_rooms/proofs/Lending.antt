-- The front of a room, lent and given back. Assumes nothing.
use Prim.Native.Nat.{ℕ, ◌-◌, ◌≤◌, min}
use native.Mathlib.Omega.{arith}
use mathlib.Core.Path.{◌≡◌}
use mathlib.Core.List.{List, [], append-nil}
use lib.ListN.{length, take, drop, length-take, drop_of_length-le}
use lib.Seq.{take_at, take_all}
use borrow.Rule.Slice.PartMut.{put_mid, same_len_mid}
use Rattle.case_rooms.proofs.Clamped.{sides, take-least}

-- the code's k bytes are the n that were asked for, or all that there are
module _ (xs : List ℕ) (n k : ℕ) (e : k ≡ min n (length xs)) where
  pub front : take (k - 0) (drop 0 xs) ≡ take n xs
  front = let i : k - 0 ≡ min n (length xs) = omega arith in take-least xs n (k - 0) i

  pub given : (ys : List ℕ) → length ys ≡ length (take (k - 0) (drop 0 xs)) → take n (put_mid 0 (k - 0) xs ys) ≡ ys
  given ys l =
      let len : length ys ≡ k = omega (arith, length-take (k - 0) xs) in
      sides n (length xs) (λ h. take_at ys (drop (k - 0) (drop 0 xs)) n (omega arith))
      (λ h.
      let none : drop (k - 0) xs ≡ [] = drop_of_length-le xs {i = k - 0} (omega arith) in
      let long : length ys ≤ n = omega arith in
      rw (none, append-nil ys) (take_all n ys long))

  pub as_long : (ys : List ℕ) → length ys ≡ length (take (k - 0) (drop 0 xs)) → length (put_mid 0 (k - 0) xs ys) ≡ length xs
  as_long ys l = same_len_mid 0 (k - 0) xs ys l
