-- A run of bytes written into a list as a whole. Assumes nothing.
use Prim.Native.Nat.{ℕ, ◌+◌, ◌-◌, ◌≤◌}
use native.Mathlib.Omega.{arith}
use native.Mathlib.Nat.{zero-add}
use mathlib.Core.Path.{◌≡◌, refl, sym, ap, ◌∙◌}
use mathlib.Core.List.{List, ◌++◌, append_assoc}
use lib.ListN.{length, take, drop}
use lib.Seq.{sets-eq}
use borrow.Rule.Slice.PartMut.{put_mid, Post-is}
use Rattle.rules.specs.Bytes.{put}

-- to the front
pub put-front : (l bytes : List ℕ) → length bytes ≤ length l → bytes ++ drop (length bytes) l ≡ put l 0 bytes
unfolding put
put-front l bytes h = ap (λ (n : ℕ). bytes ++ drop n l) (sym (zero-add (length bytes))) ∙ sym (sets-eq bytes l 0 (omega arith))

-- from i to before e
pub put-middle : (l bytes : List ℕ) (i e : ℕ) → i ≤ e → e ≤ length l → i + length bytes ≡ e → put_mid i (e - i) l bytes ≡ put l i bytes
unfolding put
put-middle l bytes i e h g w =
    ap (λ (r : List ℕ). take i l ++ (bytes ++ r)) (Post-is i e l h ∙ ap (λ (n : ℕ). drop n l) (sym w))
    ∙ sym (append_assoc (take i l) bytes (drop (i + length bytes) l))
    ∙ sym (sets-eq bytes l i (omega arith))
