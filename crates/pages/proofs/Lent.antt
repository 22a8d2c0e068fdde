-- Parts of a list that were lent, written from their front and given back. Assumes nothing.
use Prim.Native.Nat.{ℕ, ◌+◌, ◌≤◌}
use native.Mathlib.Nat.{zero-add}
use native.Mathlib.Omega.{arith}
use mathlib.Core.Path.{◌≡◌, sym, ◌∙◌}
use mathlib.Core.List.{List, ◌++◌, append_assoc, append-nil}
use lib.ListN.{length, take, drop, length-take, length-drop, take-append-drop, drop_of_length-le}
use lib.Seq.{sets-eq, drop-drop, drop-append-le}
use borrow.Rule.Slice.PartMut.{put_mid}
use Rattle.rules.specs.Bytes.{put}
use Rattle.rules.proofs.Writes.{put-length, put-append}

-- what is as long as the list takes its place
pub put_whole : (l vs : List ℕ) → length vs ≡ length l → put l 0 vs ≡ vs
unfolding put
put_whole l vs e =
    sets-eq vs l 0 (omega arith)
    ∙ rw (zero-add (length vs), drop_of_length-le l {i = length vs} (omega arith)) (append-nil vs)

-- a part of k bytes from at on
pub put-part : (l : List ℕ) (at k : ℕ) (vs : List ℕ) → length vs ≤ k → at + k ≤ length l
    → put_mid at k l (put (take k (drop at l)) 0 vs) ≡ put l at vs
unfolding put
put-part l at k vs h g =
    let e : length vs ≤ length (take k (drop at l)) = simp (length-take, length-drop) (omega arith) in
    rw (
      sets-eq vs (take k (drop at l)) 0 (omega arith),
      sets-eq vs l at (omega arith),
      zero-add (length vs),
      append_assoc vs (drop (length vs) (take k (drop at l))) (drop k (drop at l)),
      ← drop-append-le (length vs) (take k (drop at l)) (drop k (drop at l)) e,
      take-append-drop k (drop at l),
      drop-drop (length vs) at l,
    )
    (sym (append_assoc (take at l) vs (drop (at + length vs) l)))

-- a part behind what was written
pub put-behind : (l : List ℕ) (i at k : ℕ) (vs ws : List ℕ) → i + length vs ≡ at → length ws ≤ k → at + k ≤ length l
    → put_mid at k (put l i vs) (put (take k (drop at (put l i vs))) 0 ws) ≡ put l i (vs ++ ws)
put-behind l i at k vs ws e h g =
    let n = put-length l i vs in
    put-part (put l i vs) at k ws h (omega arith) ∙ put-append l i at vs ws e

-- two parts side by side, one after the other
pub put_both : (l : List ℕ) (at j body k : ℕ) (vs ws : List ℕ) → length vs ≡ j → at + j ≡ body → length ws ≤ k → body + k ≤ length l
    → put_mid body k (put_mid at j l (put (take j (drop at l)) 0 vs)) (put (take k (drop body (put_mid at j l (put (take j (drop at l)) 0 vs)))) 0 ws)
    ≡ put l at (vs ++ ws)
put_both l at j body k vs ws d e h g =
    rw (put-part l at j vs (omega arith) (omega arith)) (put-behind l at body k vs ws (omega arith) h g)
