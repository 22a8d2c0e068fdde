-- A status with nothing but its own host's sense changed; an answer that is cut. Assumes nothing.
use Prim.Native.Nat.{ℕ, ◌≤◌}
use mathlib.Core.Path.{◌≡◌}
use mathlib.Core.List.{List, [], ◌∷◌}
use lib.ListN.{length}
use Rattle.rules.specs.Bytes.{put, cut}
use Rattle.rules.specs.Tables.{Tables, HeadChange, OfHead, lent, Sense, sensed, in_head, in_elements, change, changes, Rest}
use Rattle.rules.specs.Order.{Done, GOOD, outcome, good, check, conflict}
use Rattle.rules.proofs.Writes.{cut-within}
use Rattle.order.specs.declared.Reply.{Reply}
use Rattle.order.specs.Ending.{ended, told}

module _ (before head : List ℕ) (h k a q : ℕ) (r : Reply) (noted : head ≡ sensed before h k a q) (elements : List ℕ) (rest : Rest) (buffer : List ℕ) where
  noted-ends : (status : ℕ) → r ≡ told status 0 → ended r (lent head elements rest) buffer ≡ outcome (lent before elements rest) buffer (Done status [] (Sense h k a q ∷ []))
  unfolding outcome changes change in_head in_elements put
  noted-ends status e = rw (e, noted)

  pub check-ends : r ≡ told 0x02 0 → ended r (lent head elements rest) buffer ≡ outcome (lent before elements rest) buffer (check h k a q)
  unfolding check
  check-ends e = noted-ends 0x02 e

module _ (before head : List ℕ) (h : ℕ) (r : Reply) (noted : head ≡ sensed before h 0 0 0) (elements : List ℕ) (rest : Rest) (buffer : List ℕ) where
  pub good-ends : r ≡ told 0x00 0 → ended r (lent head elements rest) buffer ≡ outcome (lent before elements rest) buffer (good h [])
  unfolding good
  good-ends e = noted-ends before head h 0 0 0 r noted elements rest buffer 0x00 e

  pub conflict-ends : r ≡ told 0x18 0 → ended r (lent head elements rest) buffer ≡ outcome (lent before elements rest) buffer (conflict h)
  unfolding conflict
  conflict-ends e = noted-ends before head h 0 0 0 r noted elements rest buffer 0x18 e

-- the first n bytes of an answer are told with GOOD, and one change is made in the head
pub cut-ends : (t : Tables) (buffer head' buffer' : List ℕ) (r : Reply) (n : ℕ) (whole : List ℕ) (c : HeadChange) → n ≤ length whole → r ≡ told GOOD n
    → buffer' ≡ put buffer 0 (cut n whole) → head' ≡ in_head c t.head
    → ended r (lent head' t.elements t.rest) buffer' ≡ outcome t buffer (Done GOOD (cut n whole) (OfHead c ∷ []))
unfolding outcome changes change
cut-ends t buffer head' buffer' r n whole c h is b hd = rw (is, b, hd, cut-within n whole h)
