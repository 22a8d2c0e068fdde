-- What REQUEST SENSE tells: how many bytes, and that the answer's meaning is what the rules say. Assumes nothing.
use Prim.Native.Nat.{ℕ, ◌≤◌, min}
use native.Mathlib.Omega.{arith}
use mathlib.Core.Path.{◌≡◌, refl, sym, ap, ◌∙◌}
use mathlib.Core.Bool.{Bool, true, false}
use mathlib.Core.List.{List, [], ◌∷◌}
use lib.ListN.{length}
use lib.Dec.{ltb}
use Rattle.rules.proofs.Ladder.{when-of}
use Rattle.rules.specs.Choice.{when}
use Rattle.rules.specs.Bytes.{put, cut}
use Rattle.rules.specs.Tables.{Tables, HeadChange, Change, OfHead, in_head, lent}
use Rattle.rules.specs.Order.{Outcome, Done, Number, GOOD, outcome, fits}
use Rattle.rules.specs.Sense.{told, request_sense}
use Rattle.rules.proofs.Writes.{cut-least, fits_cut}
use Rattle.order.proofs.Ends.{cut-ends}
use Rattle.order.specs.declared.Reply.{Reply}
use Rattle.order.specs.Ending.{ended, told as told_of, numbered}
use Rattle.std.specs.Prelude.{Result}
use Rattle.order.specs.declared.House.{House}
use Rattle.sense.specs.declared.Telling.{Telling}
use Rattle.sense.specs.Judged.{whole, meaning, sense_by}

-- ---- how many bytes

pub least-most : (n m : ℕ) → min n m ≤ m
least-most n m = omega arith

-- so many bytes as the allocation, or all of them
told-first : (n k a q : ℕ) → cut (min n whole) (told k a q) ≡ cut n (told k a q)
unfolding told
told-first n k a q = cut-least n (told k a q)

-- ---- the bytes are told and one change is made

pub tells : (t : Tables) (buffer head' buffer' : List ℕ) (r : Reply) (n k a q : ℕ) (c : HeadChange) → n ≤ whole → r ≡ told_of GOOD n
    → buffer' ≡ put buffer 0 (cut n (told k a q)) → head' ≡ in_head c t.head
    → ended r (lent head' t.elements t.rest) buffer' ≡ outcome t buffer (Done GOOD (cut n (told k a q)) (OfHead c ∷ []))
unfolding told
tells t buffer head' buffer' r n k a q c h is b hd = cut-ends t buffer head' buffer' r n (told k a q) c h is b hd

-- ---- the answer means what the rules say

-- the same test in both ways of a choice
test-first : {A : Type 0} (b c : Bool) (x y z : A) → when b x (when c y z) ≡ when c (when b x y) (when b x z)
unfolding when
test-first b true x y z = refl
test-first b false x y z = refl

module _ (answer : List ℕ) (n k a q : ℕ) (cs : List Change) where
  fits_told : fits answer (Done GOOD (cut n (told k a q)) cs) ≡ when (ltb (length answer) (min n whole)) (Number 5) (Done GOOD (cut n (told k a q)) cs)
  unfolding told
  fits_told = fits_cut answer n GOOD (told k a q) cs

module _ (t : Tables) (h : ℕ) (block answer : List ℕ) where
  pub sense-means : meaning t.head h (sense_by t.head h block (length answer)) ≡ fits answer (request_sense t h block)
  unfolding sense_by request_sense meaning numbered
  sense-means = simp (when-of (meaning t.head h), when-of (fits answer), fits_told, told-first) (test-first _ _ _ _ _)

  -- the code found the answer g
  pub by_answer : (g : Result Telling House) (o : Outcome) (g' : Result Telling House) → g ≡ sense_by t.head h block (length answer) → g ≡ g'
      → o ≡ outcome t answer (meaning t.head h g') → o ≡ outcome t answer (fits answer (request_sense t h block))
  by_answer g o g' is e w = w ∙ ap (λ (x : Result Telling House). outcome t answer (meaning t.head h x)) (sym e ∙ is) ∙ ap (outcome t answer) sense-means
