-- "how many storage elements are empty": what each write does to the count, and the number that the panel shows of it. Assumes nothing.
use Prim.Native.Nat.{ℕ, zero, suc, ◌+◌, ◌*◌, ◌<◌, ◌≤◌}
use native.Mathlib.Omega.{arith}
use mathlib.Core.Path.{◌≡◌, refl, sym, ap, ◌∙◌}
use mathlib.Core.Logic.{◌≢◌}
use mathlib.Core.Bool.{Bool, true, false}
use mathlib.Core.List.{List, [], ◌∷◌}
use lib.ListN.{length}
use lib.Dec.{eqb}
use borrow.Author.Tests.{eq-eqb, ne_eqb}
use Rattle.rules.specs.Choice.{when, all_of}
use Rattle.rules.specs.Bytes.{byte, word, high, low}
use Rattle.rules.specs.Tables.{head_size, element_size, element_at, panel_at, panel, volume, vacant, empty_shelves, shown, filled}
use Rattle.rules.specs.Roster.{Slot, kind_at, storage}
use Rattle.rules.proofs.Ladder.{either, on, when_true, when_false}
use Rattle.rules.proofs.Writes.{put-length, byte_put, byte-put-same}
use Rattle.rules.proofs.HeadFields.{Off}
use Rattle.rules.proofs.ElementFields.{filled-length, volume-else, filled-volume}
use Rattle.rules.proofs.Places.{Placed}

-- ---- an element

-- 1 for an element of this type with this volume that is an empty shelf, else 0
abbrev pub counted : ℕ → ℕ → ℕ
counted kind v = when (vacant kind v) 1 0

-- 1 for a shelf, 0 for an element of another type
abbrev pub shelf : ℕ → ℕ
shelf kind = when (eqb kind storage) 1 0

-- a shelf, and empty
counted_is : (kind v : ℕ) → counted kind v ≡ when (eqb kind storage) (when (eqb v 0) 1 0) 0
unfolding vacant all_of when
counted_is kind v = go (eqb kind storage) (eqb v 0)
  where
    go : (a b : Bool) → ◌≡◌ {A = ℕ} (when (all_of (a ∷ b ∷ [])) 1 0) (when a (when b 1 0) 0)
    go true true = refl
    go true false = refl
    go false b = refl

pub counted-empty : (kind v : ℕ) → v ≡ 0 → counted kind v ≡ shelf kind
counted-empty kind v e = counted_is kind v ∙ ap (λ (n : ℕ). when (eqb kind storage) n 0) (when_true _ 1 0 (eq-eqb v 0 e))

pub counted-full : (kind v : ℕ) → v ≢ 0 → counted kind v ≡ 0
counted-full kind v n = counted_is kind v ∙ on (λ (k : ℕ). k ≡ 0) _ (λ _. when_false _ 1 0 (ne_eqb v 0 n)) (λ _. refl)

pub counted-other : (kind v : ℕ) → kind ≢ storage → counted kind v ≡ 0
counted-other kind v n = counted_is kind v ∙ when_false _ _ _ (ne_eqb kind storage n)

counted-most : (kind v : ℕ) → counted kind v ≤ 1
counted-most kind v = on (λ (n : ℕ). n ≤ 1) _ (λ _. omega arith) (λ _. omega arith)

-- ---- the elements of a roster

pub shelves-most : (ss : List Slot) (es : List ℕ) → empty_shelves ss es ≤ length ss
unfolding empty_shelves
shelves-most [] es = omega arith
shelves-most (x ∷ xs) es = omega (arith, counted-most x.kind (volume es x.place), shelves-most xs es)

-- volumes alone are counted
pub shelves-same : (ss : List Slot) (es fs : List ℕ) → ((q : ℕ) → volume fs q ≡ volume es q) → empty_shelves ss fs ≡ empty_shelves ss es
unfolding empty_shelves
shelves-same [] es fs s = refl
shelves-same (x ∷ xs) es fs s = let e = s x.place in let i = shelves-same xs es fs s in cc

module _ (es : List ℕ) (p v s m : ℕ) where
  -- elements behind the place that is filled
  behind-same : (n : ℕ) (ss : List Slot) → Placed n ss → p < n → empty_shelves ss (filled es p v s m) ≡ empty_shelves ss es
  unfolding empty_shelves
  behind-same n [] h l = refl
  behind-same n (x ∷ xs) (e, h) l =
      let a = volume-else es p v s m x.place (omega arith) in let i = behind-same (suc n) xs h (omega arith) in cc

  filled-from : (n k : ℕ) (ss : List Slot) → Placed n ss → p ≡ n + k → k < length ss → element_at p + element_size ≤ length es
      → empty_shelves ss (filled es p v s m) + counted (kind_at ss k) (volume es p) ≡ empty_shelves ss es + counted (kind_at ss k) v
  unfolding empty_shelves kind_at
  filled-from n k [] h e i l = absurd (omega arith)
  filled-from n zero (x ∷ xs) (j, h) e i l =
      let a : x.place ≡ p = omega arith in
      let b = behind-same (suc n) xs h (omega arith) in
      let c : counted x.kind (volume (filled es p v s m) x.place) ≡ counted x.kind v = rw (a, filled-volume es p v s m l) in
      let d : counted x.kind (volume es x.place) ≡ counted x.kind (volume es p) = rw a in
      omega arith
  filled-from n (suc k) (x ∷ xs) (j, h) e i l =
      let a : counted x.kind (volume (filled es p v s m) x.place) ≡ counted x.kind (volume es x.place) =
      rw (volume-else es p v s m x.place (omega arith)) in
      omega (arith, filled-from (suc n) k xs h (omega arith) (omega arith) l)

-- ---- the elements of a roster whose table has every place

module _ (ss : List Slot) (h : Placed 0 ss) (es : List ℕ) (long : length es ≡ element_size * length ss) (p : ℕ) (i : p < length ss) where
  -- a place filled: what stood there goes, what is put there comes
  pub shelves-filled : (v s m : ℕ)
      → empty_shelves ss (filled es p v s m) + counted (kind_at ss p) (volume es p) ≡ empty_shelves ss es + counted (kind_at ss p) v
  shelves-filled v s m = filled-from es p v s m 0 p ss h (omega arith) i (omega arith)

  -- a full place left
  pub shelves-left : volume es p ≢ 0 → empty_shelves ss (filled es p 0 0 0) ≡ empty_shelves ss es + shelf (kind_at ss p)
  shelves-left n = omega (arith, shelves-filled 0 0 0, counted-full (kind_at ss p) (volume es p) n, counted-empty (kind_at ss p) 0 refl)

  -- an empty place filled
  pub shelves-put : (v s m : ℕ) → volume es p ≡ 0 → v ≢ 0 → empty_shelves ss (filled es p v s m) + shelf (kind_at ss p) ≡ empty_shelves ss es
  shelves-put v s m e n = omega (arith, shelves-filled v s m, counted-full (kind_at ss p) v n, counted-empty (kind_at ss p) (volume es p) e)

  -- a place that is no shelf
  pub shelves-elsewhere : (v s m : ℕ) → kind_at ss p ≢ storage → empty_shelves ss (filled es p v s m) ≡ empty_shelves ss es
  shelves-elsewhere v s m n = omega (arith, shelves-filled v s m, counted-other (kind_at ss p) (volume es p) n, counted-other (kind_at ss p) v n)

-- ---- moves and exchanges

-- empty before, or left
left-empty : (es : List ℕ) (p q : ℕ) → element_at p + element_size ≤ length es → (q ≢ p → volume es q ≡ 0) → volume (filled es p 0 0 0) q ≡ 0
left-empty es p q l e = either q p (λ x. rw x (filled-volume es p 0 0 0 l)) (λ n. volume-else es p 0 0 0 q n ∙ e n)

module _ (ss : List Slot) (h : Placed 0 ss) (es : List ℕ) (long : length es ≡ element_size * length ss) where
  -- a shelf left is one more, a shelf filled one less
  pub shelves-moved : (from to s : ℕ) → from < length ss → to < length ss → volume es from ≢ 0 → volume es to ≡ 0
      → empty_shelves ss (filled (filled es from 0 0 0) to (volume es from) s 0) + shelf (kind_at ss to) ≡ empty_shelves ss es + shelf (kind_at ss from)
  shelves-moved from to s i j full empty =
      shelves-put ss h (filled es from 0 0 0) (filled-length es from 0 0 0 ∙ long) to j (volume es from) s 0 (left-empty es from to (omega arith) (λ _. empty)) full
      ∙ shelves-left ss h es long from i full

  -- the first destination stays full
  pub shelves-exchanged : (from first second s r : ℕ) → from < length ss → first < length ss → second < length ss
      → first ≢ from → second ≢ first → volume es from ≢ 0 → volume es first ≢ 0 → (second ≢ from → volume es second ≡ 0)
      → empty_shelves ss (filled (filled (filled (filled es from 0 0 0) first 0 0 0) second (volume es first) s 0) first (volume es from) r 0) + shelf (kind_at ss second)
      ≡ empty_shelves ss es + shelf (kind_at ss from)
  shelves-exchanged from first second s r i j k d n full full₁ empty =
      let es₁ = filled es from 0 0 0 in
      let es₂ = filled es₁ first 0 0 0 in
      let es₃ = filled es₂ second (volume es first) s 0 in
      let long₁ = filled-length es from 0 0 0 ∙ long in
      let long₂ = filled-length es₁ first 0 0 0 ∙ long₁ in
      let long₃ = filled-length es₂ second (volume es first) s 0 ∙ long₂ in
      let first-full : volume es₁ first ≢ 0 = λ e. full₁ (sym (volume-else es from 0 0 0 first d) ∙ e) in
      let second_empty = left-empty es₁ first second (omega arith) (λ _. left-empty es from second (omega arith) empty) in
      let first-left : volume es₂ first ≡ 0 = filled-volume es₁ first 0 0 0 (omega arith) in
      let first-empty = volume-else es₂ second (volume es first) s 0 first (λ e. n (sym e)) ∙ first-left in
      omega (
        arith,
        shelves-left ss h es long from i full,
        shelves-left ss h es₁ long₁ first j first-full,
        shelves-put ss h es₂ long₂ second k (volume es first) s 0 second_empty full₁,
        shelves-put ss h es₃ long₃ first j (volume es from) r 0 first-empty full,
      )

-- ---- the panel's number in the head

module _ (head : List ℕ) (n : ℕ) where
  pub shown-length : length (shown head n) ≡ length head
  unfolding shown
  shown-length = put-length head panel_at (high n ∷ low n ∷ [])

  pub shown-else : (j : ℕ) → Off panel_at 2 j → byte (shown head n) j ≡ byte head j
  unfolding shown
  shown-else j d = byte_put head panel_at j (high n ∷ low n ∷ []) d

  pub shown-panel : head_size ≤ length head → panel (shown head n) ≡ n
  unfolding shown panel word
  shown-panel l =
      let a = byte-put-same head panel_at panel_at 0 (high n ∷ low n ∷ []) (omega arith) (omega arith) (omega arith) in
      let b = byte-put-same head panel_at (panel_at + 1) 1 (high n ∷ low n ∷ []) (omega arith) (omega arith) (omega arith) in
      omega (arith, a, b)

-- a head with the same two bytes shows the same
pub panel-same : (head head' : List ℕ) → ((j : ℕ) → panel_at ≤ j → byte head' j ≡ byte head j) → panel head' ≡ panel head
unfolding panel word
panel-same head head' s = cc (s panel_at (omega arith), s (panel_at + 1) (omega arith))
