-- The writes of the element table: what each puts there, and that it leaves every other byte. Assumes nothing.
use Prim.Native.Nat.{ℕ, ◌+◌, ◌<◌, ◌≤◌}
use native.Mathlib.Omega.{arith}
use mathlib.Core.Path.{◌≡◌, refl, sym, ◌∙◌}
use mathlib.Core.Logic.{◌≢◌}
use mathlib.Core.Bool.{Bool, true, false}
use mathlib.Core.List.{List, [], ◌∷◌}
use lib.ListN.{length, get_or}
use Rattle.rules.specs.Choice.{when}
use Rattle.rules.specs.Bytes.{byte, word, put, high, low}
use Rattle.rules.specs.Tables.{element_size, element_at, places, volume, source, holder, id, mark, zero_byte, filled, held_at, held, Whose, theirs, freed_at, freed}
use Rattle.rules.proofs.Ladder.{on, each_keeps, each_at}
use Rattle.rules.proofs.Writes.{put-length, byte_put, byte-put-same}
use Rattle.rules.proofs.HeadFields.{Off}

-- ---- volume, source and mark of the element at place p

module _ (es : List ℕ) (p v s m : ℕ) where
  pub filled-length : length (filled es p v s m) ≡ length es
  unfolding filled
  filled-length = put-length _ (element_at p + 6) (m ∷ []) ∙ put-length es (element_at p) (high v ∷ low v ∷ high s ∷ low s ∷ [])

  pub filled-else : (j : ℕ) → Off (element_at p) 4 j → element_at p + 6 ≢ j → byte (filled es p v s m) j ≡ byte es j
  unfolding filled
  filled-else j d e =
      byte_put (put es (element_at p) (high v ∷ low v ∷ high s ∷ low s ∷ [])) (element_at p + 6) j (m ∷ []) (λ k i. omega arith)
      ∙ byte_put es (element_at p) j (high v ∷ low v ∷ high s ∷ low s ∷ []) d

  pub volume-else : (q : ℕ) → q ≢ p → volume (filled es p v s m) q ≡ volume es q
  unfolding volume word
  volume-else q n = cc (filled-else (element_at q) (λ k i. omega arith) (omega arith), filled-else (element_at q + 1) (λ k i. omega arith) (omega arith))

  pub source-else : (q : ℕ) → q ≢ p → source (filled es p v s m) q ≡ source es q
  unfolding source word
  source-else q n =
      cc (filled-else (element_at q + 2) (λ k i. omega arith) (omega arith), filled-else (element_at q + 2 + 1) (λ k i. omega arith) (omega arith))

  pub mark-else : (q : ℕ) → q ≢ p → mark (filled es p v s m) q ≡ mark es q
  unfolding mark
  mark-else q n = filled-else (element_at q + 6) (λ k i. omega arith) (omega arith)

  pub filled-holder : (q : ℕ) → holder (filled es p v s m) q ≡ holder es q
  unfolding holder
  filled-holder q = filled-else (element_at q + 4) (λ k i. omega arith) (omega arith)

  pub filled-id : (q : ℕ) → id (filled es p v s m) q ≡ id es q
  unfolding id
  filled-id q = filled-else (element_at q + 5) (λ k i. omega arith) (omega arith)

  pub filled_zero : (q : ℕ) → zero_byte (filled es p v s m) q ≡ zero_byte es q
  unfolding zero_byte
  filled_zero q = filled-else (element_at q + 7) (λ k i. omega arith) (omega arith)

  -- in a table that has the place
  module _ (l : element_at p + element_size ≤ length es) where
    filled-there : (j k : ℕ) → j ≡ element_at p + k → k < 4 → byte (filled es p v s m) j ≡ get_or (high v ∷ low v ∷ high s ∷ low s ∷ []) k 0
    unfolding filled
    filled-there j k e i =
        byte_put (put es (element_at p) (high v ∷ low v ∷ high s ∷ low s ∷ [])) (element_at p + 6) j (m ∷ []) (λ n x. omega arith)
        ∙ byte-put-same es (element_at p) j k (high v ∷ low v ∷ high s ∷ low s ∷ []) e (omega arith) i

    pub filled-volume : volume (filled es p v s m) p ≡ v
    unfolding volume word
    filled-volume =
        let a = filled-there (element_at p) 0 (omega arith) (omega arith) in
        let b = filled-there (element_at p + 1) 1 (omega arith) (omega arith) in
        omega (arith, a, b)

    pub filled-source : source (filled es p v s m) p ≡ s
    unfolding source word
    filled-source =
        let a = filled-there (element_at p + 2) 2 (omega arith) (omega arith) in
        let b = filled-there (element_at p + 2 + 1) 3 (omega arith) (omega arith) in
        omega (arith, a, b)

    pub filled-mark : mark (filled es p v s m) p ≡ m
    unfolding mark filled
    filled-mark =
        byte-put-same (put es (element_at p) (high v ∷ low v ∷ high s ∷ low s ∷ [])) (element_at p + 6) (element_at p + 6) 0 (m ∷ []) (omega arith)
        (omega (arith, put-length es (element_at p) (high v ∷ low v ∷ high s ∷ low s ∷ []))) (omega arith)

-- ---- tables that differ in holders and ids alone

abbrev pub HoldsAlone : List ℕ → List ℕ → Type 0
HoldsAlone es fs = (j : ℕ) → ((p : ℕ) → Off (element_at p + 4) 2 j) → byte fs j ≡ byte es j

module _ (es fs : List ℕ) (s : HoldsAlone es fs) (q : ℕ) where
  pub volume-alone : volume fs q ≡ volume es q
  unfolding volume word
  volume-alone = cc (s (element_at q) (λ p m l. omega arith), s (element_at q + 1) (λ p m l. omega arith))

  pub source-alone : source fs q ≡ source es q
  unfolding source word
  source-alone = cc (s (element_at q + 2) (λ p m l. omega arith), s (element_at q + 2 + 1) (λ p m l. omega arith))

  pub mark-alone : mark fs q ≡ mark es q
  unfolding mark
  mark-alone = s (element_at q + 6) (λ p m l. omega arith)

  pub zero-alone : zero_byte fs q ≡ zero_byte es q
  unfolding zero_byte
  zero-alone = s (element_at q + 7) (λ p m l. omega arith)

-- ---- holder and id of the element at place p

module _ (h i p : ℕ) (es : List ℕ) where
  pub held_at-length : length (held_at h i p es) ≡ length es
  unfolding held_at
  held_at-length = put-length es (element_at p + 4) (h ∷ i ∷ [])

  pub held_at-else : (j : ℕ) → Off (element_at p + 4) 2 j → byte (held_at h i p es) j ≡ byte es j
  unfolding held_at
  held_at-else j d = byte_put es (element_at p + 4) j (h ∷ i ∷ []) d

  pub held_at-holder : element_at p + element_size ≤ length es → holder (held_at h i p es) p ≡ h
  unfolding held_at holder
  held_at-holder l = byte-put-same es (element_at p + 4) (element_at p + 4) 0 (h ∷ i ∷ []) (omega arith) (omega arith) (omega arith)

  pub held_at-id : element_at p + element_size ≤ length es → id (held_at h i p es) p ≡ i
  unfolding held_at id
  held_at-id l = byte-put-same es (element_at p + 4) (element_at p + 5) 1 (h ∷ i ∷ []) (omega arith) (omega arith) (omega arith)

  pub holder-else : (q : ℕ) → q ≢ p → holder (held_at h i p es) q ≡ holder es q
  unfolding holder
  holder-else q n = held_at-else (element_at q + 4) (λ m l. omega arith)

  pub id-else : (q : ℕ) → q ≢ p → id (held_at h i p es) q ≡ id es q
  unfolding id
  id-else q n = held_at-else (element_at q + 5) (λ m l. omega arith)

-- of a table n bytes long: who holds the element at place q
record Holds (n q x y : ℕ) (es : List ℕ) : Type 0 where
  long : length es ≡ n
  by : holder es q ≡ x
  under : id es q ≡ y

holds-past : (n q x y h i p : ℕ) (es : List ℕ) → q ≢ p → Holds n q x y es → Holds n q x y (held_at h i p es)
holds-past n q x y h i p es d e =
    record {
      long = held_at-length h i p es ∙ e.long;
      by = holder-else h i p es q d ∙ e.by;
      under = id-else h i p es q d ∙ e.under;
    }

holds-there : (n q x y h i : ℕ) (es : List ℕ) → element_at q + element_size ≤ n → Holds n q x y es → Holds n q h i (held_at h i q es)
holds-there n q x y h i es l e =
    record {
      long = held_at-length h i q es ∙ e.long;
      by = held_at-holder h i q es (omega (arith, e.long));
      under = held_at-id h i q es (omega (arith, e.long));
    }

-- ---- holder and id of n elements from a place on

module _ (es : List ℕ) (first n h i : ℕ) where
  pub held-length : length (held es first n h i) ≡ length es
  unfolding held
  held-length = each_keeps (λ (r : List ℕ). length r ≡ length es) (held_at h i) n first es (λ p ys _ _ e. held_at-length h i p ys ∙ e) refl

  pub held-alone : HoldsAlone es (held es first n h i)
  unfolding held
  held-alone j d = each_keeps (λ (r : List ℕ). byte r j ≡ byte es j) (held_at h i) n first es (λ p ys _ _ e. held_at-else h i p ys j (d p) ∙ e) refl

-- ---- whose elements are freed

module _ (w : Whose) where
  freed_at-length : (p : ℕ) (es : List ℕ) → length (freed_at w p es) ≡ length es
  unfolding freed_at
  freed_at-length p es = on (λ (r : List ℕ). length r ≡ length es) _ (λ _. held_at-length 0 0 p es) (λ _. refl)

  freed_at-else : (p : ℕ) (es : List ℕ) (j : ℕ) → Off (element_at p + 4) 2 j → byte (freed_at w p es) j ≡ byte es j
  unfolding freed_at
  freed_at-else p es j d = on (λ (r : List ℕ). byte r j ≡ byte es j) _ (λ _. held_at-else 0 0 p es j d) (λ _. refl)

  freed_at-past : (n q x y p : ℕ) (es : List ℕ) → q ≢ p → Holds n q x y es → Holds n q x y (freed_at w p es)
  unfolding freed_at
  freed_at-past n q x y p es d e = on (Holds n q x y) _ (λ _. holds-past n q x y 0 0 p es d e) (λ _. e)

  -- what stands there of a holder or an id once those are freed
  abbrev pub left : ℕ → ℕ → ℕ → ℕ
  left x y z = when (theirs w x y) 0 z

  freed_at-there : (n q x y : ℕ) (es : List ℕ) → element_at q + element_size ≤ n → Holds n q x y es → Holds n q (left x y x) (left x y y) (freed_at w q es)
  unfolding freed_at when
  freed_at-there n q x y es l e = rw (e.by, e.under) (go (theirs w x y))
    where
      go : (b : Bool) → Holds n q (when b 0 x) (when b 0 y) (when b (held_at 0 0 q es) es)
      go true = holds-there n q x y 0 0 es l e
      go false = e

  module _ (es : List ℕ) where
    pub freed-length : length (freed w es) ≡ length es
    unfolding freed
    freed-length = each_keeps (λ (r : List ℕ). length r ≡ length es) (freed_at w) (places es) 0 es (λ p ys _ _ e. freed_at-length p ys ∙ e) refl

    pub freed-alone : HoldsAlone es (freed w es)
    unfolding freed
    freed-alone j d = each_keeps (λ (r : List ℕ). byte r j ≡ byte es j) (freed_at w) (places es) 0 es (λ p ys _ _ e. freed_at-else p ys j (d p) ∙ e) refl

    freed-there : (q : ℕ) → q < places es
        → Holds (length es) q (left (holder es q) (id es q) (holder es q)) (left (holder es q) (id es q) (id es q)) (freed w es)
    unfolding freed places
    freed-there q l =
        let x = holder es q in
        let y = id es q in
        let P : List ℕ → Type 0 = Holds (length es) q x y in
        let Q : List ℕ → Type 0 = Holds (length es) q (left x y x) (left x y y) in
        each_at P Q (freed_at w) (places es) 0 q es (omega arith) (omega arith)
        (λ p ys d e. freed_at-past (length es) q x y p ys (λ z. d (sym z)) e)
        (λ ys e. freed_at-there (length es) q x y ys (omega arith) e)
        (λ p ys d e. freed_at-past (length es) q (left x y x) (left x y y) p ys (λ z. d (sym z)) e)
        (record { long = refl; by = refl; under = refl })
