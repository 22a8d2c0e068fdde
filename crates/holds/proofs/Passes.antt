-- One pass over the table, by the marks, does what freeing and then holding descriptor by descriptor does. Assumes nothing.
use Prim.Native.Nat.{ℕ, zero, suc, ◌+◌, ◌*◌, ◌/◌, ◌%◌, ◌<◌, ◌≤◌}
use native.Mathlib.Omega.{arith}
use mathlib.Core.Path.{◌≡◌, refl, sym, ap, ◌∙◌}
use mathlib.Core.Logic.{◌≢◌}
use mathlib.Core.Bool.{Bool, true, false}
use mathlib.Core.List.{List, [], ◌∷◌}
use lib.ListN.{length, set}
use lib.Seq.{ext_get_or, set-set, set_comm}
use lib.Dec.{eqb}
use borrow.Author.Tests.{eq-eqb, eqb-true, eqb-false}
use Rattle.rules.specs.Choice.{when, any_from, each}
use Rattle.rules.specs.Bytes.{byte, put}
use Rattle.rules.specs.Tables.{element_size, element_at, places, holder, id, held_at, held, Under, theirs, freed_at, freed}
use Rattle.rules.specs.Roster.{Slot}
use Rattle.rules.specs.Holds.{first, many}
use Rattle.rules.proofs.Ladder.{on, when-of, either, any_here, any-of-none, each_keeps}
use Rattle.rules.proofs.Writes.{put-put}
use Rattle.rules.proofs.HeadFields.{Off}
use Rattle.rules.proofs.ElementFields.{held_at-length, held_at-else, held_at-holder, held_at-id, holder-else, id-else, held-length, held-alone, freed-length}
use Rattle.lists.specs.Named.{marked, names, named, Marks}
use Rattle.lists.proofs.Steps.{each-writes}
use Rattle.holds.specs.Judged.{settled_at, settled}

-- ---- a pass with two steps at each place is two passes, where the steps at different places may change places

module _ (f g : ℕ → List ℕ → List ℕ) (apart : (p q : ℕ) (es : List ℕ) → p ≢ q → f p (g q es) ≡ g q (f p es)) where
  past : (n i p : ℕ) (es : List ℕ) → p < i → f p (each g n i es) ≡ each g n i (f p es)
  unfolding each
  past zero i p es h = refl
  past (suc n) i p es h = past n (suc i) p (g i es) (omega arith) ∙ ap (each g n (suc i)) (apart p i es (λ e. omega arith))

  two-passes : (n i : ℕ) (es : List ℕ) → each (λ p xs. f p (g p xs)) n i es ≡ each f n i (each g n i es)
  unfolding each
  two-passes zero i es = refl
  two-passes (suc n) i es = two-passes n (suc i) (f i (g i es)) ∙ ap (each f n (suc i)) (sym (past n (suc i) i (g i es) (omega arith)))

module _ (h i : ℕ) where
  -- ---- freed, then held where there is a mark

  module _ (marks : List ℕ) where
    abbrev hold_if : ℕ → List ℕ → List ℕ
    hold_if p es = when (marked marks p) (held_at h i p es) es

    -- it is held, whatever stood there
    covers : (p a b : ℕ) (es : List ℕ) → held_at h i p es ≡ held_at h i p (held_at a b p es)
    unfolding held_at put
    covers p a b es =
        let j = element_at p + 4 in
        let under : set (set (set es j a) (suc j) b) j h ≡ set (set es j h) (suc j) b =
        set_comm (set es j a) (suc j) j b h (λ e. omega arith) ∙ ap (λ (r : List ℕ). set r (suc j) b) (set-set es j a h) in
        sym (ap (λ (r : List ℕ). set r (suc j) i) under ∙ set-set (set es j h) (suc j) b i)

    settles : (p : ℕ) (es : List ℕ) → settled_at marks h i p es ≡ hold_if p (freed_at (Under h i) p es)
    unfolding settled_at freed_at when
    settles p es = go (marked marks p) (theirs (Under h i) (holder es p) (id es p))
      where
        go : (m t : Bool) → when m (held_at h i p es) (when t (held_at 0 0 p es) es) ≡ when m (held_at h i p (when t (held_at 0 0 p es) es)) (when t (held_at 0 0 p es) es)
        go true true = covers p 0 0 es
        go true false = refl
        go false t = refl

    swap : (p q : ℕ) (es : List ℕ) → p ≢ q → held_at h i p (held_at 0 0 q es) ≡ held_at 0 0 q (held_at h i p es)
    unfolding held_at
    swap p q es d = put-put es (element_at p + 4) (element_at q + 4) (h ∷ i ∷ []) (0 ∷ 0 ∷ []) (λ k l m n e. omega arith)

    settle-apart : (p q : ℕ) (es : List ℕ) → p ≢ q → hold_if p (freed_at (Under h i) q es) ≡ freed_at (Under h i) q (hold_if p es)
    unfolding freed_at when
    settle-apart p q es d = go (marked marks p)
      where
        go : (m : Bool) → when m (held_at h i p (freed_at (Under h i) q es)) (freed_at (Under h i) q es) ≡ freed_at (Under h i) q (when m (held_at h i p es) es)
        go true =
            rw (holder-else h i p es q (λ e. d (sym e)), id-else h i p es q (λ e. d (sym e)))
            (when-of (held_at h i p) (theirs (Under h i) (holder es q) (id es q)) (held_at 0 0 q es) es ∙ ap (λ (r : List ℕ). when (theirs (Under h i) (holder es q) (id es q)) r (held_at h i p es)) (swap p q es d))
        go false = refl

    both-steps : (n k : ℕ) (xs : List ℕ) → each (settled_at marks h i) n k xs ≡ each (λ p ys. hold_if p (freed_at (Under h i) p ys)) n k xs
    unfolding each
    both-steps zero k xs = refl
    both-steps (suc n) k xs = rw (settles k xs) (both-steps n (suc k) (hold_if k (freed_at (Under h i) k xs)))

    settled-two : (es : List ℕ) → settled marks h i es ≡ each hold_if (places es) 0 (freed (Under h i) es)
    unfolding settled freed
    settled-two es = both-steps (places es) 0 es ∙ two-passes hold_if (freed_at (Under h i)) settle-apart (places es) 0 es

  -- ---- held place by place, and descriptor by descriptor

  module _ (ss : List Slot) (list : List ℕ) where
    abbrev pub held_by : ℕ → List ℕ → List ℕ
    held_by k es = held es (first ss list k) (many ss list k) h i

    held_by-length : (k : ℕ) (es : List ℕ) → length (held_by k es) ≡ length es
    held_by-length k es = held-length es (first ss list k) (many ss list k) h i

    -- the byte j, to which holding the element at p writes v, and holding no other does
    module _ (j p v l : ℕ) (there : (ys : List ℕ) → length ys ≡ l → byte (held_at h i p ys) j ≡ v)
        (elsewhere : (q : ℕ) (ys : List ℕ) → p ≢ q → byte (held_at h i q ys) j ≡ byte ys j) where
      held_tells : (q : ℕ) (ys : List ℕ) → length ys ≡ l → byte (held_at h i q ys) j ≡ when (eqb q p) v (byte ys j)
      unfolding when
      held_tells q ys e = go (eqb q p) refl
        where
          go : (b : Bool) → eqb q p ≡ b → byte (held_at h i q ys) j ≡ when b v (byte ys j)
          go true t = rw (eqb-true q p t) (there ys e)
          go false t = elsewhere q ys (λ d. eqb-false q p t (sym d))

      span-tells : (k : ℕ) (ys : List ℕ) → length ys ≡ l → byte (held_by k ys) j ≡ when (names ss list k p) v (byte ys j)
      unfolding held names
      span-tells k ys e =
          each-writes (λ (zs : List ℕ). byte zs j) (held_at h i) (λ q. eqb q p) v l held_tells (λ q zs. held_at-length h i q zs) (many ss list k) (first ss list k) ys e

      by-list : (n : ℕ) (xs : List ℕ) → length xs ≡ l → byte (each held_by n 0 xs) j ≡ when (named ss list n p) v (byte xs j)
      unfolding named
      by-list n xs e = each-writes (λ (ys : List ℕ). byte ys j) held_by (λ k. names ss list k p) v l span-tells held_by-length n 0 xs e

      by_place : (marks : List ℕ) (n : ℕ) (xs : List ℕ) → p < n → length xs ≡ l → byte (each (hold_if marks) n 0 xs) j ≡ when (marked marks p) v (byte xs j)
      unfolding when
      by_place marks n xs m e =
          each-writes (λ (ys : List ℕ). byte ys j) (hold_if marks) here v l one (λ q ys. on (λ (r : List ℕ). length r ≡ length ys) (marked marks q) (λ _. held_at-length h i q ys) (λ _. refl)) n 0 xs e
          ∙ rw (only (marked marks p) refl)
        where
          here : ℕ → Bool
          here q = when (eqb q p) (marked marks p) false

          one : (q : ℕ) (ys : List ℕ) → length ys ≡ l → byte (hold_if marks q ys) j ≡ when (here q) v (byte ys j)
          one q ys w = go (eqb q p) refl (marked marks q) refl
            where
              go : (b : Bool) → eqb q p ≡ b → (c : Bool) → marked marks q ≡ c → byte (when c (held_at h i q ys) ys) j ≡ when (when b (marked marks p) false) v (byte ys j)
              go true t true c = let d = eqb-true q p t in rw (← d, c, eqb-true q p t) (there ys w)
              go true t false c = let d = eqb-true q p t in rw (← d, c)
              go false t true c = elsewhere q ys (λ d. eqb-false q p t (sym d))
              go false t false c = refl

          only : (b : Bool) → marked marks p ≡ b → any_from here n 0 ≡ b
          only true t = any_here here n 0 p (omega arith) (omega arith) (rw (eq-eqb p p refl) t)
          only false t = any-of-none here n 0 (λ q _ _. on (λ (b : Bool). b ≡ false) (eqb q p) (λ _. t) (λ _. refl))

      alike : (marks : List ℕ) (n m : ℕ) (xs : List ℕ) → p < m → length xs ≡ l → marked marks p ≡ named ss list n p
          → byte (each (hold_if marks) m 0 xs) j ≡ byte (each held_by n 0 xs) j
      alike marks n m xs k e w = by_place marks m xs k e ∙ ap (λ (b : Bool). when b v (byte xs j)) w ∙ sym (by-list n xs e)

    -- a byte that is no holder and no id
    untouched : (marks : List ℕ) (n m : ℕ) (xs : List ℕ) (j : ℕ) → ((q : ℕ) → Off (element_at q + 4) 2 j)
        → byte (each (hold_if marks) m 0 xs) j ≡ byte (each held_by n 0 xs) j
    untouched marks n m xs j d =
        each_keeps (λ (r : List ℕ). byte r j ≡ byte xs j) (hold_if marks) m 0 xs
        (λ q ys _ _ e. on (λ (r : List ℕ). byte r j ≡ byte xs j) (marked marks q) (λ _. held_at-else h i q ys j (d q) ∙ e) (λ _. e)) refl
        ∙ sym
        (each_keeps (λ (r : List ℕ). byte r j ≡ byte xs j) held_by n 0 xs (λ k ys _ _ e. held-alone ys (first ss list k) (many ss list k) h i j d ∙ e) refl)

    module _ (marks : List ℕ) (n : ℕ) (told : Marks ss list n marks) (m : ℕ) (few : m ≤ 512) (xs : List ℕ) (long : length xs ≡ element_size * m) where
      same_byte : (j : ℕ) → j < length xs → byte (each (hold_if marks) m 0 xs) j ≡ byte (each held_by n 0 xs) j
      unfolding holder id
      same_byte j u =
          let p = j / element_size in
          let w = told.told p (omega arith) in
          either (j % element_size) 4
          (λ e. let d : j ≡ element_at p + 4 = omega arith in
          rw d
          (alike (element_at p + 4) p h (length xs) (λ ys k. held_at-holder h i p ys (omega arith)) (λ q ys k. holder-else h i q ys p k) marks n m xs (omega arith) refl w))
          (λ o. either (j % element_size) 5
          (λ e. let d : j ≡ element_at p + 5 = omega arith in
          rw d
          (alike (element_at p + 5) p i (length xs) (λ ys k. held_at-id h i p ys (omega arith)) (λ q ys k. id-else h i q ys p k) marks n m xs (omega arith) refl w))
          (λ e. untouched marks n m xs j (λ q k l. omega arith)))

      same-table : each (hold_if marks) m 0 xs ≡ each held_by n 0 xs
      unfolding byte
      same-table =
          let a : length (each (hold_if marks) m 0 xs) ≡ length xs =
          each_keeps (λ (r : List ℕ). length r ≡ length xs) (hold_if marks) m 0 xs
          (λ q ys _ _ e. on (λ (r : List ℕ). length r ≡ length xs) (marked marks q) (λ _. held_at-length h i q ys ∙ e) (λ _. e)) refl in
          let b : length (each held_by n 0 xs) ≡ length xs =
          each_keeps (λ (r : List ℕ). length r ≡ length xs) held_by n 0 xs (λ k ys _ _ e. held_by-length k ys ∙ e) refl in
          ext_get_or 0 _ _ (a ∙ sym b) (λ j u. same_byte j (omega arith))

    pub settled_is : (marks : List ℕ) (n : ℕ) → Marks ss list n marks → (es : List ℕ) → length es ≡ element_size * places es → places es ≤ 512
        → settled marks h i es ≡ each held_by n 0 (freed (Under h i) es)
    settled_is marks n told es long few =
        settled-two marks es ∙ same-table marks n told (places es) few (freed (Under h i) es) (freed-length (Under h i) es ∙ long)
