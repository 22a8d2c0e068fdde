-- How often a volume number stands in an element table: what each write adds and takes away. Assumes nothing.
use Prim.Native.Nat.{ℕ, zero, suc, ◌+◌, ◌<◌, ◌≤◌}
use native.Mathlib.Omega.{arith}
use mathlib.Core.Path.{◌≡◌, refl, sym, ap, ◌∙◌}
use mathlib.Core.Logic.{◌≢◌}
use mathlib.Core.List.{List}
use lib.ListN.{length}
use borrow.Author.Tests.{eq-eqb, ne_eqb}
use Rattle.rules.specs.Tables.{element_size, element_at, places, volume, filled}
use Rattle.rules.specs.Histories.{one, times}
use Rattle.rules.proofs.Ladder.{either, when_true, when_false}
use Rattle.rules.proofs.ElementFields.{filled-length, volume-else, filled-volume}

pub one_same : (v w : ℕ) → v ≡ w → one v w ≡ 1
unfolding one
one_same v w e = when_true _ 1 0 (eq-eqb v w e)

pub one-else : (v w : ℕ) → v ≢ w → one v w ≡ 0
unfolding one
one-else v w n = when_false _ 1 0 (ne_eqb v w n)

pub places_same : (es fs : List ℕ) → length fs ≡ length es → places fs ≡ places es
unfolding places
places_same es fs e = cc

-- the same volumes at the first n places
pub times-same : (w : ℕ) (es fs : List ℕ) (n : ℕ) → ((q : ℕ) → q < n → volume fs q ≡ volume es q) → times w fs n ≡ times w es n
unfolding times
times-same w es fs zero s = refl
times-same w es fs (suc n) s = let e = s n (omega arith) in let i = times-same w es fs n (λ q l. s q (omega arith)) in cc

-- a place filled: what stood there goes, what is put there comes
pub times-filled : (w : ℕ) (es : List ℕ) (p v s m n : ℕ) → element_at p + element_size ≤ length es → p < n
    → times w (filled es p v s m) n + one (volume es p) w ≡ times w es n + one v w
unfolding times
times-filled w es p v s m zero l h = absurd (omega arith)
times-filled w es p v s m (suc n) l h =
    either n p
    (λ e.
    let a : volume (filled es p v s m) n ≡ v = rw e (filled-volume es p v s m l) in
    let b = times-same w es (filled es p v s m) n (λ q i. volume-else es p v s m q (omega arith)) in
    let c : one (volume es p) w ≡ one (volume es n) w = cc in
    let d : one (volume (filled es p v s m) n) w ≡ one v w = cc in
    omega arith)
    (λ d.
    let a : one (volume (filled es p v s m) n) w ≡ one (volume es n) w = cc (volume-else es p v s m n d) in
    let b = times-filled w es p v s m n l (omega arith) in
    omega arith)

-- a number that stands nowhere, and one that stands once
pub times_none : (w : ℕ) (es : List ℕ) (n : ℕ) → ((q : ℕ) → q < n → volume es q ≢ w) → times w es n ≡ 0
unfolding times
times_none w es zero d = refl
times_none w es (suc n) d =
    let a = one-else (volume es n) w (d n (omega arith)) in
    let b = times_none w es n (λ q l. d q (omega arith)) in
    omega arith

pub times-once : (w : ℕ) (es : List ℕ) (n : ℕ) → ((p q : ℕ) → p < n → q < p → volume es p ≡ w → volume es q ≢ w) → times w es n ≤ 1
unfolding times
times-once w es zero d = omega arith
times-once w es (suc n) d =
    either (volume es n) w
    (λ e.
    let a = one_same (volume es n) w e in
    let b = times_none w es n (λ q l. d n q (omega arith) l e) in
    omega arith)
    (λ i.
    let a = one-else (volume es n) w i in
    let b = times-once w es n (λ p q l k. d p q (omega arith) k) in
    omega arith)

-- ---- in the whole table

-- how often w stands there
abbrev pub standing : ℕ → List ℕ → ℕ
standing w es = times w es (places es)

pub total-filled : (w : ℕ) (es : List ℕ) (p v s m : ℕ) → p < places es
    → standing w (filled es p v s m) + one (volume es p) w ≡ standing w es + one v w
total-filled w es p v s m h = rw (places_same es (filled es p v s m) (filled-length es p v s m)) (times-filled w es p v s m (places es) (inside es p h) h)
  where
    inside : (es : List ℕ) (p : ℕ) → p < places es → element_at p + element_size ≤ length es
    inside es p h = unfold places in omega arith

pub total-same : (w : ℕ) (es fs : List ℕ) → length fs ≡ length es → ((q : ℕ) → volume fs q ≡ volume es q)
    → standing w fs ≡ standing w es
total-same w es fs l s = rw (places_same es fs l) (times-same w es fs (places es) (λ q _. s q))

-- ---- moves and exchanges: what is left at one place stands at another

module _ (w : ℕ) (z : w ≢ 0) where
  none : one 0 w ≡ 0
  none = one-else 0 w (λ e. z (sym e))

  empty : (fs : List ℕ) (p : ℕ) → volume fs p ≡ 0 → one (volume fs p) w ≡ 0
  empty fs p e = rw e none

  -- a place left
  pub left-count : (fs : List ℕ) (p : ℕ) → p < places fs → standing w (filled fs p 0 0 0) + one (volume fs p) w ≡ standing w fs
  left-count fs p h = omega (arith, total-filled w fs p 0 0 0 h, none)

  -- an empty place filled
  pub put_count : (fs : List ℕ) (p v s m : ℕ) → p < places fs → volume fs p ≡ 0 → standing w (filled fs p v s m) ≡ standing w fs + one v w
  put_count fs p v s m h e = omega (arith, total-filled w fs p v s m h, empty fs p e)

  inside : (fs : List ℕ) (p v s m q : ℕ) → q < places fs → q < places (filled fs p v s m)
  inside fs p v s m q h = rw (places_same fs (filled fs p v s m) (filled-length fs p v s m)) h

  emptied : (fs : List ℕ) (p : ℕ) → p < places fs → volume (filled fs p 0 0 0) p ≡ 0
  unfolding places
  emptied fs p h = filled-volume fs p 0 0 0 (omega arith)

  -- empty before, or left
  still-empty : (fs : List ℕ) (p q : ℕ) → p < places fs → (q ≢ p → volume fs q ≡ 0) → volume (filled fs p 0 0 0) q ≡ 0
  still-empty fs p q h e = either q p (λ i. rw i (emptied fs p h)) (λ n. volume-else fs p 0 0 0 q n ∙ e n)

  pub moved-count : (es : List ℕ) (from to s : ℕ) → from < places es → to < places es → volume es to ≡ 0
      → standing w (filled (filled es from 0 0 0) to (volume es from) s 0) ≡ standing w es
  moved-count es from to s i j e =
      let a = left-count es from i in
      let b = put_count (filled es from 0 0 0) to (volume es from) s 0 (inside es from 0 0 0 to j) (still-empty es from to i (λ _. e)) in
      omega arith

  pub exchanged-count : (es : List ℕ) (from first second s r : ℕ) → from < places es → first < places es → second < places es → first ≢ from → second ≢ first
      → (second ≢ from → volume es second ≡ 0)
      → standing w (filled (filled (filled (filled es from 0 0 0) first 0 0 0) second (volume es first) s 0) first (volume es from) r 0) ≡ standing w es
  exchanged-count es from first second s r i j k d n e =
      let es₁ = filled es from 0 0 0 in
      let es₂ = filled es₁ first 0 0 0 in
      let es₃ = filled es₂ second (volume es first) s 0 in
      let j₁ = inside es from 0 0 0 first j in
      let k₂ = inside es₁ first 0 0 0 second (inside es from 0 0 0 second k) in
      let a = left-count es from i in
      let b = left-count es₁ first j₁ in
      let first-full : one (volume es₁ first) w ≡ one (volume es first) w = ap (λ (v : ℕ). one v w) (volume-else es from 0 0 0 first d) in
      let second_empty : volume es₂ second ≡ 0 = still-empty es₁ first second j₁ (λ _. still-empty es from second i e) in
      let c = put_count es₂ second (volume es first) s 0 k₂ second_empty in
      let first-empty : volume es₃ first ≡ 0 = volume-else es₂ second (volume es first) s 0 first (λ x. n (sym x)) ∙ emptied es₁ first j₁ in
      let f = put_count es₃ first (volume es from) r 0 (inside es₂ second (volume es first) s 0 first (inside es₁ first 0 0 0 first j₁)) first-empty in
      omega arith
