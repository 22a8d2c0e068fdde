-- A template against a label: made ready once, then byte by byte or many bytes at a time. Assumes nothing.
use Prim.Native.Nat.{ℕ, zero, suc, ◌+◌, ◌-◌, ◌<◌, ◌≤◌}
use native.Mathlib.Nat.{add-zero}
use native.Mathlib.Omega.{arith}
use mathlib.Core.Path.{◌≡◌, refl, sym, ◌∙◌}
use mathlib.Core.Logic.{◌≢◌}
use mathlib.Core.Bool.{Bool, true, false, not}
use mathlib.Core.List.{List, [], ◌∷◌}
use lib.ListN.{length, set}
use lib.Dec.{eqb}
use borrow.Author.Tests.{not-true, not-false, eq-eqb, ne_eqb}
use Rattle.rules.specs.Choice.{when, any_of, below}
use Rattle.rules.specs.Bytes.{byte, put}
use Rattle.rules.specs.Tables.{template_size}
use Rattle.rules.specs.Search.{ANY-STRING, ANY-CHARACTER, agrees_from}
use Rattle.rules.proofs.Ladder.{either, test-is, below_step, below_fails}
use Rattle.rules.proofs.Writes.{put-length, byte_put, byte-put-same}
use Rattle.search.specs.Marks.{asks, goes, Caring, Cared}

-- ---- making it ready: what the bytes before i ask is told

module _ (search : List ℕ) where
  pub care-begins : (care : List ℕ) → length care ≡ template_size → Caring search care 0
  care-begins care l = record { far = omega arith; long = l; plain = λ j h. absurd (omega arith); told = λ j h. absurd (omega arith) }

  module _ (care : List ℕ) (i : ℕ) (at : Caring search care i) where
    pub care-star : byte search i ≡ ANY-STRING → Cared search care i
    care-star e = record { before = at; ends = λ h. e }

    pub care-all : template_size ≤ i → Cared search care template_size
    care-all h =
        let far = at.far in
        let e : i ≡ template_size = omega arith in
        record { before = rw e at at; ends = λ l. absurd (omega arith) }

    pub care-on : i < template_size → byte search i ≢ ANY-STRING → (v : ℕ) → v ≡ asks (byte search i) → Caring search (set care i v) (i + 1)
    unfolding put
    care-on h d v is =
        let long = at.long in
        record {
          far = omega arith;
          long = put-length care i (v ∷ []) ∙ long;
          plain = λ j l. either j i (λ e. rw e d) (λ n. at.plain j (omega arith));
          told = λ j l.
              either j i
              (λ e. rw e (byte-put-same care i i 0 (v ∷ []) (omega arith) (omega arith) (omega arith) ∙ is))
              (λ n. byte_put care i j (v ∷ []) (λ k g e. n (omega arith)) ∙ at.told j (omega arith));
        }

-- ---- what the rules say of it: the bytes before the first '*' go with the label's

module _ (search care shown : List ℕ) (k : ℕ) (made : Cared search care k) where
  agree-to : (i : ℕ) → i ≤ k → agrees_from search shown template_size 0 ≡ when (below i (goes search shown)) (agrees_from search shown (template_size - i) i) false
  unfolding agrees_from below goes when
  agree-to zero h = refl
  agree-to (suc i) h =
      let far = made.before.far in
      let e : template_size - i ≡ suc (template_size - suc i) = omega arith in
      agree-to i (omega arith) ∙ rw (e, ne_eqb _ _ (made.before.plain i (omega arith))) (go (goes search shown i) (below i (goes search shown)) _)
    where
      go : (b a z : Bool) → when a (when b z false) false ≡ when (when b a false) z false
      go true true z = refl
      go true false z = refl
      go false true z = refl
      go false false z = refl

  agree-rest : agrees_from search shown (template_size - k) k ≡ true
  unfolding agrees_from when
  agree-rest =
      let far = made.before.far in
      either k template_size
      (λ e. let z : template_size - k ≡ 0 = omega arith in rw z)
      (λ d. let z : template_size - k ≡ suc (template_size - suc k) = omega arith in rw (z, eq-eqb _ _ (made.ends (omega arith))))

  pub agree-is : (r : Bool) → r ≡ below k (goes search shown) → r ≡ agrees_from search shown template_size 0
  agree-is r e = rw (agree-to k (omega arith), agree-rest) (e ∙ test-is _)

-- ---- byte by byte: those before i go with the label's

module _ (search shown : List ℕ) (k : ℕ) where
  pub record Alike (i : ℕ) : Type 0 where
    pub far : i ≤ k
    pub so_far : below i (goes search shown) ≡ true

  pub alike-begins : Alike 0
  unfolding below
  alike-begins = record { far = omega arith; so_far = refl }

  module _ (i : ℕ) (at : Alike i) where
    module _ (h : i < k) (r : Bool) (is : r ≡ goes search shown i) where
      pub alike-stops : not r ≡ true → false ≡ below k (goes search shown)
      alike-stops t = sym (below_fails k (goes search shown) i h (sym is ∙ not-true r t))

      pub alike-on : not r ≡ false → Alike (i + 1)
      unfolding when
      alike-on t = record { far = omega arith; so_far = rw (below_step i (goes search shown), sym is ∙ not-false r t) at.so_far }

    pub alike-ends : k ≤ i → true ≡ below k (goes search shown)
    alike-ends h = let l = at.far in let e : i ≡ k = omega arith in rw (← e) (sym at.so_far)

-- a byte asks for at most one miss
module _ (search care : List ℕ) (k : ℕ) (made : Cared search care k) where
  pub care-small : (i : ℕ) → i < k → byte care i ≤ 1
  unfolding asks when
  care-small i h = rw (made.before.told i h) (go (eqb (byte search i) ANY-CHARACTER))
    where
      go : (b : Bool) → when b 0 1 ≤ 1
      go true = omega arith
      go false = omega arith

-- ---- many bytes at a time: what was missed before i is nothing, or some do not go with the label's

module _ (search shown : List ℕ) (k : ℕ) where
  pub record Missing (missed i : ℕ) : Type 0 where
    pub far : i ≤ k
    pub few : missed ≤ i
    pub so_far : eqb missed 0 ≡ below i (goes search shown)

  pub miss-begins : Missing 0 0
  unfolding below
  miss-begins = record { far = omega arith; few = omega arith; so_far = refl }

  pub miss-ends : (missed i : ℕ) → Missing missed i → k ≤ i → eqb missed 0 ≡ below k (goes search shown)
  miss-ends missed i at h = let l = at.far in let e : i ≡ k = omega arith in rw (← e) at.so_far

module _ (search care shown : List ℕ) (k : ℕ) (made : Cared search care k) (missed i : ℕ) (at : Missing search shown k missed i) (h : i < k) where
  pub miss-same : byte search i ≡ byte shown i → (m : ℕ) → m ≡ missed → Missing search shown k m (i + 1)
  unfolding goes any_of when
  miss-same e m is =
      let few = at.few in
      record { far = omega arith; few = omega arith; so_far = rw (is, below_step i (goes search shown), eq-eqb _ _ e) (go (eqb (byte search i) ANY-CHARACTER)) }
    where
      go : (b : Bool) → eqb missed 0 ≡ when (when b true true) (below i (goes search shown)) false
      go true = at.so_far
      go false = at.so_far

  pub miss-other : byte search i ≢ byte shown i → (m : ℕ) → m ≡ missed + byte care i → Missing search shown k m (i + 1)
  unfolding goes asks any_of when
  miss-other d m is =
      let few = at.few in
      let small = care-small search care k made i h in
      record {
        far = omega arith;
        few = omega arith;
        so_far = rw (is, made.before.told i h, below_step i (goes search shown), ne_eqb _ _ d) (go (eqb (byte search i) ANY-CHARACTER));
      }
    where
      go : (b : Bool) → eqb (missed + when b 0 1) 0 ≡ when (when b true false) (below i (goes search shown)) false
      go true = rw (add-zero missed) at.so_far
      go false = ne_eqb (missed + 1) 0 (λ e. omega arith)
