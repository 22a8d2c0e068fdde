-- The places of a run, one after the other: what is marked, and what stays. Assumes nothing.
use Prim.Native.Nat.{ℕ, ◌+◌, ◌-◌, ◌<◌, ◌≤◌, min}
use native.Mathlib.Omega.{arith}
use mathlib.Core.Path.{◌≡◌, refl, ap, ◌∙◌}
use mathlib.Core.Logic.{◌≢◌}
use mathlib.Core.Bool.{Bool, true, false, not}
use mathlib.Core.List.{List, [], ◌∷◌}
use lib.ListN.{length, set}
use lib.Dec.{eqb, ltb}
use borrow.Author.Tests.{not-true, not-false, le-leb, lt-leb, ltb-true, ltb-false}
use Rattle.rules.specs.Choice.{when, all_of, differ, each}
use Rattle.rules.specs.Bytes.{byte, put}
use Rattle.rules.specs.Tables.{volume, next_address}
use Rattle.rules.specs.Roster.{Range}
use Rattle.rules.specs.Listing.{at_or_above}
use Rattle.rules.proofs.Ladder.{yes, no, on, each_keeps, each_at, eq-differ, test-is}
use Rattle.rules.proofs.Loops.{Turned, turned_more}
use Rattle.rules.proofs.Writes.{put-length, byte_put, byte-put-same}
use Rattle.search.specs.Marks.{volume_fits, looks_for, finds, slot, marked_at, RunMarked, RunSearchable}

module _ (es tags search : List ℕ) where
  mark-length : (p : ℕ) (marks : List ℕ) → length (marked_at es tags search p marks) ≡ length marks
  unfolding marked_at
  mark-length p marks =
      on (λ (l : List ℕ). length l ≡ length marks) (volume_fits tags search (volume es p)) (λ _. put-length marks p (1 ∷ [])) (λ _. refl)

  -- the code's two ways
  module _ (p v : ℕ) (r : Bool) (read : v ≡ volume es p) (is : r ≡ volume_fits tags search v) (marks after : List ℕ) where
    pub mark_made : r ≡ true → after ≡ set marks p 1 → after ≡ marked_at es tags search p marks
    unfolding marked_at put
    mark_made t e = yes r _ _ _ _ (is ∙ ap (volume_fits tags search) read) t e

    pub mark-none : r ≡ false → after ≡ marks → after ≡ marked_at es tags search p marks
    unfolding marked_at
    mark-none t e = no r _ _ _ _ (is ∙ ap (volume_fits tags search) read) t e

  mark-other : (p q : ℕ) (marks : List ℕ) → p ≢ q → byte (marked_at es tags search p marks) q ≡ byte marks q
  unfolding marked_at
  mark-other p q marks d =
      on (λ (l : List ℕ). byte l q ≡ byte marks q) (volume_fits tags search (volume es p))
      (λ _. byte_put marks p q (1 ∷ []) (λ k h e. d (omega arith)))
      (λ _. refl)

  mark-there : (p : ℕ) (marks : List ℕ) → byte marks p ≡ 0 → p < length marks
      → differ (byte (marked_at es tags search p marks) p) 0 ≡ volume_fits tags search (volume es p)
  unfolding marked_at when differ
  mark-there p marks z h = go (volume_fits tags search (volume es p))
    where
      one : byte (put marks p (1 ∷ [])) p ≡ 1
      one = byte-put-same marks p p 0 (1 ∷ []) (omega arith) (omega arith) (omega arith)

      go : (b : Bool) → not (eqb (byte (when b (put marks p (1 ∷ [])) marks) p) 0) ≡ b
      go true = rw one
      go false = rw z

  -- ---- from `first` on, those before p are looked at

  module _ (first : ℕ) (marks₀ : List ℕ) where
    abbrev pub Placed : List ℕ → ℕ → Type 0
    Placed marks p = Turned (marked_at es tags search) first marks₀ marks p

    pub placed-more : (marks : List ℕ) (p : ℕ) → Placed marks p → (after : List ℕ) → after ≡ marked_at es tags search p marks → Placed after (p + 1)
    placed-more marks p at after e = turned_more _ first marks₀ marks p at after e (ap length e ∙ mark-length p marks)

  -- of the n places from i on
  module _ (n i : ℕ) (marks : List ℕ) where
    places-else : (q : ℕ) → ((j : ℕ) → i ≤ j → j < i + n → j ≢ q) → byte (each (marked_at es tags search) n i marks) q ≡ byte marks q
    places-else q d =
        each_keeps (λ (l : List ℕ). byte l q ≡ byte marks q) (marked_at es tags search) n i marks
        (λ j ys l h e. mark-other j q ys (d j l h) ∙ e)
        refl

    places-here : (p : ℕ) → i ≤ p → p < i + n → byte marks p ≡ 0 → p < length marks
        → differ (byte (each (marked_at es tags search) n i marks) p) 0 ≡ volume_fits tags search (volume es p)
    places-here p l h z m =
        each_at (λ (ys : List ℕ). (byte ys p ≡ 0) × (p < length ys)) (λ (ys : List ℕ). differ (byte ys p) 0 ≡ volume_fits tags search (volume es p))
        (marked_at es tags search) n i p marks l h
        (λ j ys d e. (mark-other j p ys d ∙ e.0, omega (arith, mark-length j ys, e.1)))
        (λ ys e. mark-there p ys e.0 e.1)
        (λ j ys d e. rw (mark-other j p ys d) e)
        (z, m)

  -- ---- a run

  module _ (r : Range) (place : ℕ) (marks : List ℕ) (pre : RunSearchable r place es tags marks) (l : Bool)
      (is : (a p : ℕ) → l ≡ looks_for search (slot r.kind a p)) where
    -- of a type that the search is not for, or no search
    pub run-passed : not l ≡ true → RunMarked r place es tags search marks marks
    unfolding finds all_of when
    run-passed t =
        record {
          inside = λ i h. eq-differ _ _ (pre.unmarked (place + i) (omega arith)) ∙ rw (← is (r.first + i) (place + i), not-true l t);
          ahead = λ q h. refl;
          behind = λ q h. refl;
        }

    module _ (t : not l ≡ false) (next passed : ℕ) (next-is : next ≡ next_address search) (passed_is : passed ≡ min r.count (next - r.first))
        (after : List ℕ) (done : after ≡ each (marked_at es tags search) (place + r.count - (place + passed)) (place + passed) marks) where
      finds-low : (i : ℕ) → i < passed → false ≡ finds es tags search (slot r.kind (r.first + i) (place + i))
      unfolding finds all_of when at_or_above
      finds-low i h = rw (← is (r.first + i) (place + i), not-false l t, ← next-is, lt-leb next (r.first + i) (omega arith))

      finds-high : (i : ℕ) → passed ≤ i → i < r.count
          → volume_fits tags search (volume es (place + i)) ≡ finds es tags search (slot r.kind (r.first + i) (place + i))
      unfolding finds all_of when at_or_above
      finds-high i h k =
          rw (← is (r.first + i) (place + i), not-false l t, ← next-is, le-leb next (r.first + i) (omega arith)) (test-is _)

      pub run-marked : RunMarked r place es tags search marks after
      run-marked =
          record {
            inside = λ i h. rw done (go i h (ltb i passed) refl);
            ahead = λ q h. rw done (places-else _ _ marks q (λ j l k e. omega arith));
            behind = λ q h. rw done (places-else _ _ marks q (λ j l k e. omega arith));
          }
        where
          go : (i : ℕ) → i < r.count → (b : Bool) → ltb i passed ≡ b
              → differ (byte (each (marked_at es tags search) (place + r.count - (place + passed)) (place + passed) marks) (place + i)) 0
              ≡ finds es tags search (slot r.kind (r.first + i) (place + i))
          go i h true e =
              let low = ltb-true _ _ e in
              eq-differ _ _ (places-else _ _ marks (place + i) (λ j l k q. omega arith) ∙ pre.unmarked (place + i) (omega arith)) ∙ finds-low i low
          go i h false e =
              let high = ltb-false _ _ e in
              let long = pre.enough in
              places-here _ _ marks (place + i) (omega arith) (omega arith) (pre.unmarked (place + i) (omega arith)) (omega arith)
              ∙ finds-high i high h
