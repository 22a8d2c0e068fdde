-- What is chosen of a range, by its numbers: how many, how far to the first of them, and how far to the last that fits. Assumes nothing.
use Prim.Native.Nat.{ℕ, ◌+◌, ◌-◌, ◌≤◌, ◌<◌, min}
use native.Mathlib.Omega.{arith}
use mathlib.Core.Path.{◌≡◌, refl, sym, ap, ◌∙◌}
use mathlib.Core.Logic.{◌≢◌}
use mathlib.Core.Bool.{Bool, true, false}
use mathlib.Core.List.{List, [], ◌∷◌}
use lib.ListN.{length, take, length-take}
use lib.Seq.{take-take, take-nil, length-take-le}
use lib.Dec.{eqb}
use borrow.Author.Tests.{eq-eqb, ne_eqb, eqb-false}
use Rattle.rules.specs.Choice.{when}
use Rattle.rules.specs.Roster.{Slot, Range, slots}
use Rattle.rules.specs.Listing.{keep, first_address}
use Rattle.rules.specs.Search.{behind_all}
use Rattle.rules.proofs.Ladder.{on, either, when_false}
use Rattle.pages.specs.Marks.{marked_of, marks_in, reach_of}
use Rattle.pages.proofs.Marked.{marks-length, marks-bound, reach_few, reach-marked, reach-behind}
use Rattle.listing.specs.declared.Query.{Query}
use Rattle.listing.specs.declared.Tally.{Tally}
use Rattle.listing.specs.declared.Part.{Part}
use Rattle.listing.specs.Plan.{skips, suits, offered}
use Rattle.listing.specs.Counting.{Inside, picked_at, chosen_at, fitting_at, reach_at, part_of, some, lead_of, next_of, step_by, step_of, Small}
use Rattle.listing.proofs.Fitting.{fit_is}

-- ---- lists of elements

pub first-none : (ss : List Slot) → length ss ≡ 0 → first_address ss ≡ 0
unfolding first_address
first-none [] e = refl
first-none (s ∷ ss) e = absurd (omega arith)

-- the first stands before what is behind it
first-behind : (ss : List Slot) → first_address ss ≡ behind_all 0 (take 1 ss) - 1
unfolding first_address behind_all
first-behind [] = refl
first-behind (s ∷ ss) = omega arith

-- ---- of a range

-- the first is looked for where there is one
pub some_one : (n : ℕ) → n ≢ 0 → some n ≡ 1
unfolding some
some_one n z = when_false _ _ _ (ne_eqb n 0 z)

module _ (marks : List ℕ) (q : Query) (s : Tally) (r : Range) where
  -- where those from start on begin, and how many they are
  abbrev start : ℕ
  start = r.first + skips q.start r

  abbrev place : ℕ
  place = s.place + skips q.start r

  abbrev many : ℕ
  many = r.count - skips q.start r

  abbrev all : List Slot
  all = marked_of marks r.kind start place many

  pub picked-few : (chosen_at marks q s r ≤ s.left) × (chosen_at marks q s r ≤ many)
  unfolding offered
  picked-few =
      on (λ (x : List Slot). (length (take s.left x) ≤ s.left) × (length (take s.left x) ≤ many)) (suits q.code r.kind)
      (λ e.
      let n = length-take s.left all in
      let l = marks-length marks r.kind start place many in
      let b = marks-bound marks many place in
      (omega arith, omega arith))
      (λ e. let n = length-take s.left (empty) in (omega arith, omega arith))
    where
      empty : List Slot
      empty = []

  -- what the code counts is their number
  pub picks-suited : suits q.code r.kind ≡ true → chosen_at marks q s r ≡ min s.left (marks_in marks many place)
  unfolding offered when
  picks-suited e = rw e (length-take s.left all ∙ ap (min s.left) (marks-length marks r.kind start place many))

  pub picks-unsuited : suits q.code r.kind ≡ false → chosen_at marks q s r ≡ 0
  unfolding offered when
  picks-unsuited e = rw e (ap length (take-nil {A = Slot} s.left))

  -- what is told of m of them, by cases: all from start on that are marked, or none
  told-as : {A : Type 0} (f : List Slot → A) (x : A) (m : ℕ) → m ≤ chosen_at marks q s r → (m ≤ marks_in marks many place → f (take m all) ≡ x) → (m ≡ 0 → f [] ≡ x)
      → f (take m (picked_at marks q s r)) ≡ x
  unfolding offered when
  told-as f x m h some nothing = go (suits q.code r.kind) h
    where
      go : (b : Bool) → m ≤ length (take s.left (when b all [])) → f (take m (take s.left (when b all []))) ≡ x
      go true k =
          let n = length-take s.left all in
          let l = marks-length marks r.kind start place many in
          rw (take-take m s.left all (omega arith)) (some (omega arith))
      go false k =
          let n = ap length (take-nil {A = Slot} s.left) in
          let z : m ≡ 0 = omega arith in
          rw z (nothing z)

  -- they are those that are marked as far as the m-th
  pub picked-run : (m : ℕ) → m ≤ chosen_at marks q s r → take m (picked_at marks q s r) ≡ marked_of marks r.kind start place (reach_at marks q s r m)
  unfolding reach_of keep slots
  picked-run m h =
      told-as (λ (x : List Slot). x) _ m h (λ k. sym (reach-marked marks r.kind start place m many)) (λ z. rw z)

  picked-behind : (m from : ℕ) → m ≤ chosen_at marks q s r → behind_all from (take m (picked_at marks q s r)) ≡ next_of m (start + reach_at marks q s r m) from
  unfolding next_of behind_all when
  picked-behind m from h =
      told-as (behind_all from) _ m h (λ k. reach-behind marks r.kind start place m many from k) (λ z. rw (eq-eqb m 0 z))

  picked_first : first_address (picked_at marks q s r) ≡ when (eqb (chosen_at marks q s r) 0) 0 (start + reach_at marks q s r (some (chosen_at marks q s r)) - 1)
  unfolding when next_of some
  picked_first =
      either (chosen_at marks q s r) 0 (λ z. rw (eq-eqb (chosen_at marks q s r) 0 z) (first-none (picked_at marks q s r) z))
      (λ n. rw (ne_eqb (chosen_at marks q s r) 0 n)
      (first-behind (picked_at marks q s r) ∙ ap (λ (x : ℕ). x - 1) (picked-behind 1 0 (omega arith))))

  -- where none is chosen, none fits and none is looked for
  pub none-part : (p : Part) → p.n ≡ 0 → p.m ≡ 0 → p.lead ≡ 0 → p.run ≡ 0 → chosen_at marks q s r ≡ 0 → p ≡ part_of marks q s r
  unfolding reach_of some when
  none-part p a b d e z =
      let m : fitting_at marks q s r ≡ 0 = omega (arith, (fit_is q.tagged s.room (chosen_at marks q s r)).few) in
      let l : reach_at marks q s r (some (chosen_at marks q s r)) ≡ 0 = rw z refl in
      let k : reach_at marks q s r (fitting_at marks q s r) ≡ 0 = rw m refl in
      λ i. record { n = (a ∙ sym z) i; m = (b ∙ sym m) i; lead = (d ∙ sym l) i; run = (e ∙ sym k) i }

  -- the numbers of the part are small
  pub part_small : Inside r → s.number + s.left < 65536 → Small s (part_of marks q s r)
  part_small i h =
      let a = picked-few in
      let c = reach_few marks (some (chosen_at marks q s r)) many place in
      let d = reach_few marks (fitting_at marks q s r) many place in
      record {
        sum = omega arith;
        few = (fit_is q.tagged s.room (chosen_at marks q s r)).few;
        lead = omega (arith, i.ends);
        run = omega (arith, i.ends);
      }

  -- the stand that the code comes to is the next
  pub step_is : step_by q s r (part_of marks q s r) ≡ step_of marks q s r
  unfolding step_by step_of lead_of
  step_is =
      let f = (fit_is q.tagged s.room (chosen_at marks q s r)).few in
      rw (picked_first, picked-behind (fitting_at marks q s r) s.next f)

  -- its first address is small
  pub first_small : q.start < 65536 → Inside r → s.first < 65536 → (step_of marks q s r).first < 65536
  unfolding step_of
  first_small b i h =
      let c = reach_few marks (some (chosen_at marks q s r)) many place in
      on (λ (x : ℕ). x < 65536) (eqb s.number 0)
      (λ e. rw picked_first (on (λ (x : ℕ). x < 65536) (eqb (chosen_at marks q s r) 0) (λ z. omega arith) (λ z. omega (arith, i.begins, i.ends))))
      (λ e. h)

  -- what of the range is told lies in it, and what is marked there is what fits
  pub told-inside : Inside r → (fitting_at marks q s r ≡ 0 → ⊥)
      → (fitting_at marks q s r ≡ marks_in marks (reach_at marks q s r (fitting_at marks q s r)) place)
      × ((start + reach_at marks q s r (fitting_at marks q s r) ≤ 65536) × (place + reach_at marks q s r (fitting_at marks q s r) ≤ s.place + r.count))
  told-inside i n =
      let m = fitting_at marks q s r in
      let f = (fit_is q.tagged s.room (chosen_at marks q s r)).few in
      let k : ℕ = reach_at marks q s r m in
      let e : m ≡ marks_in marks k place =
      sym (length-take-le m (picked_at marks q s r) f) ∙ ap length (picked-run m f) ∙ marks-length marks r.kind start place k in
      let b = marks-bound marks k place in
      let c = reach_few marks m many place in
      (e, (omega (arith, i.ends), omega arith))

  -- the address behind is small
  pub next_small : Inside r → s.next ≤ 65536 → (step_of marks q s r).next ≤ 65536
  unfolding step_of next_of
  next_small i h =
      let f = (fit_is q.tagged s.room (chosen_at marks q s r)).few in
      rw (picked-behind (fitting_at marks q s r) s.next f)
      (on (λ (x : ℕ). x ≤ 65536) (eqb (fitting_at marks q s r) 0) (λ z. h) (λ z. (told-inside i (eqb-false (fitting_at marks q s r) 0 z)).1.0))
