-- The ranges of the head, each by itself and, by first address, each beside the next. Assumes nothing.
use Prim.Native.Nat.{ℕ}
use native.Mathlib.Omega.{arith}
use mathlib.Core.Path.{◌≡◌, refl, sym}
use mathlib.Core.Bool.{Bool, true, false}
use mathlib.Core.List.{List, [], ◌∷◌}
use lib.ListN.{length, get_or}
use lib.Dec.{leb}
use borrow.Author.Tests.{leb-true, le-leb}
use Rattle.rules.specs.Choice.{when, any_of, all_of}
use Rattle.rules.specs.Roster.{Range, range, ranges, insert, sorted}
use Rattle.rules.specs.Ranges.{Each, Pairs}
use Rattle.rules.specs.Sound.{behind, counts_sound, range_sound, no_overlap, clear, ranges_sound}
use Rattle.rules.proofs.Ladder.{all_first, all_rest, all_cons, all_nil}
use Rattle.rules.proofs.Ascending.{Before, each_map, ascending}
use Rattle.tables.specs.declared.Range.{Range as Code}
use Rattle.tables.specs.Ranges.{meaning, meant}
use Rattle.tables.proofs.Sort.{none, on-four, meant-at}
use Rattle.sound_head.specs.Counts.{counts_fit}
use Rattle.sound_head.specs.InLine.{each_sound, before, in_line}
use Rattle.sound_head.proofs.Choices.{choices}

-- ---- the counts

pub counts-four : (rs : List Code) → length rs ≡ 4
    → counts_fit (meant rs) ≡ counts_sound (get_or rs 0 none).count (get_or rs 1 none).count (get_or rs 2 none).count (get_or rs 3 none).count
unfolding counts_fit
counts-four rs four =
    rw (meant-at rs 0 none (omega arith), meant-at rs 1 none (omega arith), meant-at rs 2 none (omega arith), meant-at rs 3 none (omega arith))

-- ranges that mean the head's: what was told of them is told of the head
pub counts-at : (head : List ℕ) → counts_fit (ranges head) ≡ counts_sound (range head 0).count (range head 1).count (range head 2).count (range head 3).count
unfolding counts_fit ranges
counts-at head = refl

-- ---- the four, one by one

module _ (rs : List Code) (four : length rs ≡ 4) where
  pub each-four : each_sound (meant rs)
      ≡ all_of (range_sound (meaning (get_or rs 0 none)) ∷ range_sound (meaning (get_or rs 1 none)) ∷ range_sound (meaning (get_or rs 2 none)) ∷ range_sound (meaning (get_or rs 3 none)) ∷ [])
  unfolding each_sound meant
  each-four =
      on-four
      (λ (l : List Code). each_sound (meant l) ≡ all_of (range_sound (meaning (get_or l 0 none)) ∷ range_sound (meaning (get_or l 1 none)) ∷ range_sound (meaning (get_or l 2 none)) ∷ range_sound (meaning (get_or l 3 none)) ∷ []))
      rs four (λ a b c d. refl)

  pub line-four : in_line (meant rs)
      ≡ all_of (before (meaning (get_or rs 0 none)) (meaning (get_or rs 1 none)) ∷ before (meaning (get_or rs 1 none)) (meaning (get_or rs 2 none)) ∷ before (meaning (get_or rs 2 none)) (meaning (get_or rs 3 none)) ∷ [])
  unfolding in_line meant all_of
  line-four =
      on-four
      (λ (l : List Code). in_line (meant l) ≡ all_of (before (meaning (get_or l 0 none)) (meaning (get_or l 1 none)) ∷ before (meaning (get_or l 1 none)) (meaning (get_or l 2 none)) ∷ before (meaning (get_or l 2 none)) (meaning (get_or l 3 none)) ∷ []))
      rs four (λ a b c d. refl)

-- ---- sorting: what holds of the sorted holds of the ranges

-- a choice that holds holds of what was chosen
either : {A : Type 0} (P : A → Type 0) (Q : Type 0) (b : Bool) (x y : A) → P (when b x y) → (P x → Q) → (P y → Q) → Q
unfolding when
either P Q true x y p f g = f p
either P Q false x y p f g = g p

each-inserted : (P : Range → Type 0) (r : Range) (rs : List Range) → Each P (insert r rs) → P r × Each P rs
unfolding insert
each-inserted P r [] p = p
each-inserted P r (s ∷ ss) p =
    either (Each P) (P r × Each P (s ∷ ss)) (leb r.first s.first) _ _ p (λ q. q)
    (λ q. let w = each-inserted P r ss q.1 in (w.0, (q.0, w.1)))

each-sorted : (P : Range → Type 0) (rs : List Range) → Each P (sorted rs) → Each P rs
unfolding sorted
each-sorted P [] p = tt
each-sorted P (r ∷ rs) p = let w = each-inserted P r (sorted rs) p in (w.0, each-sorted P rs w.1)

module _ (R : Range → Range → Type 0) (back : (r s : Range) → R r s → R s r) where
  pairs-inserted : (r : Range) (rs : List Range) → Pairs R (insert r rs) → Each (R r) rs × Pairs R rs
  unfolding insert
  pairs-inserted r [] p = (tt, tt)
  pairs-inserted r (s ∷ ss) p =
      either (Pairs R) (Each (R r) (s ∷ ss) × Pairs R (s ∷ ss)) (leb r.first s.first) _ _ p (λ q. q)
      (λ q.
      let w = pairs-inserted r ss q.1 in
      let v = each-inserted (R s) r ss q.0 in
      ((back s r v.0, w.0), (v.1, w.1)))

  pairs-sorted : (rs : List Range) → Pairs R (sorted rs) → Pairs R rs
  unfolding sorted
  pairs-sorted [] p = tt
  pairs-sorted (r ∷ rs) p =
      let w = pairs-inserted r (sorted rs) p in
      (each-sorted (R r) rs w.0, pairs-sorted rs w.1)

-- ---- neighbours and pairs

-- "with no overlap", of two either way round
abbrev Clear : Range → Range → Type 0
Clear r s = no_overlap r s ≡ true

clear-back : (r s : Range) → Clear r s → Clear s r
unfolding no_overlap any_of when
clear-back r s e = go (leb (behind r) s.first) (leb (behind s) r.first) e
  where
    go : (x y : Bool) → any_of (x ∷ y ∷ []) ≡ true → any_of (y ∷ x ∷ []) ≡ true
    go true true t = refl
    go true false t = refl
    go false true t = refl
    go false false t = t

before-clear : (r s : Range) → Before r s → Clear r s
unfolding no_overlap any_of when
before-clear r s h = rw (le-leb (behind r) s.first h)

-- each of the ranges
each-clear : (r : Range) (ss : List Range) → Each (Clear r) ss → clear r ss ≡ true
unfolding clear when
each-clear r [] ps = refl
each-clear r (s ∷ ss) ps = rw ps.0 (each-clear r ss ps.1)

-- ends before the next begins: then before each behind it
line-pairs : (rs : List Range) → in_line rs ≡ true → Pairs Before rs
unfolding in_line before when
line-pairs [] e = tt
line-pairs (r ∷ []) e = (tt, tt)
line-pairs (r ∷ s ∷ ss) e = go (leb (behind r) s.first) refl e (line-pairs (s ∷ ss))
  where
    go : (b : Bool) → leb (behind r) s.first ≡ b → when b (in_line (s ∷ ss)) false ≡ true → (in_line (s ∷ ss) ≡ true → Pairs Before (s ∷ ss))
        → Pairs Before (r ∷ s ∷ ss)
    go true t f ih =
        let l = leb-true (behind r) s.first t in
        let p = ih f in
        ((l, each_map (Before s) (Before r) (λ u h. omega arith) ss p.0), p)
    go false t f ih = absurd (let z : ◌≡◌ {A = ℕ} 0 1 = cc in let w : ⊥ = omega arith in w)

pairs-line : (rs : List Range) → Pairs Before rs → in_line rs ≡ true
unfolding in_line before when
pairs-line [] ps = refl
pairs-line (r ∷ []) ps = refl
pairs-line (r ∷ s ∷ ss) ps = rw (le-leb (behind r) s.first ps.0.0) (pairs-line (s ∷ ss) ps.1)

pairs-clear : (rs : List Range) → Pairs Before rs → Pairs Clear rs
pairs-clear [] ps = tt
pairs-clear (r ∷ rs) ps = (each_map (Before r) (Clear r) (before-clear r) rs ps.0, pairs-clear rs ps.1)

-- ---- all of it: each range by itself, and the neighbours

to-each : (rs : List Range) → ranges_sound rs ≡ true → each_sound rs ≡ true
unfolding ranges_sound each_sound
to-each [] e = all_nil
to-each (r ∷ rs) e = all_cons (range_sound r) _ (all_first _ _ e) (to-each rs (all_first _ _ (all_rest _ _ (all_rest _ _ e))))

from_each : (rs : List Range) → each_sound rs ≡ true → Pairs Clear rs → ranges_sound rs ≡ true
unfolding ranges_sound each_sound
from_each [] e ps = refl
from_each (r ∷ rs) e ps =
    all_cons _ _ (all_first _ _ e)
    (all_cons _ _ (each-clear r rs ps.0) (all_cons _ _ (from_each rs (all_rest _ _ e) ps.1) all_nil))

agree : (a b : Bool) → (a ≡ true → b ≡ true) → (b ≡ true → a ≡ true) → a ≡ b
agree true b f g = sym (f refl)
agree false true f g = g refl
agree false false f g = refl

pub ranges-are : (rs : List Range) → ranges_sound rs ≡ all_of (each_sound rs ∷ in_line (sorted rs) ∷ [])
ranges-are rs =
    agree _ _
    (λ e. all_cons _ _ (to-each rs e) (all_cons _ _ (pairs-line (sorted rs) (ascending rs e)) all_nil))
    (λ e.
    let line = line-pairs (sorted rs) (all_first _ _ (all_rest _ _ e)) in
    from_each rs (all_first _ _ e) (pairs-sorted Clear clear-back rs (pairs-clear (sorted rs) line)))

-- for `grind`: what is asked of the ranges, test by test
pub ruleset by_ranges = (choices, counts-four, counts-at, each-four, line-four, ranges-are)
