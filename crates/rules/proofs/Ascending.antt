-- Ranges sorted by first address: what sorting keeps, and that sound ranges come out ascending and without overlap, each element at its
-- place of a rising roster. Assumes nothing.
use Prim.Native.Nat.{ℕ, zero, suc, ◌+◌, ◌≤◌}
use native.Mathlib.Omega.{arith}
use mathlib.Core.Path.{◌≡◌, refl, sym}
use mathlib.Core.Logic.{◌⊎◌, inl, inr}
use mathlib.Core.List.{List, [], ◌∷◌, ◌++◌}
use mathlib.Core.Bool.{Bool, true, false}
use lib.Dec.{leb, T}
use borrow.Author.Tests.{leb-true, leb-false}
use Rattle.rules.specs.Choice.{when}
use Rattle.rules.specs.Tables.{Tables}
use Rattle.rules.specs.Roster.{Slot, Range, range, ranges, slots, spread, insert, sorted, roster}
use Rattle.rules.specs.Ranges.{Each, Pairs, Differ}
use Rattle.rules.specs.Sound.{behind, no_overlap, clear, ranges_sound, head_sound, sound}
use Rattle.rules.proofs.Ladder.{on, either, any-cases, any-nil, all_first, all_rest}
use Rattle.rules.proofs.Soundness.{RangeFits, range-true}

-- ---- what sorting keeps

pub each_map : (P Q : Range → Type 0) → ((r : Range) → P r → Q r) → (rs : List Range) → Each P rs → Each Q rs
each_map P Q f [] ps = tt
each_map P Q f (r ∷ rs) ps = (f r ps.0, each_map P Q f rs ps.1)

insert-each : (P : Range → Type 0) (r : Range) (rs : List Range) → P r → Each P rs → Each P (insert r rs)
unfolding insert
insert-each P r [] p ps = (p, tt)
insert-each P r (s ∷ ss) p ps =
    on (Each P) (leb r.first s.first) (λ e. (p, ps)) (λ e. (ps.0, insert-each P r ss p ps.1))

pub sorted-each : (P : Range → Type 0) (rs : List Range) → Each P rs → Each P (sorted rs)
unfolding sorted
sorted-each P [] ps = tt
sorted-each P (r ∷ rs) ps = insert-each P r (sorted rs) ps.0 (sorted-each P rs ps.1)

insert-pairs : (R : Range → Range → Type 0) → ((r s : Range) → R r s → R s r) → (r : Range) (rs : List Range)
    → Each (R r) rs → Pairs R rs → Pairs R (insert r rs)
unfolding insert
insert-pairs R back r [] p ps = (tt, tt)
insert-pairs R back r (s ∷ ss) p ps =
    on (Pairs R) (leb r.first s.first) (λ e. (p, ps))
    (λ e. (insert-each (R s) r ss (back r s p.0) ps.0, insert-pairs R back r ss p.1 ps.1))

-- of two that stand either way round
pub sorted-pairs : (R : Range → Range → Type 0) → ((r s : Range) → R r s → R s r) → (rs : List Range) → Pairs R rs → Pairs R (sorted rs)
unfolding sorted
sorted-pairs R back [] ps = tt
sorted-pairs R back (r ∷ rs) ps =
    insert-pairs R back r (sorted rs) (sorted-each (R r) rs ps.0) (sorted-pairs R back rs ps.1)

-- ---- sorting sorts

abbrev InOrder : Range → Range → Type 0
InOrder r s = r.first ≤ s.first

insert-order : (r : Range) (rs : List Range) → Pairs InOrder rs → Pairs InOrder (insert r rs)
unfolding insert
insert-order r [] ps = (tt, tt)
insert-order r (s ∷ ss) ps =
    on (Pairs InOrder) (leb r.first s.first)
    (λ e. let l = leb-true r.first s.first e in ((l, each_map (InOrder s) (InOrder r) (λ u h. omega arith) ss ps.0), ps))
    (λ e. let l = leb-false r.first s.first e in (insert-each (InOrder s) r ss (omega arith) ps.0, insert-order r ss ps.1))

sorted-order : (rs : List Range) → Pairs InOrder (sorted rs)
unfolding sorted
sorted-order [] = tt
sorted-order (r ∷ rs) = insert-order r (sorted rs) (sorted-order rs)

-- ---- what the test says of each range, and of each two

-- "with no overlap"
abbrev Apart : Range → Range → Type 0
Apart r s = (behind r ≤ s.first) ⊎ (behind s ≤ r.first)

apart-back : (r s : Range) → Apart r s → Apart s r
apart-back r s (inl a) = inr a
apart-back r s (inr a) = inl a

apart : (r s : Range) → no_overlap r s ≡ true → Apart r s
unfolding no_overlap
apart r s e = any-cases _ _ e (λ a. inl (leb-true _ _ a)) λ d. any-cases _ _ d (λ a. inr (leb-true _ _ a)) λ c. absurd (any-nil c)

clear_apart : (r : Range) (ss : List Range) → clear r ss ≡ true → Each (Apart r) ss
unfolding clear when
clear_apart r [] e = tt
clear_apart r (s ∷ ss) e = go (no_overlap r s) refl e (clear_apart r ss)
  where
    go : (b : Bool) → no_overlap r s ≡ b → when b (clear r ss) false ≡ true → (clear r ss ≡ true → Each (Apart r) ss) → Each (Apart r) (s ∷ ss)
    go true a f ih = (apart r s a, ih f)
    go false a f ih = let z : ◌≡◌ {A = ℕ} 0 1 = cc in absurd (omega arith)

all_fit : (rs : List Range) → ranges_sound rs ≡ true → Each RangeFits rs
unfolding ranges_sound
all_fit [] e = tt
all_fit (r ∷ rs) e = (range-true r (all_first _ _ e), all_fit rs (all_first _ _ (all_rest _ _ (all_rest _ _ e))))

all_apart : (rs : List Range) → ranges_sound rs ≡ true → Pairs Apart rs
unfolding ranges_sound
all_apart [] e = tt
all_apart (r ∷ rs) e = (clear_apart r rs (all_first _ _ (all_rest _ _ e)), all_apart rs (all_first _ _ (all_rest _ _ (all_rest _ _ e))))

-- ---- sorted ranges are ascending and without overlap

-- all of the one range before the other
abbrev pub Before : Range → Range → Type 0
Before r s = behind r ≤ s.first

before : (r s : Range) → RangeFits r → RangeFits s → InOrder r s → Apart r s → Before r s
before r s p q o (inl a) = a
before r s p q o (inr a) =
    either r.count 0 (λ n. let z = p.none n in omega arith)
    λ n. let k : s.count ≡ 0 = omega arith in let z = q.none k in let y = p.low n in omega arith

each-before : (r : Range) (ss : List Range) → RangeFits r → Each RangeFits ss → Each (InOrder r) ss → Each (Apart r) ss → Each (Before r) ss
each-before r [] p q o a = tt
each-before r (s ∷ ss) p q o a = (before r s p q.0 o.0 a.0, each-before r ss p q.1 o.1 a.1)

pairs-before : (rs : List Range) → Each RangeFits rs → Pairs InOrder rs → Pairs Apart rs → Pairs Before rs
pairs-before [] q o a = tt
pairs-before (r ∷ rs) q o a = (each-before r rs q.0 q.1 o.0 a.0, pairs-before rs q.1 o.1 a.1)

pub sorted-fit : (rs : List Range) → ranges_sound rs ≡ true → Each RangeFits (sorted rs)
sorted-fit rs e = sorted-each RangeFits rs (all_fit rs e)

pub ascending : (rs : List Range) → ranges_sound rs ≡ true → Pairs Before (sorted rs)
ascending rs e = pairs-before (sorted rs) (sorted-fit rs e) (sorted-order rs) (sorted-pairs Apart apart-back rs (all_apart rs e))

pub ranges-sound : (t : Tables) → sound t ≡ true → ranges_sound (ranges t.head) ≡ true
unfolding sound head_sound
ranges-sound t e = all_first _ _ (all_rest _ _ (all_rest _ _ (all_first _ _ e)))

-- ---- the roster rises

-- addresses from a on, each above the one before
abbrev pub Rising : ℕ → List Slot → Type 0
Rising a [] = T true
Rising a (s ∷ ss) = (a ≤ s.address) × Rising (suc s.address) ss

pub rising-lower : (a b : ℕ) (ss : List Slot) → a ≤ b → Rising b ss → Rising a ss
rising-lower a b [] h r = tt
rising-lower a b (s ∷ ss) h r = (omega arith, r.1)

slots-rise : (k a p n b : ℕ) (ss : List Slot) → b ≤ a → Rising (a + n) ss → Rising b (slots k a p n ++ ss)
unfolding slots
slots-rise k a p zero b ss h r = rising-lower b (a + 0) ss (omega arith) r
slots-rise k a p (suc n) b ss h r =
    let e : a + suc n ≡ suc a + n = omega arith in
    (h, slots-rise k (suc a) (suc p) n (suc a) ss (omega arith) (rw e at r))

spread-rises : (a p : ℕ) (rs : List Range) → Each (λ r. a ≤ r.first) rs → Pairs Before rs → Rising a (spread p rs)
unfolding spread
spread-rises a p [] l b = tt
spread-rises a p (r ∷ rs) l b =
    slots-rise r.kind r.first p r.count a (spread (p + r.count) rs) l.0 (spread-rises (behind r) (p + r.count) rs b.0 b.1)

each-zero : (rs : List Range) → Each (λ r. 0 ≤ r.first) rs
each-zero [] = tt
each-zero (r ∷ rs) = (omega arith, each-zero rs)

pub roster-rises : (head : List ℕ) → ranges_sound (ranges head) ≡ true → Rising 0 (roster head)
unfolding roster
roster-rises head e = spread-rises 0 0 (sorted (ranges head)) (each-zero (sorted (ranges head))) (ascending (ranges head) e)

-- ---- how many there are

-- ---- one range for each type

pub kinds-differ : (head : List ℕ) → Pairs Differ (sorted (ranges head))
unfolding ranges range
kinds-differ head =
    sorted-pairs Differ (λ r s d e. d (sym e)) (ranges head)
    ((λ e. omega arith, (λ e. omega arith, (λ e. omega arith, tt))), ((λ e. omega arith, (λ e. omega arith, tt)), ((λ e. omega arith, tt), (tt, tt))))

pub kinds-stand : (head : List ℕ) → Each (λ r. 1 ≤ r.kind) (sorted (ranges head))
unfolding ranges range
kinds-stand head = sorted-each (λ r. 1 ≤ r.kind) (ranges head) (omega arith, (omega arith, (omega arith, (omega arith, tt))))
