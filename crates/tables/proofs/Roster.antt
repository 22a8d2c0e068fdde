-- The elements of the runs: how many they are, and of which type each is. Assumes nothing.
use Rattle.std.proofs.Common.{◌≡◌, ℕ, zero, suc, ◌+◌, ◌-◌, ◌<◌, ◌≤◌, Bool, true, false, eqb, ltb, List, [], ◌∷◌, ◌++◌, length, get_or, sym, refl, ◌∙◌, not-suc-le-zero, arith, ltb-false, ltb-true, eq-eqb, ne_eqb}
use Rattle.rules.specs.Choice.{when, all_of, differ}
use Rattle.rules.specs.Ranges.{total}
use Rattle.rules.proofs.Places.{spread-length}
use Rattle.rules.proofs.Ladder.{ne-differ, test-is}
use Rattle.rules.specs.Roster.{Range, Slot, slots, spread, roster, kind_at, first_transport, transport}
use Rattle.tables.specs.declared.Range.{Range as Code}
use Rattle.tables.specs.Ranges.{meaning, meant, laid, leads, Runs}
use Rattle.tables.proofs.Sort.{none, on-four}

-- the runs of a head's table make its roster
pub runs-laid : (runs : List Code) (head : List ℕ) → Runs runs head → laid runs ≡ roster head
unfolding laid roster
runs-laid runs head e = rw e

-- ---- how many there are

pub laid-length : (runs : List Code) → length (laid runs) ≡ total (meant runs)
unfolding laid
laid-length runs = spread-length 0 (meant runs)

pub total-is : (runs : List Code) → length runs ≡ 4
    → (get_or runs 0 none).count + (get_or runs 1 none).count + (get_or runs 2 none).count + (get_or runs 3 none).count ≡ length (laid runs)
unfolding meant total
total-is runs e =
    on-four
    (λ (l : List Code). (get_or l 0 none).count + (get_or l 1 none).count + (get_or l 2 none).count + (get_or l 3 none).count ≡ length (laid l))
    runs e (λ a b c d. omega (arith, laid-length (a ∷ b ∷ c ∷ d ∷ [])))

-- ---- the type of the element at a place, range after range

unfoldable pub walk : List Range → ℕ → ℕ
walk [] p = 0
walk (r ∷ rs) p = when (ltb p r.count) r.kind (walk rs (p - r.count))

slots-here : (n k f q p : ℕ) (rest : List Slot) → p < n → kind_at (slots k f q n ++ rest) p ≡ k
unfolding slots kind_at
slots-here zero k f q p rest h = absurd (not-suc-le-zero h)
slots-here (suc n) k f q zero rest h = refl
slots-here (suc n) k f q (suc p) rest h = slots-here n k (suc f) (suc q) p rest (omega arith)

slots-past : (n k f q p : ℕ) (rest : List Slot) → n ≤ p → kind_at (slots k f q n ++ rest) p ≡ kind_at rest (p - n)
unfolding slots kind_at
slots-past zero k f q p rest h = let e : p - 0 ≡ p = omega arith in rw e
slots-past (suc n) k f q zero rest h = absurd (not-suc-le-zero h)
slots-past (suc n) k f q (suc p) rest h =
    let e : suc p - suc n ≡ p - n = omega arith in
    rw e (slots-past n k (suc f) (suc q) p rest (omega arith))

walk_is : (rs : List Range) (q p : ℕ) → kind_at (spread q rs) p ≡ walk rs p
unfolding walk spread when kind_at
walk_is [] q p = refl
walk_is (r ∷ rs) q p = go (walk_is rs (q + r.count) (p - r.count)) (ltb p r.count) refl
  where
    go : kind_at (spread (q + r.count) rs) (p - r.count) ≡ walk rs (p - r.count) → (b : Bool) → ltb p r.count ≡ b
        → kind_at (spread q (r ∷ rs)) p ≡ when b r.kind (walk rs (p - r.count))
    go ih true t = slots-here r.count r.kind r.first q p (spread (q + r.count) rs) (ltb-true p r.count t)
    go ih false t = slots-past r.count r.kind r.first q p (spread (q + r.count) rs) (ltb-false p r.count t) ∙ ih

pub laid-at : (runs : List Code) (p : ℕ) → kind_at (laid runs) p ≡ walk (meant runs) p
unfolding laid
laid-at runs p = walk_is (meant runs) 0 p

-- ---- "the lowest-addressed" transport: the first of the first run that holds transports

unfoldable pub lead : List Range → ℕ
lead [] = 0
lead (r ∷ rs) = when (leads r) r.first (lead rs)

lead-past : (n k f q : ℕ) (rest : List Slot) → eqb k transport ≡ false → first_transport (slots k f q n ++ rest) ≡ first_transport rest
unfolding slots first_transport when
lead-past zero k f q rest d = refl
lead-past (suc n) k f q rest d = rw d (lead-past n k (suc f) (suc q) rest d)

-- the code's two ways out
pub lead-some : (r : Range) → r.kind ≡ transport → differ r.count 0 ≡ leads r
unfolding leads all_of when
lead-some r e = rw (eq-eqb r.kind transport e) (test-is (differ r.count 0))

pub lead-other : (r : Range) → (r.kind ≡ transport → ⊥) → false ≡ leads r
unfolding leads all_of when
lead-other r n = rw (ne_eqb r.kind transport n)

lead-here : (n k f q : ℕ) (rest : List Slot) → eqb k transport ≡ true
    → first_transport (slots k f q n ++ rest) ≡ when (differ n 0) f (first_transport rest)
unfolding slots first_transport differ when
lead-here zero k f q rest d = refl
lead-here (suc n) k f q rest d = rw (d, ne-differ (suc n) 0 (λ z. omega arith))

lead_is : (rs : List Range) (q : ℕ) → first_transport (spread q rs) ≡ lead rs
unfolding spread lead leads all_of when first_transport
lead_is [] q = refl
lead_is (r ∷ rs) q = go (eqb r.kind transport) refl (lead_is rs (q + r.count))
  where
    go : (b : Bool) → eqb r.kind transport ≡ b → first_transport (spread (q + r.count) rs) ≡ lead rs
        → first_transport (slots r.kind r.first q r.count ++ spread (q + r.count) rs)
        ≡ when (when b (when (differ r.count 0) true false) false) r.first (lead rs)
    go true t ih = lead-here r.count r.kind r.first q (spread (q + r.count) rs) t ∙ rw ih (same (differ r.count 0))
      where
        same : (x : Bool) → when x r.first (lead rs) ≡ when (when x true false) r.first (lead rs)
        same true = refl
        same false = refl
    go false t ih = lead-past r.count r.kind r.first q (spread (q + r.count) rs) t ∙ ih

-- the code's tests, in their order
abbrev lead_four : List Code → ℕ
lead_four l =
    let r : ℕ → Code = λ k. get_or l k none in
    when (leads (meaning (r 0))) (r 0).first
    (when (leads (meaning (r 1))) (r 1).first
    (when (leads (meaning (r 2))) (r 2).first (when (leads (meaning (r 3))) (r 3).first 0)))

pub lead-by : (runs : List Code) → length runs ≡ 4 → (z : ℕ) → z ≡ lead_four runs → z ≡ first_transport (laid runs)
unfolding laid meant lead
lead-by runs four z e =
    e ∙ on-four (λ (l : List Code). lead_four l ≡ lead (meant l)) runs four (λ x y v w. refl) ∙ sym (lead_is (meant runs) 0)
