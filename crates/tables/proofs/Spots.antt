-- Type and place of an address are those of the first run in which it lies. Assumes nothing.
use Rattle.std.proofs.Common.{◌≡◌, ℕ, ◌+◌, ◌-◌, ◌%◌, ◌^◌, ◌<◌, ◌≤◌, Bool, true, false, ltb, leb, List, [], ◌∷◌, ◌++◌, length, get_or, refl, ap, ◌∙◌, arith, ltb-false, ltb-true, le-ltb, lt-ltb, leb-false, leb-true}
use Rattle.rules.specs.Choice.{when, all_of}
use Rattle.rules.specs.Roster.{Range, Slot, slots, spread, kind_of, place_of}
use Rattle.rules.proofs.Ladder.{all_first, all_rest}
use Rattle.rules.proofs.Typed.{slots-in, slots-out}
use Rattle.tables.specs.declared.Range.{Range as Code}
use Rattle.tables.specs.declared.Spot.{Spot}
use Rattle.tables.specs.Ranges.{meaning, meant, laid, lies}
use Rattle.tables.specs.LookUp.{spot, spot_of}
use Rattle.tables.proofs.Sort.{none, on-four}

-- ---- an address and one range

-- where it lies in a range, its place in it is below the count
pub lies-from : (r : Range) (a : ℕ) → lies r a ≡ true → (r.first ≤ a) × (a < r.first + r.count)
unfolding lies
lies-from r a e =
    (leb-true r.first a (all_first _ _ e), ltb-true a (r.first + r.count) (all_first _ _ (all_rest _ _ e)))

-- what it is behind the first address, wrapped where it is before it, is then below the count, and only then
pub lies-wrapped : (r : Range) (a w : ℕ) → w ≡ (a + (2 ^ 32 - r.first)) % 2 ^ 32 → w < 2 ^ 32 → a < 2 ^ 32 → r.first ≤ 65535 → r.count ≤ 65535 → ltb w r.count ≡ lies r a
unfolding lies all_of when
lies-wrapped r a w e lw la lf lc = go (leb r.first a) (ltb a (r.first + r.count)) refl refl
  where
    go : (x y : Bool) → leb r.first a ≡ x → ltb a (r.first + r.count) ≡ y → ltb w r.count ≡ when x (when y true false) false
    go true true f g =
        let i = leb-true r.first a f in
        let j = ltb-true a (r.first + r.count) g in
        lt-ltb w r.count (omega arith)
    go true false f g =
        let i = leb-true r.first a f in
        let j = ltb-false a (r.first + r.count) g in
        le-ltb w r.count (omega arith)
    go false y f g =
        let i = leb-false r.first a f in
        le-ltb w r.count (omega arith)

-- the elements of a range and those behind them: type and place follow from the range where the address lies in it, else from those behind
spot-run : (r : Range) (q a : ℕ) (rest : List Slot)
    → spot_of (slots r.kind r.first q r.count ++ rest) a
    ≡ when (lies r a) (spot r.kind (a - r.first)) (spot (kind_of rest a) (r.count + place_of rest a))
unfolding lies all_of spot_of when
spot-run r q a rest = go (leb r.first a) (ltb a (r.first + r.count)) refl refl
  where
    ss : List Slot
    ss = slots r.kind r.first q r.count ++ rest

    go : (x y : Bool) → leb r.first a ≡ x → ltb a (r.first + r.count) ≡ y
        → spot (kind_of ss a) (place_of ss a)
        ≡ when (when x (when y true false) false) (spot r.kind (a - r.first)) (spot (kind_of rest a) (r.count + place_of rest a))
    go true true e f =
        let i = slots-in r.count r.kind r.first q a rest (leb-true r.first a e) (ltb-true a (r.first + r.count) f) in
        cc
    go true false e f =
        let l = ltb-false a (r.first + r.count) f in
        let o = slots-out r.count r.kind r.first q a rest (λ i h z. omega arith) in
        cc
    go false y e f =
        let l = leb-false r.first a e in
        let o = slots-out r.count r.kind r.first q a rest (λ i h z. omega arith) in
        cc

pub kind-run : (r : Range) (q a : ℕ) (rest : List Slot)
    → kind_of (slots r.kind r.first q r.count ++ rest) a ≡ when (lies r a) r.kind (kind_of rest a)
unfolding spot_of when
kind-run r q a rest = ap (λ (s : Spot). s.kind) (spot-run r q a rest) ∙ go (lies r a)
  where
    go : (b : Bool) → (when b (spot r.kind (a - r.first)) (spot (kind_of rest a) (r.count + place_of rest a))).kind ≡ when b r.kind (kind_of rest a)
    go true = refl
    go false = refl

-- ---- the runs, one after the other

-- type and place by the runs, behind p places
unfoldable pub seek : List Range → ℕ → ℕ → Spot
seek [] p a = spot 0 p
seek (r ∷ rs) p a = when (lies r a) (spot r.kind (p + (a - r.first))) (seek rs (p + r.count) a)

seek_is : (rs : List Range) (p q a : ℕ) → seek rs p a ≡ spot (kind_of (spread q rs) a) (p + place_of (spread q rs) a)
unfolding seek spread kind_of place_of when spot_of
seek_is [] p q a = let e : p ≡ p + 0 = omega arith in ap (spot 0) e
seek_is (r ∷ rs) p q a = go (lies r a) refl (seek_is rs (p + r.count) (q + r.count) a)
  where
    rest : List Slot
    rest = spread (q + r.count) rs

    ss : List Slot
    ss = slots r.kind r.first q r.count ++ rest

    go : (b : Bool) → lies r a ≡ b → seek rs (p + r.count) a ≡ spot (kind_of rest a) (p + r.count + place_of rest a)
        → when b (spot r.kind (p + (a - r.first))) (seek rs (p + r.count) a) ≡ spot (kind_of ss a) (p + place_of ss a)
    go true e ih =
        let here = rw e at (spot-run r q a rest) in
        cc (ap (λ (s : Spot). s.kind) here, ap (λ (s : Spot). s.place) here)
    go false e ih =
        let on = rw e at (spot-run r q a rest) in
        let k : kind_of ss a ≡ kind_of rest a = ap (λ (s : Spot). s.kind) on in
        let i : place_of ss a ≡ r.count + place_of rest a = ap (λ (s : Spot). s.place) on in
        let n : p + r.count + place_of rest a ≡ p + place_of ss a = omega (arith, i) in
        ih ∙ cc (k, n)

-- the code's tests, in their order
abbrev seek_four : List Code → ℕ → Spot
seek_four l a =
    let r : ℕ → Code = λ k. get_or l k none in
    when (lies (meaning (r 0)) a) (spot (r 0).kind (0 + (a - (r 0).first)))
    (when (lies (meaning (r 1)) a) (spot (r 1).kind ((r 0).count + (a - (r 1).first)))
    (when (lies (meaning (r 2)) a) (spot (r 2).kind ((r 0).count + (r 1).count + (a - (r 2).first)))
    (when (lies (meaning (r 3)) a) (spot (r 3).kind ((r 0).count + (r 1).count + (r 2).count + (a - (r 3).first)))
    (spot 0 ((r 0).count + (r 1).count + (r 2).count + (r 3).count)))))

pub spot-by : (runs : List Code) → length runs ≡ 4 → (a : ℕ) (z : Spot) → z ≡ seek_four runs a → z ≡ spot_of (laid runs) a
unfolding laid spot_of meant seek
spot-by runs four a z e =
    let four_is : seek_four runs a ≡ seek (meant runs) 0 a =
    on-four (λ (l : List Code). seek_four l a ≡ seek (meant l) 0 a) runs four (λ x y v w. let n : 0 + x.count ≡ x.count = omega arith in rw n refl) in
    let n : 0 + place_of (laid runs) a ≡ place_of (laid runs) a = omega arith in
    e ∙ four_is ∙ seek_is (meant runs) 0 0 a ∙ ap (spot (kind_of (laid runs) a)) n
