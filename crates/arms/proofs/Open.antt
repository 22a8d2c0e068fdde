-- The transports of a run, one after the other; a run and those behind it; the first of all, where no other host holds it; and what is looked up first. Assumes nothing.
use Prim.Native.Nat.{ℕ, zero, suc, ◌+◌, ◌-◌, ◌<◌, ◌≤◌}
use native.Mathlib.Omega.{arith}
use mathlib.Core.Path.{◌≡◌, refl, sym, ap, ◌∙◌}
use mathlib.Core.Logic.{◌≢◌}
use mathlib.Core.Bool.{Bool, true, false, not}
use mathlib.Core.List.{List, [], ◌∷◌, ◌++◌}
use lib.ListN.{length, get_or}
use lib.Dec.{eqb}
use borrow.Author.Tests.{eqb-true, eq-eqb, ne_eqb, not-true}
use Rattle.std.specs.Prelude.{Option, Some, None}
use Rattle.rules.specs.Choice.{when, all_of}
use Rattle.rules.specs.Tables.{holder}
use Rattle.rules.specs.Roster.{Range, Slot, slots, spread, place_of, kind_of, first_transport, transport}
use Rattle.rules.specs.Order.{other}
use Rattle.rules.specs.Moves.{open_transport}
use Rattle.rules.proofs.Ladder.{never, when_true, when_false}
use Rattle.rules.proofs.Rungs.{below_as}
use Rattle.rules.proofs.Places.{Placed, spread-placed}
use Rattle.tables.specs.declared.Range.{Range as Code}
use Rattle.tables.specs.declared.Types.TheVariants.{Transport}
use Rattle.tables.specs.Ranges.{meaning, meant, laid}
use Rattle.tables.specs.LookUp.{admits, found, on_found}
use Rattle.tables.proofs.Sort.{none, on-four}
use Rattle.tables.proofs.LookUp.{at-admits, at_place, at-below}
use Rattle.arms.specs.Used.{open_at, arm_at, Told, is_open}

module _ (h : ℕ) (es : List ℕ) where
  -- ---- a run: its first transport, if no other host holds it, or one of those behind it

  turn : (k f p n d : ℕ) → k ≡ transport
      → open_transport h es (slots k f p (suc n)) d ≡ when (other h (holder es p)) (open_transport h es (slots k (suc f) (suc p) n) d) f
  unfolding open_transport slots all_of when
  turn k f p n d e = rw (eq-eqb k transport e) (go (other h (holder es p)))
    where
      go : (x : Bool) → when (when (not x) true false) f (open_transport h es (slots k (suc f) (suc p) n) d) ≡ when x (open_transport h es (slots k (suc f) (suc p) n) d) f
      go true = refl
      go false = refl

  -- no transports
  pub none_in : (n k f p d : ℕ) → k ≢ transport → d ≡ open_transport h es (slots k f p n) d
  unfolding open_transport slots all_of when
  none_in zero k f p d e = refl
  none_in (suc n) k f p d e = rw (ne_eqb k transport e) (none_in n k (suc f) (suc p) d e)

  -- ---- the turns of the loop over a run of transports from place p on: the first k are held by other hosts

  pub record Held (r : Code) (p d k : ℕ) : Type 0 where
    pub arms : r.kind ≡ transport
    pub rest : open_transport h es (slots r.kind r.first p r.count) d ≡ open_transport h es (slots r.kind (r.first + k) (p + k) (r.count - k)) d

  pub held_none : (r : Code) (p d : ℕ) → r.kind ≡ transport → Held r p d 0
  held_none r p d k =
      let z : r.count - 0 ≡ r.count = omega arith in
      let x : r.first + 0 ≡ r.first = omega arith in
      let y : p + 0 ≡ p = omega arith in
      record { arms = k; rest = rw (z, x, y) }

  module _ (r : Code) (p d k : ℕ) (at : Held r p d k) where
    module _ (l : k < r.count) (x : Bool) (is : x ≡ other h (holder es (p + k))) where
      here : open_transport h es (slots r.kind r.first p r.count) d
          ≡ when x (open_transport h es (slots r.kind (suc (r.first + k)) (suc (p + k)) (r.count - (k + 1))) d) (r.first + k)
      here =
          let e : r.count - k ≡ suc (r.count - (k + 1)) = omega arith in
          at.rest ∙ ap (λ (m : ℕ). open_transport h es (slots r.kind (r.first + k) (p + k) m) d) e
          ∙ rw is (turn r.kind (r.first + k) (p + k) (r.count - (k + 1)) d at.arms)

      pub held_found : x ≡ false → r.first + k ≡ open_transport h es (slots r.kind r.first p r.count) d
      held_found e = sym (here ∙ when_false _ _ _ e)

      pub held_on : x ≡ true → Held r p d (k + 1)
      held_on e =
          let a : suc (r.first + k) ≡ r.first + (k + 1) = omega arith in
          let b : suc (p + k) ≡ p + (k + 1) = omega arith in
          record { arms = at.arms; rest = here ∙ when_true _ _ _ e ∙ rw (a, b) }

    pub held_all : r.count ≤ k → d ≡ open_transport h es (slots r.kind r.first p r.count) d
    unfolding slots open_transport
    held_all l = let e : r.count - k ≡ 0 = omega arith in sym (at.rest ∙ rw e)

  -- ---- a list and one behind it

  open-behind : (ss rs : List Slot) (d : ℕ) → open_transport h es (ss ++ rs) d ≡ open_transport h es ss (open_transport h es rs d)
  unfolding open_transport
  open-behind [] rs d = refl
  open-behind (s ∷ ss) rs d = cc (open-behind ss rs d)

  -- a run and those behind it
  run-behind : (q m : ℕ) (r : Range) (rs : List Range) (d v u : ℕ) → q + r.count ≡ m → open_transport h es (spread m rs) d ≡ v
      → u ≡ open_transport h es (slots r.kind r.first q r.count) v → open_transport h es (spread q (r ∷ rs)) d ≡ u
  unfolding spread
  run-behind q m r rs d v u e f g = open-behind (slots r.kind r.first q r.count) (spread (q + r.count) rs) d ∙ rw (e, f, g)

  -- what is open in the run at k, which begins at place p
  abbrev InRun : List Code → ℕ → ℕ → ℕ → ℕ
  InRun runs k p d = open_transport h es (slots (get_or runs k none).kind (get_or runs k none).first p (get_or runs k none).count) d

  -- the four runs, from the last to the first
  abbrev FourRuns : List Code → Type 0
  FourRuns l =
      (d w x y z : ℕ) → w ≡ InRun l 3 ((get_or l 0 none).count + (get_or l 1 none).count + (get_or l 2 none).count) d
      → x ≡ InRun l 2 ((get_or l 0 none).count + (get_or l 1 none).count) w → y ≡ InRun l 1 (get_or l 0 none).count x → z ≡ InRun l 0 0 y
      → z ≡ open_transport h es (laid l) d

  pub four_runs : (runs : List Code) → length runs ≡ 4 → FourRuns runs
  unfolding laid meant spread open_transport
  four_runs runs four =
      on-four FourRuns runs four
      (λ a b c e d w x y z i j k l.
      sym (run-behind 0 a.count (meaning a) (meaning b ∷ meaning c ∷ meaning e ∷ []) d y z (omega arith)
      (run-behind a.count (a.count + b.count) (meaning b) (meaning c ∷ meaning e ∷ []) d x y refl
      (run-behind (a.count + b.count) (a.count + b.count + c.count) (meaning c) (meaning e ∷ []) d w x refl
      (run-behind (a.count + b.count + c.count) (a.count + b.count + c.count + e.count) (meaning e) [] d d w refl refl i) j) k) l))

  -- ---- the first of all, where no other host holds it

  pub first-open : (q : ℕ) (ss : List Slot) (d : ℕ) → Placed q ss → kind_of ss (first_transport ss) ≡ transport
      → other h (holder es (q + place_of ss (first_transport ss))) ≡ false → open_transport h es ss d ≡ first_transport ss
  unfolding open_transport first_transport kind_of place_of all_of when
  first-open q [] d p k e = absurd (let z : ⊥ = omega arith in z)
  first-open q (s ∷ ss) d p k e = go (first-open (suc q) ss d p.1) (eqb s.kind transport) refl k e
    where
      a : Bool → ℕ
      a x = when x s.address (first_transport ss)

      go : (kind_of ss (first_transport ss) ≡ transport → other h (holder es (suc q + place_of ss (first_transport ss))) ≡ false → open_transport h es ss d ≡ first_transport ss)
          → (x : Bool) → eqb s.kind transport ≡ x
          → when (eqb s.address (a x)) s.kind (kind_of ss (a x)) ≡ transport
          → other h (holder es (q + when (eqb s.address (a x)) 0 (suc (place_of ss (a x))))) ≡ false
          → when (when x (when (not (other h (holder es s.place))) true false) false) s.address (open_transport h es ss d) ≡ a x
      go ih true t k e =
          let i = eq-eqb s.address s.address refl in
          let z : q + 0 ≡ s.place = omega (arith, p.0) in
          rw (rw z at (rw i at e))
      go ih false t k e = apart (eqb s.address (first_transport ss)) k e
        where
          apart : (y : Bool) → when y s.kind (kind_of ss (first_transport ss)) ≡ transport
              → other h (holder es (q + when y 0 (suc (place_of ss (first_transport ss))))) ≡ false → open_transport h es ss d ≡ first_transport ss
          apart true k e = absurd (never (sym t ∙ eq-eqb s.kind transport k))
          apart false k e =
              let z : q + suc (place_of ss (first_transport ss)) ≡ suc q + place_of ss (first_transport ss) = omega arith in
              ih k (rw z at e)

  -- its place is told, and not held
  first-arm : (runs : List Code) (a p : ℕ) → a ≡ first_transport (laid runs) → Some p ≡ found Transport (laid runs) a → other h (holder es p) ≡ false
      → Some p ≡ found Transport (laid runs) (open_at (laid runs) es h)
  unfolding admits laid
  first-arm runs a p e is free =
      let k : kind_of (laid runs) a ≡ transport = eqb-true _ _ (at-admits Transport (laid runs) a (Some p) is p refl) in
      let q : p ≡ 0 + place_of (laid runs) (first_transport (laid runs)) = rw (← e) (omega (arith, at_place Transport (laid runs) a (Some p) is p refl)) in
      let o = first-open 0 (laid runs) (first_transport (laid runs)) (spread-placed 0 _) (rw e at k) (rw (← q) free) in
      is ∙ ap (found Transport (laid runs)) (e ∙ sym o)

  pub open-first : (runs : List Code) (a : ℕ) (f : Option ℕ) (x : Bool) → f ≡ found Transport (laid runs) a → a ≡ first_transport (laid runs)
      → x ≡ is_open es h f → x ≡ true → f ≡ found Transport (laid runs) (open_at (laid runs) es h)
  unfolding is_open on_found
  open-first runs a (Some p) x is e y t = first-arm runs a p e is (not-true _ (sym y ∙ t))
  open-first runs a None x is e y t = absurd (never (sym y ∙ t))

pub found-told : (ss : List Slot) (a n : ℕ) (f : Option ℕ) → f ≡ found Transport ss a → length ss ≡ n → Told n f
found-told ss a n (Some p) is m = below_as p (length ss) n m (at-below Transport ss a (Some p) is p refl)
found-told ss a n None is m = tt

-- ---- the address that is looked up first

pub choice-named : (ss : List Slot) (es : List ℕ) (h a w : ℕ) → w ≡ when (eqb a 0) (first_transport ss) a → a ≢ 0 → w ≡ arm_at ss es h a
unfolding arm_at
choice-named ss es h a w is n = is ∙ when_false _ _ _ (ne_eqb a 0 n) ∙ sym (when_false _ _ _ (ne_eqb a 0 n))

pub choice-first : (ss : List Slot) (a w : ℕ) → w ≡ when (eqb a 0) (first_transport ss) a → a ≡ 0 → w ≡ first_transport ss
choice-first ss a w is z = is ∙ when_true _ _ _ (eq-eqb a 0 z)
