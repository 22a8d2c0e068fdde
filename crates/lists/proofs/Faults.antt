-- What a descriptor names or its fault, from what the code reads, and what the answer tells. Assumes nothing.
use Prim.Native.Nat.{ℕ, ◌+◌, ◌-◌, ◌*◌, ◌<◌, ◌≤◌}
use native.Mathlib.Omega.{arith}
use mathlib.Core.Path.{◌≡◌, refl, sym, ap, ◌∙◌}
use mathlib.Core.Logic.{◌≢◌}
use mathlib.Core.Bool.{Bool, true, false}
use mathlib.Core.List.{List}
use lib.ListN.{length}
use lib.Dec.{eqb, ltb}
use borrow.Author.Tests.{eqb-false, ltb-false}
use Rattle.std.specs.Prelude.{Option, Some, None, Result, Ok, Err}
use Rattle.rules.specs.Choice.{when, differ, any_from, each}
use Rattle.rules.specs.Roster.{Slot, kind_of}
use Rattle.rules.specs.Tables.{descriptor_size}
use Rattle.rules.specs.Holds.{reserved_bytes, number, address, first, many, unknown, too_many, named_before}
use Rattle.rules.proofs.Places.{place_in}
use Rattle.rules.proofs.Ladder.{on, yes, no, eq_is, eq-not, lt-is, lt_not, differ-is, differ-not, differ-false}
use Rattle.tables.specs.declared.Types.TheVariants.{Any}
use Rattle.tables.specs.LookUp.{admits, found}
use Rattle.tables.proofs.LookUp.{at_place, at_some, nothing-admits}
use Rattle.order.specs.declared.Cause.{Cause}
use Rattle.order.specs.declared.Cause.TheVariants.{ListField}
use Rattle.reader.specs.declared.Step.{Step}
use Rattle.reader.specs.Read.{step_at}
use Rattle.reader.proofs.Places.{the-kth}
use Rattle.lists.specs.declared.Span.{Span}
use Rattle.lists.specs.Named.{span_at, wrong, looked_up_then, looked_up, judged_at, marked, mark_at, Marks, Judging}
use Rattle.lists.proofs.Marks.{marks-more, before-is}

-- ---- the k-th descriptor was read as d, and its address looked up

module _ (ss : List Slot) (list : List ℕ) (k : ℕ) (d : Step) (read : d ≡ step_at list (descriptor_size * k)) where
  reserved-is : d.reserved ≡ reserved_bytes list k
  reserved-is = ap (λ (x : Step). x.reserved) (read ∙ the-kth list k)

  number_is : d.number ≡ number list k
  number_is = ap (λ (x : Step). x.number) (read ∙ the-kth list k)

  address_is : d.address ≡ address list k
  address_is = ap (λ (x : Step). x.address) (read ∙ the-kth list k)

  pub look-reserved : (d.reserved ≡ 0 → ⊥) → Err ListField ≡ looked_up ss list k
  unfolding looked_up_then
  look-reserved t = differ-is _ _ _ _ _ (λ e. t (reserved-is ∙ e)) refl

  module _ (t : d.reserved ≡ 0) (f : Option ℕ) (look : f ≡ found Any ss d.address) where
    looked : f ≡ found Any ss (address list k)
    looked = look ∙ ap (found Any ss) address_is

    clean : (x : Result Span Cause) → x ≡ when (unknown ss list k) wrong (when (too_many ss list k) wrong (Ok (span_at ss list k))) → x ≡ looked_up ss list k
    unfolding looked_up_then
    clean x w = differ-not _ _ _ _ _ (sym reserved-is ∙ t) w

    pub look-unknown : f ≡ None → wrong ≡ looked_up ss list k
    unfolding admits unknown
    look-unknown e = clean _ (eq_is _ _ _ _ _ (differ-false _ _ (nothing-admits Any ss (address list k) f looked e)) refl)

    module _ (p total e : ℕ) (there : f ≡ Some p) (all : total ≡ length ss) (ends : e ≡ p + when (eqb d.number 0) (total - p) d.number) where
      first-is : p ≡ first ss list k
      unfolding first
      first-is = at_place Any ss (address list k) f looked p there

      end_is : e ≡ first ss list k + many ss list k
      unfolding many
      end_is = ends ∙ rw (first-is, all, number_is)

      known : (x : Result Span Cause) → x ≡ when (ltb (length ss) (first ss list k + many ss list k)) wrong (Ok (span_at ss list k)) → x ≡ looked_up ss list k
      unfolding unknown too_many
      known x w = clean x (eq-not _ _ _ _ _ (at_some Any ss (address list k) f looked p there) w)

      pub look-many : total < e → wrong ≡ looked_up ss list k
      look-many h =
          let more : length ss < first ss list k + many ss list k = omega (arith, end_is) in
          known _ (lt-is _ _ _ _ _ more refl)

      pub look-named : e ≤ total → Ok (record { first = p; end = e }) ≡ looked_up ss list k
      look-named h =
          let most : first ss list k + many ss list k ≤ length ss = omega (arith, end_is) in
          known _ (lt_not _ _ _ _ _ most (rw (end_is, first-is)))

-- ---- what the answer x of that look-up tells

module _ (ss : List Slot) (list : List ℕ) (k : ℕ) where
  -- the elements named are in the table, and there is one
  pub record Inside (s : Span) : Type 0 where
    pub span-is : s ≡ span_at ss list k
    pub some : 1 ≤ many ss list k
    pub most : first ss list k + many ss list k ≤ length ss
    pub left : judged_at ss list k ≡ when (named_before ss list k) wrong (Ok s)

  names-some : unknown ss list k ≡ false → 1 ≤ many ss list k
  unfolding unknown first many
  names-some u =
      let h = place_in ss (address list k) (eqb-false (kind_of ss (address list k)) 0 u) in
      on (λ (n : ℕ). 1 ≤ n) (eqb (number list k) 0) (λ _. omega arith) (λ e. let d : number list k ≢ 0 = eqb-false (number list k) 0 e in omega arith)

  module _ (x : Result Span Cause) (is : x ≡ looked_up ss list k) where
    pub told-wrong : (c : Cause) → x ≡ Err c → Err c ≡ judged_at ss list k
    unfolding looked_up_then judged_at when
    told-wrong c e = go (differ (reserved_bytes list k) 0) (unknown ss list k) (too_many ss list k) (sym e ∙ is)
      where
        go : (a b m : Bool) → Err c ≡ when a (Err ListField) (when b wrong (when m wrong (Ok (span_at ss list k))))
            → Err c ≡ when a (Err ListField) (when b wrong (when m wrong (when (named_before ss list k) wrong (Ok (span_at ss list k)))))
        go true b m w = w
        go false true m w = w
        go false false true w = w
        go false false false w = let y : ◌≡◌ {A = ℕ} 0 1 = cc in absurd (let z : ⊥ = omega arith in z)

    pub told-inside : (s : Span) → x ≡ Ok s → Inside s
    unfolding looked_up_then judged_at too_many when
    told-inside s e = go (differ (reserved_bytes list k) 0) (unknown ss list k) refl (ltb (length ss) (first ss list k + many ss list k)) refl (sym e ∙ is) refl
      where
        go : (a b : Bool) → unknown ss list k ≡ b → (m : Bool) → ltb (length ss) (first ss list k + many ss list k) ≡ m
            → Ok s ≡ when a (Err ListField) (when b wrong (when m wrong (Ok (span_at ss list k))))
            → judged_at ss list k ≡ when a (Err ListField) (when b wrong (when m wrong (when (named_before ss list k) wrong (Ok (span_at ss list k)))))
            → Inside s
        go true b u m t w j = let y : ◌≡◌ {A = ℕ} 0 1 = cc in absurd (let z : ⊥ = omega arith in z)
        go false true u m t w j = let y : ◌≡◌ {A = ℕ} 0 1 = cc in absurd (let z : ⊥ = omega arith in z)
        go false false u true t w j = let y : ◌≡◌ {A = ℕ} 0 1 = cc in absurd (let z : ⊥ = omega arith in z)
        go false false u false t w j =
            let d : s ≡ span_at ss list k = cc in
            record { span-is = d; some = names-some u; most = ltb-false _ _ t; left = j ∙ rw d }

-- ---- no fault: the elements are those that the rules name

pub named-span : (ss : List Slot) (list : List ℕ) (k : ℕ) (s : Span) → Ok s ≡ judged_at ss list k → s ≡ span_at ss list k
unfolding judged_at looked_up_then when
named-span ss list k s e = go (differ (reserved_bytes list k) 0) (unknown ss list k) (too_many ss list k) (named_before ss list k) e
  where
    go : (a b m d : Bool) → Ok s ≡ when a (Err ListField) (when b wrong (when m wrong (when d wrong (Ok (span_at ss list k))))) → s ≡ span_at ss list k
    go true b m d w = let y : ◌≡◌ {A = ℕ} 0 1 = cc in absurd (let z : ⊥ = omega arith in z)
    go false true m d w = let y : ◌≡◌ {A = ℕ} 0 1 = cc in absurd (let z : ⊥ = omega arith in z)
    go false false true d w = let y : ◌≡◌ {A = ℕ} 0 1 = cc in absurd (let z : ⊥ = omega arith in z)
    go false false false true w = let y : ◌≡◌ {A = ℕ} 0 1 = cc in absurd (let z : ⊥ = omega arith in z)
    go false false false false w = cc

-- ---- the elements that it names, and the marks of those named before

module _ (ss : List Slot) (list : List ℕ) (k : ℕ) (ms : List ℕ) (asked : Judging ss list k ms) (s : Span) (there : Inside ss list k s) where
  starts : s.first ≡ first ss list k
  starts = ap (λ (x : Span). x.first) there.span-is

  stops : s.end ≡ first ss list k + many ss list k
  stops = ap (λ (x : Span). x.end) there.span-is

  as_many : s.end - s.first ≡ many ss list k
  as_many = omega (arith, starts, stops)

  pub span-up : s.first ≤ s.end
  span-up = omega (arith, starts, stops)

  pub span-most : s.end ≤ length ss
  span-most = omega (arith, stops, there.most)

  pub span-few : s.end ≤ 512
  span-few = omega (arith, span-most, asked.few)

  module _ (r : Bool) (is : r ≡ any_from (marked ms) (s.end - s.first) s.first) where
    before : r ≡ named_before ss list k
    before = is ∙ rw (as_many, starts) (before-is ss list k ms asked.so_far there.some (omega (arith, there.most, asked.few)))

    pub told_named : r ≡ true → wrong ≡ judged_at ss list k
    told_named t = rw there.left (yes r _ _ _ _ before t refl)

    pub told-new : r ≡ false → Ok s ≡ judged_at ss list k
    told-new t = rw there.left (no r _ _ _ _ before t refl)

  pub told-marks : (ms' : List ℕ) → ms' ≡ each mark_at (s.end - s.first) s.first ms → Marks ss list (k + 1) ms'
  told-marks ms' e = marks-more ss list k ms asked.so_far there.some ms' (rw (as_many, starts) at e)
