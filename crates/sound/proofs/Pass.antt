-- The one pass over the elements: the places of a run, and one run after the other. Assumes nothing.
use Rattle.std.proofs.Common.{◌≡◌, ℕ, zero, suc, ◌+◌, ◌-◌, ◌*◌, ◌<◌, ◌≤◌, Bool, true, false, not, eqb, ltb, leb, ◌≢◌, List, [], ◌∷◌, map, length, get_or, drop, sym, refl, ap, ◌∙◌, add_assoc, zero-add, add-one, arith, ltb-false, ltb-true, le-ltb, lt-ltb, eq-eqb, ne_eqb, eqb-true, le-leb, leb-false, leb-true, Option, Some, None}
use Rattle.std.specs.Option.{option_eq}
use borrow.Author.Tests.{lt-leb, eqb-false}
use Rattle.rules.specs.Ranges.{total}
use Rattle.rules.specs.Choice.{when, all_of, below}
use Rattle.rules.specs.Tables.{most_volumes, element_size, volume, source, mark, holder, id, zero_byte, empty_shelves}
use Rattle.rules.specs.Roster.{Range, Slot, spread, kind_at, transport, storage}
use Rattle.rules.specs.Sound.{transport_empty, source_sound, mark_sound, stock_sound, hold_sound, once, elements_sound}
use Rattle.rules.proofs.Ladder.{on, below_step, below_at, below_of, below_fails, all_first}
use Rattle.tables.specs.declared.Range.{Range as Code}
use Rattle.tables.specs.Ranges.{meaning, meant, laid}
use Rattle.tables.proofs.Sort.{none, meant-from, meant-end}
use Rattle.tables.proofs.Roster.{walk, laid-at, laid-length}
use Rattle.sound.specs.Checks.{last_of, ending_sound, Shelved, source_in, fit_by, passes_at, passes_from, sound_at, sound_to, empty_from, marked, marking, Marks, Run}
use Rattle.sound.proofs.Empty.{counts-most, empty-most, empty-next, shelves-of, none_tells, some_tells}
use Rattle.sound.proofs.Once.{stands-twice, stands-once, stands-none, mark-new, mark-none}

-- ---- several tests at each number below n are each test at all of them

below_both : (n : ℕ) (f g : ℕ → Bool) → below n (λ p. when (f p) (g p) false) ≡ when (below n f) (below n g) false
unfolding below when
below_both zero f g = refl
below_both (suc n) f g = go (f n) (g n) (below n f) (below n g) (below_both n f g)
  where
    go : (a b x y : Bool) → below n (λ p. when (f p) (g p) false) ≡ when x y false
        → when (when a b false) (below n (λ p. when (f p) (g p) false)) false ≡ when (when a x false) (when b y false) false
    go true true x y ih = ih
    go true false true y ih = refl
    go true false false y ih = refl
    go false b x y ih = refl

pub below_all : (n : ℕ) (fs : List (ℕ → Bool)) → below n (λ p. all_of (map (λ (f : ℕ → Bool). f p) fs)) ≡ all_of (map (below n) fs)
unfolding all_of
below_all n [] = below_of n (λ p. true) (λ p h. refl)
below_all n (f ∷ fs) =
    below_both n f (λ p. all_of (map (λ (g : ℕ → Bool). g p) fs)) ∙ ap (λ (b : Bool). when (below n f) b false) (below_all n fs)

same : (b : Bool) → when b true false ≡ b
unfolding when
same true = refl
same false = refl

eqb_back : (x y : ℕ) → eqb x y ≡ eqb y x
eqb_back x y = go (eqb x y) refl
  where
    go : (b : Bool) → eqb x y ≡ b → eqb x y ≡ eqb y x
    go true t = t ∙ sym (eq-eqb y x (sym (eqb-true x y t)))
    go false t = t ∙ sym (ne_eqb y x (λ q. eqb-false x y t (sym q)))

-- of elements of another number nothing is sound
pub elements_wrong : (u top : ℕ) (ss : List Slot) (es : List ℕ) (b : Bool) → (length es ≡ element_size * length ss → ⊥)
    → all_of (elements_sound ss u top es ∷ b ∷ []) ≡ false
unfolding elements_sound all_of when
elements_wrong u top ss es b d = rw (ne_eqb _ _ d)

-- else what the pass tells, beside the panel's number
pub elements_told : (u top panel : ℕ) (ss : List Slot) (es : List ℕ) → length es ≡ element_size * length ss
    → all_of (elements_sound ss u top es ∷ eqb panel (empty_shelves ss es) ∷ [])
    ≡ option_eq eqb (when (sound_to u top ss es (length ss)) (Some (empty_shelves ss es)) None) (Some panel)
unfolding elements_sound sound_to sound_at all_of when
elements_told u top panel ss es long =
    let all = below_all (length ss)
    ((λ p. stock_sound top ss (kind_at ss p) (volume es p) (source es p) (mark es p))
    ∷ (λ p. hold_sound u (holder es p) (id es p))
    ∷ (λ p. eqb (zero_byte es p) 0)
    ∷ once es
    ∷ []) in
    rw (eq-eqb _ _ long, ← all) (sym (go (sound_to u top ss es (length ss)) (empty_shelves ss es)))
  where
    go : (b : Bool) (m : ℕ) → option_eq eqb (when b (Some m) None) (Some panel) ≡ when b (when (eqb panel m) true false) false
    go true m = eqb_back m panel ∙ sym (same (eqb panel m))
    go false m = refl

pub ruleset told_by = (elements_wrong, elements_told)

-- ---- an element by itself

-- "Transports are empty": a limit of 0
last-is : (v top kind : ℕ) → leb v (last_of top kind) ≡ when (leb v top) (transport_empty kind v) false
unfolding last_of transport_empty when
last-is v top kind = go (eqb kind transport) (leb v top) refl
  where
    none : (x y : Bool) → leb v top ≡ x → eqb v 0 ≡ y → leb v 0 ≡ when x y false
    none true true e f = le-leb v 0 (omega (arith, eqb-true v 0 f))
    none true false e f = let d = eqb-false v 0 f in lt-leb v 0 (omega arith)
    none false y e f = let l = leb-false v top e in lt-leb v 0 (omega arith)

    go : (b x : Bool) → leb v top ≡ x → leb v (when b 0 top) ≡ when x (when b (eqb v 0) true) false
    go true x e = none x (eqb v 0) e refl
    go false true e = e
    go false false e = e

last-most : (top kind : ℕ) → last_of top kind ≤ top
unfolding last_of
last-most top kind = on (λ (n : ℕ). n ≤ top) (eqb kind transport) (λ e. omega arith) (λ e. omega arith)

-- ---- the places of a run: those before p are passed

module _ (u top : ℕ) (shelves : Range) (es : List ℕ) (kind first end : ℕ) where
  -- the place that lies i behind the first
  abbrev passes : ℕ → Bool
  passes i = passes_at u (last_of top kind) shelves es kind (first + i)

  pub record Passing (seen : List ℕ) (empty p : ℕ) : Type 0 where
    pub begun : first ≤ p
    pub far : p ≤ end
    pub few : empty ≤ p
    pub counted : empty + empty_from es p (end - p) ≡ empty_from es first (end - first)
    pub so_far : below (p - first) passes ≡ true
    pub marks : Marks es p seen

  -- what the code tells of the run
  abbrev told : Option ℕ
  told = when (passes_from u (last_of top kind) shelves es kind first (end - first)) (Some (empty_from es first (end - first))) None

  pub pass_begins : (seen : List ℕ) → Run es first end seen → Passing seen 0 first
  unfolding below
  pass_begins seen run =
      let z : first - first ≡ 0 = omega arith in
      record {
        begun = omega arith;
        far = run.in_order;
        few = omega arith;
        counted = zero-add (empty_from es first (end - first));
        so_far = rw z;
        marks = run.before;
      }

  module _ (seen : List ℕ) (empty p : ℕ) (at : Passing seen empty p) where
    -- the code's test b of the element by itself
    module _ (h : p < end) (last : ℕ) (limit : last ≡ last_of top kind) (b : Bool) (is : b ≡ fit_by u last shelves es kind p) where
      here : passes (p - first) ≡ all_of (b ∷ once es p ∷ [])
      unfolding passes_at
      here =
          let e : first + (p - first) ≡ p = omega (arith, at.begun) in
          rw (e, is, limit)

      stops : passes (p - first) ≡ false → None ≡ told
      unfolding passes_from when
      stops e =
          let f : passes_from u (last_of top kind) shelves es kind first (end - first) ≡ false = below_fails (end - first) passes (p - first) (omega (arith, at.begun)) e in
          rw f

      goes : (s : List ℕ) (n : ℕ) → passes (p - first) ≡ true → Marks es (p + 1) s
          → n ≡ empty + when (eqb (volume es p) 0) 1 0 → Passing s n (p + 1)
      unfolding when
      goes s n e m c =
          let i : p + 1 - first ≡ p - first + 1 = omega (arith, at.begun) in
          record {
            begun = omega (arith, at.begun);
            far = omega arith;
            few = omega (arith, at.few, counts-most (eqb (volume es p) 0) 1);
            counted = omega (arith, at.counted, empty-next es p end h);
            so_far = rw i (below_step (p - first) passes ∙ rw (e, at.so_far));
            marks = m;
          }

      pub pass_unfit : b ≡ false → None ≡ told
      unfolding all_of when
      pass_unfit t = stops (here ∙ rw t)

      -- it fits, and its volume is v
      module _ (t : b ≡ true) (v : ℕ) (reads : v ≡ volume es p) (small : top ≤ most_volumes) where
        left : passes (p - first) ≡ once es p
        unfolding all_of when
        left = here ∙ rw t (same (once es p))

        pub volume_most : v ≤ most_volumes
        unfolding fit_by
        volume_most =
            let l : volume es p ≤ last = leb-true (volume es p) last (all_first _ _ (sym is ∙ t)) in
            omega (arith, last-most top kind)

        -- the code's test, whether it had no mark
        module _ (some : v ≢ 0) (room : most_volumes < 64 * length seen) (fresh : Bool) (test : fresh ≡ not (marked seen v)) where
          there : v < 64 * length seen
          there = omega (arith, volume_most)

          pub pass_twice : fresh ≡ false → None ≡ told
          pass_twice d = stops (left ∙ stands-twice es seen p v at.marks reads some there fresh test d)

          pub pass_new : fresh ≡ true → Passing (marking seen v) empty (p + 1)
          unfolding when
          pass_new d =
              goes (marking seen v) empty
              (left ∙ stands-once es seen p v at.marks reads some there fresh test d)
              (mark-new es seen p v at.marks reads some there)
              (rw (← reads, ne_eqb v 0 some) (omega arith))

        pub pass_empty : v ≡ 0 → Passing seen (empty + 1) (p + 1)
        unfolding when
        pass_empty e =
            goes seen (empty + 1)
            (left ∙ stands-none es seen p v at.marks reads e)
            (mark-none es seen p v at.marks reads e)
            (rw (← reads, eq-eqb v 0 e))

    pub pass_all : end ≤ p → Some empty ≡ told
    unfolding when empty_from passes_from
    pass_all h =
        let e : p ≡ end = omega (arith, at.far) in
        let f : passes_from u (last_of top kind) shelves es kind first (end - first) ≡ true = rw (← e) at.so_far in
        let z : end - p ≡ 0 = omega arith in
        let c = rw z at at.counted in
        let n : empty ≡ empty_from es first (end - first) = omega arith in
        rw (f, n)

    pub all_marked : end ≤ p → Marks es end seen
    all_marked h = let e : p ≡ end = omega (arith, at.far) in rw (← e) at.marks

-- ---- a run of one type: its places pass where they are sound

-- a storage address is one of the range that has the shelves
source_is : (ss : List Slot) (shelves : Range) → Shelved ss shelves → (v s : ℕ) → source_sound ss v s ≡ source_in shelves v s
unfolding source_sound source_in
source_is ss shelves has v s = rw (has s)

module _ (u top : ℕ) (ss : List Slot) (shelves : Range) (has : Shelved ss shelves) (es : List ℕ) (kind : ℕ) where
  whole : (p : ℕ) → kind_at ss p ≡ kind → sound_at u top ss es p ≡ passes_at u (last_of top kind) shelves es kind p
  unfolding sound_at stock_sound passes_at fit_by ending_sound all_of when
  whole p e =
      rw (e, last-is (volume es p) top kind, source_is ss shelves has (volume es p) (source es p))
      (go (leb (volume es p) top) (transport_empty kind (volume es p)) (source_in shelves (volume es p) (source es p)) (mark_sound kind (volume es p) (mark es p))
      (hold_sound u (holder es p) (id es p)) (eqb (zero_byte es p) 0) (once es p))
    where
      go : (a b s m h z o : Bool)
          → all_of (all_of (a ∷ b ∷ s ∷ m ∷ []) ∷ h ∷ z ∷ o ∷ [])
          ≡ all_of (all_of (when a b false ∷ s ∷ all_of (m ∷ z ∷ []) ∷ h ∷ []) ∷ o ∷ [])
      go true true true true true true o = refl
      go true true true true true false o = refl
      go true true true true false true o = refl
      go true true true true false false o = refl
      go true true true false h z o = refl
      go true true false m h z o = refl
      go true false s m h z o = refl
      go false b s m h z o = refl

  module _ (first n : ℕ) (one_type : (p : ℕ) → first ≤ p → p < first + n → kind_at ss p ≡ kind) where
    at_place : (i : ℕ) → i < n → sound_at u top ss es (first + i) ≡ passes_at u (last_of top kind) shelves es kind (first + i)
    at_place i h = whole (first + i) (one_type (first + i) (omega arith) (omega arith))

    -- those before the run are sound: so are those before its end
    pub run_on : sound_to u top ss es first ≡ true → passes_from u (last_of top kind) shelves es kind first n ≡ true → sound_to u top ss es (first + n) ≡ true
    unfolding sound_to passes_from
    run_on before e =
        below_of (first + n) (sound_at u top ss es) (λ p h. go (ltb p first) p refl h)
      where
        go : (b : Bool) (p : ℕ) → ltb p first ≡ b → p < first + n → sound_at u top ss es p ≡ true
        go true p t h = below_at first (sound_at u top ss es) before p (ltb-true p first t)
        go false p t h =
            let l = ltb-false p first t in
            let i : first + (p - first) ≡ p = omega arith in
            rw (← i) (at_place (p - first) (omega arith) ∙ below_at n _ e (p - first) (omega arith))

    -- all up to a place behind it are sound: so is each of the run
    pub run-back : (end : ℕ) → first + n ≤ end → sound_to u top ss es end ≡ true → passes_from u (last_of top kind) shelves es kind first n ≡ true
    unfolding sound_to passes_from
    run-back end l e = below_of n _ (λ i h. sym (at_place i h) ∙ below_at end (sound_at u top ss es) e (first + i) (omega arith))

-- ---- one run after the other: the first k are passed, and the places before `first`; the empty shelves among them are counted

walk_first : (r : Range) (rs : List Range) (i : ℕ) → i < r.count → walk (r ∷ rs) i ≡ r.kind
unfolding walk when
walk_first r rs i h = rw (lt-ltb i r.count h)

walk-later : (r : Range) (rs : List Range) (i : ℕ) → walk (r ∷ rs) (r.count + i) ≡ walk rs i
unfolding walk when
walk-later r rs i =
    let e : r.count + i - r.count ≡ i = omega arith in
    rw (le-ltb (r.count + i) r.count (omega arith), e)

module _ (u top : ℕ) (shelves : Range) (runs : List Code) (es : List ℕ) where
  pub record Filing (seen : List ℕ) (empty first k : ℕ) : Type 0 where
    pub far : k ≤ 4
    pub few : empty ≤ first
    pub counted : empty + empty_shelves (spread first (drop k (meant runs))) es ≡ empty_shelves (laid runs) es
    pub long : first + total (drop k (meant runs)) ≡ length (laid runs)
    pub rest : (i : ℕ) → kind_at (laid runs) (first + i) ≡ walk (drop k (meant runs)) i
    pub so_far : sound_to u top (laid runs) es first ≡ true
    pub marks : Marks es first seen

  -- what the code tells of all
  abbrev filed : Option ℕ
  filed = when (sound_to u top (laid runs) es (length (laid runs))) (Some (empty_shelves (laid runs) es)) None

  pub file-begins : (seen : List ℕ) → Marks es 0 seen → Filing seen 0 0 0
  unfolding sound_to below laid
  file-begins seen m =
      record {
        far = omega arith;
        few = omega arith;
        counted = zero-add (empty_shelves (laid runs) es);
        long = rw zero-add (sym (laid-length runs));
        rest = λ i. rw zero-add (laid-at runs i);
        so_far = refl;
        marks = m;
      }

  module _ (four : length runs ≡ 4) (seen : List ℕ) (empty first k : ℕ) (at : Filing seen empty first k) where
    module _ (h : k < 4) where
      fits : first + (get_or runs k none).count + total (drop (suc k) (meant runs)) ≡ length (laid runs)
      unfolding total
      fits = let e = rw (meant-from runs k four h) at at.long in omega arith

      file-most : first + (get_or runs k none).count ≤ length (laid runs)
      file-most = omega (arith, fits)

      here-kind : (p : ℕ) → first ≤ p → p < first + (get_or runs k none).count → kind_at (laid runs) p ≡ (get_or runs k none).kind
      here-kind p l m =
          let i = p - first in
          let e : first + i ≡ p = omega arith in
          rw (← e)
          (at.rest i ∙ rw (meant-from runs k four h) (walk_first (meaning (get_or runs k none)) (drop (suc k) (meant runs)) i (omega arith)))

      pub file-run : length es ≡ element_size * length (laid runs) → Run es first (first + (get_or runs k none).count) seen
      file-run e =
          record {
            in_order = omega arith;
            there = let w = file-most in omega arith;
            before = at.marks;
          }

      -- what the pass over the run told
      abbrev passed : Bool
      passed = passes_from u (last_of top (get_or runs k none).kind) shelves es (get_or runs k none).kind first (first + (get_or runs k none).count - first)

      module _ (has : Shelved (laid runs) shelves) where
        module _ (n : ℕ) (is : Some n ≡ when passed (Some (empty_from es first (first + (get_or runs k none).count - first))) None) where
          told-of : (passed ≡ true) × (n ≡ empty_from es first (get_or runs k none).count)
          told-of =
              let z : first + (get_or runs k none).count - first ≡ (get_or runs k none).count = omega arith in
              let t = some_tells _ _ n is in
              (t.0, rw z at t.1)

          pub file-fits : empty + n ≤ length (laid runs)
          file-fits = omega (arith, at.few, told-of.1, empty-most es first (get_or runs k none).count, file-most)

          pub file-on : (s : List ℕ) → Marks es (first + (get_or runs k none).count) s
              → (m : ℕ) → m ≡ empty + when (eqb (get_or runs k none).kind storage) n 0
              → Filing s m (first + (get_or runs k none).count) (k + 1)
          unfolding spread
          file-on s w m c =
              let r = get_or runs k none in
              let z : first + r.count - first ≡ r.count = omega arith in
              let behind = spread (first + r.count) (drop (suc k) (meant runs)) in
              let whole = rw (meant-from runs k four h) at at.counted in
              let split = shelves-of es r.count r.kind r.first first behind in
              let here = rw told-of.1 at c in
              record {
                far = omega arith;
                few = omega (arith, at.few, counts-most (eqb r.kind storage) n, told-of.1, empty-most es first r.count);
                counted = rw add-one (omega (arith, whole, split, here));
                long = rw add-one fits;
                rest = λ i.
                    rw (add_assoc, add-one)
                    (at.rest ((get_or runs k none).count + i) ∙ rw (meant-from runs k four h) (walk-later (meaning (get_or runs k none)) (drop (suc k) (meant runs)) i));
                so_far = run_on u top (laid runs) shelves has es r.kind first r.count here-kind at.so_far (rw z at told-of.0);
                marks = w;
              }

        pub file-stops : None ≡ when passed (Some (empty_from es first (first + (get_or runs k none).count - first))) None → None ≡ filed
        unfolding when
        file-stops e = go (sound_to u top (laid runs) es (length (laid runs))) refl
          where
            go : (x : Bool) → sound_to u top (laid runs) es (length (laid runs)) ≡ x → None ≡ when x (Some (empty_shelves (laid runs) es)) None
            go true f =
                let r = get_or runs k none in
                let z : first + r.count - first ≡ r.count = omega arith in
                let yes : passed ≡ true = rw z (run-back u top (laid runs) shelves has es r.kind first r.count here-kind (length (laid runs)) file-most f) in
                let no : passed ≡ false = none_tells _ _ e in
                let w : true ≡ false = sym yes ∙ no in cc
            go false f = refl

    pub file-ends : 4 ≤ k → Some empty ≡ filed
    unfolding total spread empty_shelves when
    file-ends h =
        let e = rw (meant-end runs k four h) at at.long in
        let d : first ≡ length (laid runs) = omega arith in
        let c = rw (meant-end runs k four h) at at.counted in
        let n : empty ≡ empty_shelves (laid runs) es = omega arith in
        let s : sound_to u top (laid runs) es (length (laid runs)) ≡ true = rw (← d) at.so_far in
        rw (s, n)
