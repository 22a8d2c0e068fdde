-- Import and export judged as the code does it, return by return. Assumes nothing.
use Prim.Native.Nat.{ℕ, ◌+◌, ◌<◌, ◌≤◌}
use mathlib.Core.Path.{◌≡◌, refl, sym, ap, ◌∙◌}
use mathlib.Core.Logic.{◌≢◌}
use mathlib.Core.Bool.{Bool, true, false}
use mathlib.Core.List.{List, [], ◌∷◌}
use lib.ListN.{length}
use borrow.Author.Tests.{eqb-true, eqb-false, eq-eqb, ne_eqb, lt-ltb, le-ltb, ltb-false}
use Rattle.rules.specs.Choice.{when, any_of}
use Rattle.rules.specs.Tables.{Tables, element_size, element_at, places, mask, volume, volumes, Fill, Announce}
use Rattle.rules.specs.Roster.{Slot, roster, place_of}
use Rattle.rules.specs.Sound.{sound}
use Rattle.rules.specs.Order.{Verdict, Number, Prevented, outcome, volume_of}
use Rattle.rules.specs.Events.{preventers, lowest, at_port, present, wrong_volume, done, importing, exporting}
use lib.Dec.{eqb}
use Rattle.rules.proofs.Ladder.{yes, no, eq_is, eq-not, differ-is, differ-not, any-first, any-rest, any-by-first, any-by-rest, test-is}
use Rattle.tables.specs.declared.Range.{Range}
use Rattle.std.specs.Prelude.{Option, Some, None, Result, Ok, Err}
use Rattle.tables.specs.declared.Types.TheVariants.{Port}
use Rattle.tables.specs.Ranges.{laid, Runs}
use Rattle.tables.specs.LookUp.{found}
use Rattle.tables.proofs.Roster.{runs-laid}
use Rattle.tables.proofs.LookUp.{at_place, at_room, at-within, no-port-is, passes, fails}
use Rattle.order.specs.declared.House.{House}
use Rattle.order.specs.declared.House.TheVariants as house
use Rattle.order.specs.Ending.{ended, numbered}
use Rattle.ports.specs.Judged.{prevented_by, port_by, refusal, Ported}

-- ---- number 9: the code read V as n

module _ (t : Tables) (v : ℕ) where
  pub wrong-zero : v ≡ 0 → true ≡ wrong_volume t v
  unfolding wrong_volume
  wrong-zero e = sym (any-by-first _ _ (eq-eqb v 0 e))

  module _ (n : ℕ) (top : n ≡ volumes t.rest.tags) where
    pub wrong-above : n < v → true ≡ wrong_volume t v
    unfolding wrong_volume
    wrong-above l = sym (any-by-rest _ _ (any-by-first _ _ (lt-ltb (volumes t.rest.tags) v (rw top at l))))

    pub wrong-present : v ≢ 0 → v ≤ n → (r : Bool) → r ≡ present t.elements v → r ≡ wrong_volume t v
    unfolding wrong_volume any_of when
    wrong-present d l r e = rw (ne_eqb v 0 d, le-ltb (volumes t.rest.tags) v (rw top at l)) (e ∙ test-is (present t.elements v))

  -- a volume number that is not wrong is at most V
  pub right-small : (r : Bool) → r ≡ wrong_volume t v → r ≡ false → v ≤ volumes t.rest.tags
  unfolding wrong_volume
  right-small r is e = ltb-false (volumes t.rest.tags) v (any-first _ _ (any-rest _ _ (sym is ∙ e)))

-- ---- numbers 6 to 9

-- the code looked the address a up in the runs
module _ (runs : List Range) (a : ℕ) (g : Option ℕ) (looked : g ≡ found Port (laid runs) a) where
  there : (head : List ℕ) → Runs runs head → g ≡ found Port (roster head) a
  there head made = looked ∙ ap (λ (ss : List Slot). found Port ss a) (runs-laid runs head made)

  -- the place that was found is one of the table
  module _ (head elements : List ℕ) (asked : Ported runs head elements) (p : ℕ) (e : g ≡ Some p) where
    pub port-room : element_at p + element_size ≤ length elements
    port-room = at_room Port _ a g (there head asked.runs-are) p e (length elements) asked.elements-long

    pub port-within : p < places elements
    port-within = at-within Port _ a g (there head asked.runs-are) p e elements asked.elements-long

  module _ (t : Tables) (made : Runs runs t.head) (s : sound t ≡ true) where
    is : g ≡ found Port (roster t.head) a
    is = there t.head made

    pub elsewhere : g ≡ None → (rest : Verdict) → Number 6 ≡ at_port t a rest
    unfolding at_port
    elsewhere e rest = yes _ _ _ _ _ refl s (yes _ _ _ _ _ refl (fails Port _ a _ (no-port-is t a) g is e) refl)

    module _ (p : ℕ) (e : g ≡ Some p) (m : ℕ) (masks : m ≡ mask t.head) where
      pub locked : m ≢ 0 → (rest : Verdict) → Prevented (preventers m) (lowest m) ≡ at_port t a rest
      unfolding at_port
      locked d rest =
          yes _ _ _ _ _ refl s
          (no _ _ _ _ _ refl (passes Port _ a _ (no-port-is t a) g is p e)
          (differ-is _ _ _ _ _ (λ z. d (masks ∙ z)) (ap (λ (x : ℕ). Prevented (preventers x) (lowest x)) masks)))

      module _ (unlocked : m ≡ 0) where
        past : (w rest : Verdict) → w ≡ rest → w ≡ at_port t a rest
        unfolding at_port
        past w rest q =
            yes _ _ _ _ _ refl s
            (no _ _ _ _ _ refl (passes Port _ a _ (no-port-is t a) g is p e) (differ-not _ _ _ _ _ (sym masks ∙ unlocked) q))

        filled-there : (v k : ℕ) → done (Fill p v 0 k ∷ Announce 0x28 0x01 ∷ []) ≡ done (Fill (place_of (roster t.head) a) v 0 k ∷ Announce 0x28 0x01 ∷ [])
        filled-there v k = rw (at_place Port _ a g is p e)

        -- the volume v that the code read there
        module _ (v : ℕ) (holds : v ≡ volume t.elements p) where
          here : volume_of t a ≡ v
          unfolding volume_of
          here = sym (holds ∙ ap (volume t.elements) (at_place Port _ a g is p e))

          pub export-empty : v ≡ 0 → Number 8 ≡ exporting t a
          unfolding exporting
          export-empty z = past _ _ (eq_is _ _ _ _ _ (here ∙ z) refl)

          pub export-full : v ≢ 0 → done (Fill p 0 0 0 ∷ Announce 0x28 0x01 ∷ []) ≡ exporting t a
          unfolding exporting
          export-full d = past _ _ (eq-not _ _ _ _ _ (λ z. d (sym here ∙ z)) (filled-there 0 0))

          -- the volume number w that is to come in
          module _ (w : ℕ) where
            pub import-full : v ≢ 0 → Number 8 ≡ importing t a w
            unfolding importing
            import-full d = past _ _ (differ-is _ _ _ _ _ (λ z. d (sym here ∙ z)) refl)

            module _ (z : v ≡ 0) (r : Bool) (wrong : r ≡ wrong_volume t w) where
              pub import-wrong : r ≡ true → Number 9 ≡ importing t a w
              unfolding importing
              import-wrong q = past _ _ (differ-not _ _ _ _ _ (here ∙ z) (yes _ _ _ _ _ wrong q refl))

              pub import-right : r ≡ false → done (Fill p w 0 1 ∷ Announce 0x28 0x01 ∷ []) ≡ importing t a w
              unfolding importing
              import-right q = past _ _ (differ-not _ _ _ _ _ (here ∙ z) (no _ _ _ _ _ wrong q (filled-there w 1)))

-- ---- numbers 6 and 7 as the code finds them: the answer r

module _ (runs : List Range) (a : ℕ) (m : ℕ) (r : Result ℕ House) (is : r ≡ port_by (found Port (laid runs) a) m) where
  opened-by : (g : Option ℕ) → (p : ℕ) → Ok p ≡ port_by g m → (g ≡ Some p) × (m ≡ 0)
  unfolding port_by when
  opened-by None p e = cc
  opened-by (Some q) p e = go (eqb m 0) refl e
    where
      go : (b : Bool) → eqb m 0 ≡ b → Ok p ≡ when b (Ok q) (Err (prevented_by m)) → (Some q ≡ Some p) × (m ≡ 0)
      go true d w = (let x : q ≡ p = cc in ap Some x, eqb-true m 0 d)
      go false d w = cc

  pub opened : (p : ℕ) → r ≡ Ok p → (found Port (laid runs) a ≡ Some p) × (m ≡ 0)
  opened p e = opened-by (found Port (laid runs) a) p (sym e ∙ is)

  module _ (t : Tables) (made : Runs runs t.head) (s : sound t ≡ true) (masks : m ≡ mask t.head) (rest : Verdict) where
    shut-by : (g : Option ℕ) → g ≡ found Port (laid runs) a → (why : House) → Err why ≡ port_by g m → refusal why ≡ at_port t a rest
    unfolding port_by refusal when
    shut-by None d why e = let x : why ≡ house.UnknownPort = cc in rw x (elsewhere runs a None d t made s refl rest)
    shut-by (Some q) d why e = go (eqb m 0) refl e
      where
        go : (b : Bool) → eqb m 0 ≡ b → Err why ≡ when b (Ok q) (Err (prevented_by m)) → refusal why ≡ at_port t a rest
        go true z w = cc
        go false z w = let x : why ≡ prevented_by m = cc in rw x (locked runs a (Some q) d t made s q refl m masks (eqb-false m 0 z) rest)

    pub shut : (why : House) → r ≡ Err why → refusal why ≡ at_port t a rest
    shut why e = shut-by (found Port (laid runs) a) refl why (sym e ∙ is)

-- ---- a house number is what the reply tells

pub refused-ends : (t : Tables) (buffer : List ℕ) (why : House) → ended (numbered why) t buffer ≡ outcome t buffer (refusal why)
unfolding numbered outcome refusal
refused-ends t buffer house.UnsoundTables = refl
refused-ends t buffer house.UnknownHost = refl
refused-ends t buffer house.BlockLength = refl
refused-ends t buffer house.ParameterLength = refl
refused-ends t buffer house.ShortBuffer = refl
refused-ends t buffer house.UnknownPort = refl
refused-ends t buffer (house.Prevented n h) = refl
refused-ends t buffer house.PortContent = refl
refused-ends t buffer house.WrongVolume = refl
