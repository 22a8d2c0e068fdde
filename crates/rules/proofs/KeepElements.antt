-- Each write of the element table leaves a sound one sound. Assumes nothing.
use Prim.Native.Nat.{ℕ, ◌+◌, ◌<◌, ◌≤◌}
use native.Mathlib.Omega.{arith}
use mathlib.Core.Path.{◌≡◌, refl, ◌∙◌}
use mathlib.Core.Logic.{◌≢◌}
use mathlib.Core.List.{List}
use lib.ListN.{length}
use Rattle.rules.specs.Tables.{element_size, element_at, places, volume, holder, filled, held_at, held, Whose, freed_at, freed}
use Rattle.rules.specs.Roster.{Slot, kind_at, transport}
use Rattle.rules.proofs.Ladder.{on, either, each_keeps}
use Rattle.rules.proofs.ElementFields.{filled-length, volume-else, source-else, mark-else, filled-holder, filled-id, filled_zero, filled-volume, filled-source, filled-mark, HoldsAlone, volume-alone, source-alone, mark-alone, zero-alone, held_at-length, held_at-else, held_at-holder, held_at-id, holder-else, id-else}
use Rattle.rules.proofs.Soundness.{ShelfOrNone, StockFits, HoldFits, ElementsFit}

module _ (ss : List Slot) (u top : ℕ) (es : List ℕ) (f : ElementsFit ss u top es) where
  -- a place of the roster lies in the table
  pub place-long : (p : ℕ) → p < length ss → element_at p + element_size ≤ length es
  place-long p h = omega (arith, f.length-is)

  -- ---- an element filled with what fits there and stands nowhere else

  module _ (p v s m : ℕ) (h : p < length ss) where
    pub fill-fits : StockFits top ss (kind_at ss p) v s m → (v ≢ 0 → (q : ℕ) → q < length ss → q ≢ p → volume es q ≢ v)
        → ElementsFit ss u top (filled es p v s m)
    fill-fits x fresh =
        record {
          length-is = filled-length es p v s m ∙ f.length-is;
          stocks = λ q i.
              either q p (λ e. rw (e, filled-volume es p v s m n, filled-source es p v s m n, filled-mark es p v s m n) x)
              (λ d. rw (volume-else es p v s m q d, source-else es p v s m q d, mark-else es p v s m q d) (f.stocks q i));
          holds = λ q i. rw (filled-holder es p v s m q, filled-id es p v s m q) (f.holds q i);
          zeros = λ q i. filled_zero es p v s m q ∙ f.zeros q i;
          distinct = apart;
        }
      where
        n : element_at p + element_size ≤ length es
        n = place-long p h

        apart : (a b : ℕ) → a < length ss → b < a → volume (filled es p v s m) a ≢ 0 → volume (filled es p v s m) b ≢ volume (filled es p v s m) a
        apart a b i l z e =
            either a p
            (λ ea.
            let x : volume (filled es p v s m) a ≡ v = rw ea (filled-volume es p v s m n) in
            let y = volume-else es p v s m b (omega arith) in
            fresh (omega arith) b (omega arith) (omega arith) (omega arith))
            (λ na. either b p
            (λ eb.
            let x : volume (filled es p v s m) b ≡ v = rw eb (filled-volume es p v s m n) in
            let y = volume-else es p v s m a na in
            fresh (omega arith) a i na (omega arith))
            (λ nb.
            let x = volume-else es p v s m a na in
            let y = volume-else es p v s m b nb in
            f.distinct a b i l (omega arith) (omega arith)))

  -- ---- an element held or freed

  module _ (h i p : ℕ) (x : HoldFits u h i) where
    alone : HoldsAlone es (held_at h i p es)
    alone j d = held_at-else h i p es j (d p)

    pub held_at-fits : ElementsFit ss u top (held_at h i p es)
    held_at-fits =
        record {
          length-is = held_at-length h i p es ∙ f.length-is;
          stocks = λ q l. rw (volume-alone es _ alone q, source-alone es _ alone q, mark-alone es _ alone q) (f.stocks q l);
          holds = λ q l.
              either q p (λ e. rw (e, held_at-holder h i p es (place-long p (omega arith)), held_at-id h i p es (place-long p (omega arith))) x)
              (λ d. rw (holder-else h i p es q d, id-else h i p es q d) (f.holds q l));
          zeros = λ q l. zero-alone es _ alone q ∙ f.zeros q l;
          distinct = λ a b l m z e.
              let x = volume-alone es _ alone a in
              let y = volume-alone es _ alone b in
              f.distinct a b l m (omega arith) (omega arith);
        }

  -- another holds the unit
  pub unit-fits : (n : ℕ) → ((p : ℕ) → p < length ss → n ≢ 0 → holder es p ≢ 0 → holder es p ≡ n) → ElementsFit ss n top es
  unit-fits n own =
      record {
        length-is = f.length-is;
        stocks = f.stocks;
        holds = λ p l. record { small = (f.holds p l).small; none-id = (f.holds p l).none-id; unit-own = own p l };
        zeros = f.zeros;
        distinct = f.distinct;
      }

-- n elements held, those of someone freed: one step after another
module _ (ss : List Slot) (u top : ℕ) where
  pub held_fits : (es : List ℕ) (p n h i : ℕ) → ElementsFit ss u top es → HoldFits u h i → ElementsFit ss u top (held es p n h i)
  unfolding held
  held_fits es p n h i f x = each_keeps (ElementsFit ss u top) (held_at h i) n p es (λ q ys _ _ g. held_at-fits ss u top ys g h i q x) f

  no-holder : HoldFits u 0 0
  no-holder = record { small = omega arith; none-id = λ _. refl; unit-own = λ _ n. absurd (n refl) }

  pub freed-fits : (w : Whose) (es : List ℕ) → ElementsFit ss u top es → ElementsFit ss u top (freed w es)
  unfolding freed freed_at
  freed-fits w es f =
      each_keeps (ElementsFit ss u top) (freed_at w) (places es) 0 es
      (λ q ys _ _ g. on (ElementsFit ss u top) _ (λ _. held_at-fits ss u top ys g 0 0 q no-holder) (λ _. g)) f

-- ---- what may stand in a place

pub empty-fits : (top : ℕ) (ss : List Slot) (kind : ℕ) → StockFits top ss kind 0 0 0
empty-fits top ss kind =
    record {
      small = omega arith;
      transport-empty = λ _. refl;
      source-full = λ n. absurd (n refl);
      source-shelf = λ n. absurd (n refl);
      mark-one = λ n. absurd (n refl);
      mark-port = λ n. absurd (n refl);
      mark-full = λ n. absurd (n refl);
    }

-- a volume that the arm brought
pub carried-fits : (top : ℕ) (ss : List Slot) (kind v s : ℕ) → v ≢ 0 → v ≤ top → kind ≢ transport → ShelfOrNone ss s → StockFits top ss kind v s 0
carried-fits top ss kind v s z l k o =
    record {
      small = l;
      transport-empty = λ e. absurd (k e);
      source-full = λ _. z;
      source-shelf = o;
      mark-one = λ n. absurd (n refl);
      mark-port = λ n. absurd (n refl);
      mark-full = λ n. absurd (n refl);
    }
