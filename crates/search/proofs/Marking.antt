-- The runs one after the other: their marks are what the rules find. Assumes nothing.
use Prim.Native.Nat.{ℕ, zero, suc, ◌+◌, ◌*◌, ◌-◌, ◌<◌, ◌≤◌}
use native.Mathlib.Nat.{zero-add, add-zero}
use native.Mathlib.Numerals.{add-one}
use native.Mathlib.Omega.{arith}
use mathlib.Core.Path.{◌≡◌, refl, ◌∙◌}
use mathlib.Core.Bool.{Bool, true, false, not}
use mathlib.Core.List.{List, [], ◌∷◌, ◌++◌}
use lib.ListN.{length, get_or, take, drop}
use lib.Dec.{eqb}
use Rattle.rules.specs.Choice.{when, all_of, differ}
use Rattle.rules.specs.Bytes.{byte}
use Rattle.rules.specs.Tables.{Tables, tag_size, volume, search_type, action}
use Rattle.rules.specs.Roster.{Slot, slots, spread}
use Rattle.rules.specs.Ranges.{total}
use Rattle.rules.specs.Listing.{label, of_type}
use Rattle.rules.specs.Search.{label_matches, volume_matches, found}
use Rattle.tables.specs.declared.Range.{Range as Code}
use Rattle.tables.specs.Ranges.{meaning, meant}
use Rattle.tables.proofs.Sort.{none, meant-from, meant-end}
use Rattle.search.specs.Marks.{Shows, Marked, Sought, Searchable, volume_fits, looks_for, finds, slot, RunMarked, RunSearchable}

-- ---- what is found hangs on elements, labels and search alone

fits-is : (t : Tables) (v : ℕ) → volume_matches t v ≡ volume_fits t.rest.tags t.rest.search v
unfolding volume_matches volume_fits label differ all_of when
fits-is t v = go (eqb v 0) (take tag_size (drop (tag_size * (v - 1)) t.rest.tags))
  where
    go : (b : Bool) (own : List ℕ)
        → when (not b) (when (label_matches t.rest.search (when b t.rest.blank own)) true false) false
        ≡ when (not b) (when (label_matches t.rest.search own) true false) false
    go true own = refl
    go false own = refl

found-is : (t : Tables) (s : Slot) → found t s ≡ finds t.elements t.rest.tags t.rest.search s
unfolding found finds looks_for all_of when
found-is t s =
    rw (fits-is t (volume t.elements s.place))
    (go (differ (action t.rest.search) 0) (of_type (search_type t.rest.search) s) _)
  where
    go : (a b z : Bool) → when a (when b z false) false ≡ when (when a (when b true false) false) z false
    go true true z = refl
    go true false z = refl
    go false b z = refl

found-by : (t : Tables) (es tags search : List ℕ) → Sought t es tags search → (s : Slot) → finds es tags search s ≡ found t s
found-by t es tags search w s = rw (found-is t s, w.elements-is, w.tags-is, w.search_is)

shows-as : (f g : Slot → Bool) → ((s : Slot) → f s ≡ g s) → (marks : List ℕ) (ss : List Slot) → Shows f marks ss → Shows g marks ss
shows-as f g e marks [] w = w
shows-as f g e marks (s ∷ ss) w = (w.0 ∙ e s, shows-as f g e marks ss w.1)

-- ---- the elements of a run before others

shows-run : (f : Slot → Bool) (marks : List ℕ) (n k a p : ℕ) (rest : List Slot)
    → ((i : ℕ) → i < n → differ (byte marks (p + i)) 0 ≡ f (slot k (a + i) (p + i))) → Shows f marks rest
    → Shows f marks (slots k a p n ++ rest)
unfolding slots
shows-run f marks zero k a p rest h w = w
shows-run f marks (suc n) k a p rest h w = (
  simp add-zero at (h 0 (omega arith)),
  shows-run f marks n k (suc a) (suc p) rest
      (λ i l.
      let d : p + suc i ≡ suc p + i = omega arith in
      let e : a + suc i ≡ suc a + i = omega arith in
      rw (d, e) at (h (suc i) (omega arith)))
      w,
)

-- ---- run after run: k are marked, which have the places before `place`

module _ (runs : List Code) (es tags search marks₀ : List ℕ) where
  pub record Marking (marks : List ℕ) (place k : ℕ) : Type 0 where
    pub far : k ≤ 4
    pub long : place + total (drop k (meant runs)) ≡ total (meant runs)
    pub as_long : length marks ≡ length marks₀
    pub unmarked : (q : ℕ) → place ≤ q → byte marks q ≡ 0
    -- marks that go on from here show the whole, if they show the rest
    pub so_far : (m : List ℕ) → ((q : ℕ) → q < place → byte m q ≡ byte marks q)
        → Shows (finds es tags search) m (spread place (drop k (meant runs))) → Shows (finds es tags search) m (spread 0 (meant runs))

  module _ (pre : Searchable (meant runs) es tags marks₀) where
    pub marking_begins : Marking marks₀ 0 0
    marking_begins =
        record {
          far = omega arith;
          long = zero-add (total (meant runs));
          as_long = refl;
          unmarked = λ q h. pre.unmarked q;
          so_far = λ m e w. w;
        }

    module _ (four : length runs ≡ 4) (marks : List ℕ) (place k : ℕ) (at : Marking marks place k) where
      module _ (h : k < 4) where
        here : place + (get_or runs k none).count + total (drop (suc k) (meant runs)) ≡ total (meant runs)
        unfolding total
        here = let e = rw (meant-from runs k four h) at at.long in omega arith

        pub marking-run : RunSearchable (meaning (get_or runs k none)) place es tags marks
        marking-run =
            let e = here in
            let stands = pre.stands in
            let enough = pre.enough in
            let l = at.as_long in
            record {
              stands = omega arith;
              labels = pre.labels;
              enough = omega arith;
              unmarked = at.unmarked;
            }

        pub marking-on : (m : List ℕ) → length m ≡ length marks → RunMarked (meaning (get_or runs k none)) place es tags search marks m
            → Marking m (place + (get_or runs k none).count) (k + 1)
        unfolding spread
        marking-on m l w =
            let r = get_or runs k none in
            record {
              far = omega arith;
              long = rw add-one here;
              as_long = l ∙ at.as_long;
              unmarked = λ q g. w.behind q g ∙ at.unmarked q (omega arith);
              so_far = λ n e s.
                  at.so_far n (λ q g. e q (omega arith) ∙ w.ahead q g)
                  (rw (meant-from runs k four h)
                  (shows-run (finds es tags search) n r.count r.kind r.first place (spread (place + r.count) (drop (suc k) (meant runs)))
                  (λ i g. rw (e (place + i) (omega arith)) (w.inside i g))
                  (rw add-one at s)));
            }

        pub place-small : place + (get_or runs k none).count ≤ length marks₀
        place-small = let e = here in let f = pre.enough in omega arith

      pub marking-ends : 4 ≤ k → (t : Tables) → Sought t es tags search → Marked t marks (spread 0 (meant runs))
      unfolding spread
      marking-ends h t w =
          shows-as (finds es tags search) (found t) (found-by t es tags search w) marks (spread 0 (meant runs))
          (at.so_far marks (λ q g. refl) (rw (meant-end runs k four h) tt))
