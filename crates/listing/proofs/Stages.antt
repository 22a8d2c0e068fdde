-- The invariants of the two loops over the ranges: what is still to come makes up the whole. Assumes nothing.
use Prim.Native.Nat.{ℕ, ◌+◌, ◌≤◌, ◌<◌}
use native.Mathlib.Numerals.{add-one}
use native.Mathlib.Omega.{arith}
use mathlib.Core.Path.{◌≡◌, refl, sym, ◌∙◌}
use mathlib.Core.List.{List, [], ◌∷◌}
use lib.ListN.{length, get_or, drop, drop_of_length-le}
use lib.Seq.{drop-cons}
use Rattle.rules.specs.Bytes.{put}
use Rattle.rules.specs.Tables.{Tables, element_at}
use Rattle.rules.specs.Roster.{Range as Span}
use Rattle.rules.specs.Ranges.{Each, total}
use Rattle.rules.proofs.Writes.{put-length}
use Rattle.listing.specs.declared.Query.{Query}
use Rattle.listing.specs.declared.Tally.{Tally}
use Rattle.tables.specs.declared.Range.{Range}
use Rattle.tables.specs.Ranges.{meaning, meant}
use Rattle.pages.specs.Pages.{Labelled}
use Rattle.listing.specs.Counting.{Inside, step_of, step_bytes, counted, added, Within}
use Rattle.listing.proofs.Counted.{within_more, stands-first, stands-later, counted-up, write_step, write-none}

-- the ranges from the k-th on
abbrev pub from : List Range → ℕ → List Span
from rs k = meant (drop k rs)

next : (rs : List Range) (k : ℕ) (d : Range) → k < length rs → from rs k ≡ meaning (get_or rs k d) ∷ from rs (k + 1)
unfolding meant
next rs k d h = rw (add-one k, drop-cons rs k d h)

last : (rs : List Range) (k : ℕ) → length rs ≤ k → from rs k ≡ []
unfolding meant
last rs k h = rw (drop_of_length-le rs {i = k} h)

-- ---- counting

pub record Counting (marks : List ℕ) (q : Query) (s₀ : Tally) (rs : List Range) (s : Tally) (k : ℕ) : Type 0 where
  pub same : counted marks q s (from rs k) ≡ counted marks q s₀ (meant rs)
  pub inside : Each Inside (from rs k)
  pub within : Within k s
  pub few : k ≤ length rs

pub counting-begins : (marks : List ℕ) (q : Query) (s : Tally) (rs : List Range) → Each Inside (meant rs) → Within 0 s → Counting marks q s rs s 0
counting-begins marks q s rs i w = record { same = refl; inside = i; within = w; few = omega arith }

module _ (marks : List ℕ) (q : Query) (s₀ : Tally) (rs : List Range) (s : Tally) (k : ℕ) (d : Range) (v : Counting marks q s₀ rs s k) (h : k < length rs) where
  pub counting-here : Inside (meaning (get_or rs k d))
  counting-here = (rw (next rs k d h) at v.inside).0

  pub counting-on : q.start < 65536 → (s' : Tally) → s' ≡ step_of marks q s (meaning (get_or rs k d)) → Counting marks q s₀ rs s' (k + 1)
  unfolding counted
  counting-on b s' e =
      rw e
      (record {
        same = (rw (next rs k d h) at v.same);
        inside = (rw (next rs k d h) at v.inside).1;
        within = within_more marks k q s (meaning (get_or rs k d)) b counting-here v.within;
        few = omega arith;
      })

pub counting-ends : (marks : List ℕ) (q : Query) (s₀ : Tally) (rs : List Range) (s : Tally) (k : ℕ) → Counting marks q s₀ rs s k → length rs ≤ k → s ≡ counted marks q s₀ (meant rs)
unfolding counted
counting-ends marks q s₀ rs s k v h = rw (last rs k h) at v.same

-- ---- writing

pub record Writing (marks : List ℕ) (q : Query) (t : Tables) (s₀ : Tally) (rs : List Range) (l₀ l : List ℕ) (s : Tally) (k : ℕ) : Type 0 where
  pub written : put l s.at (added marks q t s (from rs k)) ≡ put l₀ s₀.at (added marks q t s₀ (meant rs))
  pub long : length l ≡ length l₀
  pub room : (counted marks q s (from rs k)).at ≤ length l₀
  pub stands : element_at (s.place + total (from rs k)) ≤ length t.elements
  pub inside : Each Inside (from rs k)
  pub within : Within k s
  pub few : k ≤ length rs

pub writing_begins : (marks : List ℕ) (q : Query) (t : Tables) (s : Tally) (rs : List Range) (l : List ℕ) → (counted marks q s (meant rs)).at ≤ length l
    → element_at (s.place + total (meant rs)) ≤ length t.elements → Each Inside (meant rs) → Within 0 s → Writing marks q t s rs l l s 0
writing_begins marks q t s rs l r e i w =
    record { written = refl; long = refl; room = r; stands = e; inside = i; within = w; few = omega arith }

module _ (marks : List ℕ) (q : Query) (t : Tables) (ok : Labelled t) (s₀ : Tally) (rs : List Range) (l₀ l : List ℕ) (s : Tally) (k : ℕ) (d : Range)
    (v : Writing marks q t s₀ rs l₀ l s k) (h : k < length rs) where
  pub writing-inside : Inside (meaning (get_or rs k d))
  writing-inside = (rw (next rs k d h) at v.inside).0

  pub writing-room : (step_of marks q s (meaning (get_or rs k d))).at ≤ length l
  unfolding counted
  writing-room =
      let a = rw (next rs k d h) at v.room in
      let b = counted-up marks q t ok (step_of marks q s (meaning (get_or rs k d))) (from rs (k + 1)) in
      let e = v.long in
      omega arith

  pub writing-stands : element_at (s.place + (get_or rs k d).count) ≤ length t.elements
  writing-stands = stands-first marks q t ok s (meaning (get_or rs k d)) (from rs (k + 1)) (rw (next rs k d h) at v.stands)

  pub writing-on : q.start < 65536 → (l' : List ℕ) → l' ≡ put l s.at (step_bytes marks q t s (meaning (get_or rs k d)))
      → (s' : Tally) → s' ≡ step_of marks q s (meaning (get_or rs k d)) → Writing marks q t s₀ rs l₀ l' s' (k + 1)
  unfolding counted
  writing-on b l' f s' e =
      rw (e, f)
      (record {
        written = write_step marks q t ok l s (meaning (get_or rs k d)) (from rs (k + 1)) writing-stands ∙ (rw (next rs k d h) at v.written);
        long = put-length l s.at (step_bytes marks q t s (meaning (get_or rs k d))) ∙ v.long;
        room = rw (next rs k d h) at v.room;
        stands = stands-later marks q t ok s (meaning (get_or rs k d)) (from rs (k + 1)) (rw (next rs k d h) at v.stands);
        inside = (rw (next rs k d h) at v.inside).1;
        within = within_more marks k q s (meaning (get_or rs k d)) b writing-inside v.within;
        few = omega arith;
      })

pub writing-ends : (marks : List ℕ) (q : Query) (t : Tables) (ok : Labelled t) (s₀ : Tally) (rs : List Range) (l₀ l : List ℕ) (s : Tally) (k : ℕ)
    → Writing marks q t s₀ rs l₀ l s k → length rs ≤ k → l ≡ put l₀ s₀.at (added marks q t s₀ (meant rs))
writing-ends marks q t ok s₀ rs l₀ l s k v h = sym (write-none marks q t ok l s) ∙ (rw (last rs k h) at v.written)
