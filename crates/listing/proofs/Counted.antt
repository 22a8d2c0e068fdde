-- From stand to stand: what a range adds to the counts and to the bytes, and what the ranges come to. Assumes nothing.
use Prim.Native.Nat.{ℕ, zero, suc, ◌+◌, ◌-◌, ◌≤◌, ◌<◌}
use native.Mathlib.Nat.{add-zero, zero-add}
use native.Mathlib.Omega.{arith}
use mathlib.Core.Path.{◌≡◌, refl, sym, ap, ◌∙◌}
use mathlib.Core.List.{List, [], ◌∷◌, ◌++◌}
use lib.ListN.{length, take, length-append}
use lib.Seq.{length-take-le, take_all}
use lib.Dec.{eqb, eqb-suc-zero}
use borrow.Author.Tests.{eqb-true, eq-eqb, ne_eqb}
use Rattle.rules.specs.Choice.{when}
use Rattle.rules.specs.Bytes.{put}
use Rattle.rules.specs.Tables.{Tables, element_at}
use Rattle.rules.specs.Roster.{Slot, Range}
use Rattle.rules.specs.Listing.{page, fitting, wholes, joined, first_address}
use Rattle.rules.specs.Search.{behind_all}
use Rattle.rules.proofs.Ladder.{on, either}
use Rattle.rules.specs.Ranges.{Each, total}
use Rattle.rules.proofs.Writes.{put-append, put-nothing}
use Rattle.pages.specs.Marks.{marked}
use Rattle.pages.specs.Pages.{Labelled, page_bytes}
use Rattle.pages.proofs.Keeping.{take-append}
use Rattle.pages.proofs.Descriptor.{joined-append, page-bytes-few, shown-length, Wide, wide-slots, wide-keep, wide-take}
use Rattle.listing.specs.declared.Query.{Query}
use Rattle.listing.specs.declared.Tally.{Tally}
use Rattle.listing.specs.Plan.{suits, offered, picked_of, room_behind, planned}
use Rattle.listing.specs.Counting.{Inside, picked_at, chosen_at, fitting_at, step_of, step_bytes, counted, added, outset, Within}
use Rattle.listing.proofs.Choosing.{picked}
use Rattle.listing.proofs.Fitting.{fit-page, nothing-fits, whole-page, no-wholes, fit_is, page-length}
use Rattle.listing.proofs.Parts.{picked-few, first-none, first_small, next_small}

-- ---- one range

-- what is chosen of a range and what fits of it are few
pub counts-few : (marks : List ℕ) (q : Query) (s : Tally) (r : Range) → s.number + s.left < 65536
    → (fitting_at marks q s r < 65536) × (chosen_at marks q s r < 65536)
counts-few marks q s r h =
    let a = picked-few marks q s r in
    let d = (fit_is q.tagged s.room (chosen_at marks q s r)).few in
    omega arith

-- a range adds little
pub within_more : (marks : List ℕ) (k : ℕ) (q : Query) (s : Tally) (r : Range) → q.start < 65536 → Inside r → Within k s
    → Within (k + 1) (step_of marks q s r)
unfolding step_of
within_more marks k q s r b i w =
    let a = picked-few marks q s r in
    let f = counts-few marks q s r w.sum in
    let u = page-bytes-few q.tagged (fitting_at marks q s r) f.0 in
    let v = page-bytes-few q.tagged (chosen_at marks q s r) f.1 in
    record {
      place = omega (arith, w.place, i.ends);
      sum = omega (arith, w.sum);
      at = omega (arith, w.at);
      total = omega (arith, w.total);
      first = first_small marks q s r b i w.first;
      next = next_small marks q s r i w.next;
    }

pub within-later : (k m : ℕ) (s : Tally) → k ≤ m → Within k s → Within m s
within-later k m s h w =
    record {
      place = omega (arith, w.place);
      sum = w.sum;
      at = omega (arith, w.at);
      total = omega (arith, w.total);
      first = w.first;
      next = w.next;
    }

pub step-up : (marks : List ℕ) (q : Query) (s : Tally) (r : Range) → s.at ≤ (step_of marks q s r).at
unfolding step_of
step-up marks q s r = omega arith

pub step-place : (marks : List ℕ) (q : Query) (s : Tally) (r : Range) → (step_of marks q s r).place ≡ s.place + r.count
unfolding step_of
step-place marks q s r = refl

pub counted-within : (marks : List ℕ) (k : ℕ) (q : Query) (s : Tally) (rs : List Range) → q.start < 65536 → Each Inside rs → Within k s
    → Within (k + length rs) (counted marks q s rs)
unfolding counted
counted-within marks k q s [] b i w = rw add-zero w
counted-within marks k q s (r ∷ rs) b i w =
    let e : k + suc (length rs) ≡ k + 1 + length rs = omega arith in
    rw e (counted-within marks (k + 1) q (step_of marks q s r) rs b i.1 (within_more marks k q s r b i.0 w))

-- ---- elements told one after the other

behind-append : (a : ℕ) (ss us : List Slot) → behind_all a (ss ++ us) ≡ behind_all (behind_all a ss) us
unfolding behind_all
behind-append a [] us = refl
behind-append a (s ∷ ss) us = behind-append (suc s.address) ss us

-- the first m of a range, and w of those behind it if m are all
take_whole : (m w : ℕ) (ss us : List Slot) → m ≤ length ss → (m < length ss → w ≡ 0) → take (m + w) (ss ++ us) ≡ take m ss ++ take w us
take_whole m w ss us h z =
    either m (length ss)
    (λ e.
    let n : m + w - length ss ≡ w = omega arith in
    take-append (m + w) ss us ∙ rw (take_all (m + w) ss (omega arith), take_all m ss (omega arith), n))
    (λ e.
    let o : w ≡ 0 = z (omega arith) in
    let n : m + 0 - length ss ≡ 0 = omega arith in
    rw (o, add-zero m) (take-append m ss us ∙ rw (rw (add-zero m) at n)))

-- ---- the laws of a listing, over its marks, its query and its tables

module _ (marks : List ℕ) (q : Query) (t : Tables) (ok : Labelled t) where
  -- the pages of ranges from a stand on
  abbrev pub pages_from : Tally → List Range → List (List ℕ)
  pages_from s rs = planned marks q.tagged t q.code q.start s.left s.place rs

  abbrev pub picked_from : Tally → List Range → List Slot
  picked_from s rs = picked marks q.code q.start s.left s.place rs

  -- what is chosen of a range stands in the table
  wide-picked : (s : Tally) (r : Range) → element_at (s.place + r.count) ≤ length t.elements → Wide q.tagged t (picked_at marks q s r)
  unfolding offered
  wide-picked s r h =
      wide-take q.tagged t s.left _
      (on (Wide q.tagged t) (suits q.code r.kind)
      (λ e. wide-keep q.tagged t (marked marks) _ (wide-slots q.tagged t _ _ _ _ ok (λ p. omega arith))) (λ e. tt))

  no_room : (left p : ℕ) (rs : List Range) → fitting 0 (planned marks q.tagged t q.code q.start left p rs) ≡ []
  unfolding planned fitting
  no_room left p [] = refl
  no_room left p (r ∷ rs) = nothing-fits q.tagged t r.kind _ _ (no_room (left - length (picked_of marks q.code q.start left p r)) (p + r.count) rs)

  no_whole : (left p : ℕ) (rs : List Range) → wholes 0 (planned marks q.tagged t q.code q.start left p rs) ≡ 0
  unfolding planned wholes
  no_whole left p [] = refl
  no_whole left p (r ∷ rs) = no-wholes q.tagged t r.kind _ _ (no_whole (left - length (picked_of marks q.code q.start left p r)) (p + r.count) rs)

  -- the bytes that a range adds, and those behind it
  fit-step : (s : Tally) (r : Range) (rs : List Range) → element_at (s.place + r.count) ≤ length t.elements
      → added marks q t s (r ∷ rs) ≡ step_bytes marks q t s r ++ added marks q t (step_of marks q s r) rs
  unfolding added planned step_bytes step_of
  fit-step s r rs h =
      fit-page q.tagged t r.kind (picked_at marks q s r) (fitting_at marks q s r) s.room
      (planned marks q.tagged t q.code q.start (s.left - chosen_at marks q s r) (s.place + r.count) rs) (wide-picked s r h)
      (fit_is q.tagged s.room (chosen_at marks q s r)) (no_room (s.left - chosen_at marks q s r) (s.place + r.count) rs)

  step-length : (s : Tally) (r : Range) → element_at (s.place + r.count) ≤ length t.elements
      → s.at + length (step_bytes marks q t s r) ≡ (step_of marks q s r).at
  unfolding step_bytes step_of
  step-length s r h =
      let f = (fit_is q.tagged s.room (chosen_at marks q s r)).few in
      let w = wide-take q.tagged t (fitting_at marks q s r) (picked_at marks q s r) (wide-picked s r h) in
      ap (λ (x : ℕ). s.at + x)
      (shown-length q.tagged t r.kind (chosen_at marks q s r) (take (fitting_at marks q s r) (picked_at marks q s r)) w
      ∙ ap (page_bytes q.tagged) (length-take-le (fitting_at marks q s r) (picked_at marks q s r) f))

  -- written one after the other, they are written as one
  pub write_step : (l : List ℕ) (s : Tally) (r : Range) (rs : List Range) → element_at (s.place + r.count) ≤ length t.elements
      → put (put l s.at (step_bytes marks q t s r)) (step_of marks q s r).at (added marks q t (step_of marks q s r) rs)
      ≡ put l s.at (added marks q t s (r ∷ rs))
  write_step l s r rs h =
      put-append l s.at (step_of marks q s r).at (step_bytes marks q t s r) (added marks q t (step_of marks q s r) rs) (step-length s r h)
      ∙ ap (put l s.at) (sym (fit-step s r rs h))

  nothing-added : (s : Tally) → added marks q t s [] ≡ []
  unfolding added planned fitting
  nothing-added s = refl

  pub write-none : (l : List ℕ) (s : Tally) → put l s.at (added marks q t s []) ≡ l
  write-none l s = ap (put l s.at) (nothing-added s) ∙ put-nothing l s.at

  pub write-nothing : (l : List ℕ) (s : Tally) (rs : List Range) → s.room ≡ 0 → l ≡ put l s.at (added marks q t s rs)
  unfolding added
  write-nothing l s rs e = sym (ap (put l s.at) (rw e (no_room s.left s.place rs)) ∙ put-nothing l s.at)

  total-step : (s : Tally) (r : Range) (rs : List Range) → element_at (s.place + r.count) ≤ length t.elements
      → s.total + length (joined (pages_from s (r ∷ rs))) ≡ (step_of marks q s r).total + length (joined (pages_from (step_of marks q s r) rs))
  unfolding planned step_of
  total-step s r rs h =
      let x : List (List ℕ) = page q.tagged t r.kind (picked_at marks q s r) in
      let y : List (List ℕ) = planned marks q.tagged t q.code q.start (s.left - chosen_at marks q s r) (s.place + r.count) rs in
      let l = page-length q.tagged t r.kind (picked_at marks q s r) (wide-picked s r h) in
      let j : length (joined (x ++ y)) ≡ length (joined x) + length (joined y) = ap length (joined-append x y) ∙ length-append (joined x) (joined y) in
      omega arith

  number_step : (s : Tally) (r : Range) (rs : List Range)
      → s.number + length (picked_from s (r ∷ rs)) ≡ (step_of marks q s r).number + length (picked_from (step_of marks q s r) rs)
  unfolding picked step_of
  number_step s r rs =
      let x : List Slot = picked_at marks q s r in
      let y : List Slot = picked marks q.code q.start (s.left - length x) (s.place + r.count) rs in
      let j = length-append x y in
      omega arith

  -- the first address, where those chosen so far are followed by these
  first_from : Tally → List Slot → ℕ
  first_from s ss = when (eqb s.number 0) (first_address ss) s.first

  first_step : (s : Tally) (r : Range) (rs : List Range)
      → first_from s (picked_from s (r ∷ rs)) ≡ first_from (step_of marks q s r) (picked_from (step_of marks q s r) rs)
  unfolding first_from picked step_of first_address when
  first_step s r rs = go s.number (picked_at marks q s r) (picked marks q.code q.start (s.left - chosen_at marks q s r) (s.place + r.count) rs)
    where
      go : (k : ℕ) (ss us : List Slot)
          → when (eqb k 0) (first_address (ss ++ us)) s.first
          ≡ when (eqb (k + length ss) 0) (first_address us) (when (eqb k 0) (first_address ss) s.first)
      go zero [] us = refl
      go zero (x ∷ ss) us = rw (zero-add (suc (length ss)), eqb-suc-zero (length ss))
      go (suc k) ss us = let e : suc k + length ss ≡ suc (k + length ss) = omega arith in rw (e, eqb-suc-zero (k + length ss), eqb-suc-zero k)

  -- the address behind all that are told whole, where those told so far are followed by these
  behind_from : Tally → List Range → ℕ
  behind_from s rs = behind_all s.next (take (wholes s.room (pages_from s rs)) (picked_from s rs))

  next-step : (s : Tally) (r : Range) (rs : List Range) → element_at (s.place + r.count) ≤ length t.elements
      → behind_from s (r ∷ rs) ≡ behind_from (step_of marks q s r) rs
  unfolding behind_from planned picked step_of room_behind when
  next-step s r rs h =
      let x : List Slot = picked_at marks q s r in
      let left = s.left - length x in
      let y : List Slot = picked marks q.code q.start left (s.place + r.count) rs in
      let ps : List (List ℕ) = planned marks q.tagged t q.code q.start left (s.place + r.count) rs in
      let m = fitting_at marks q s r in
      let f = fit_is q.tagged s.room (length x) in
      let z = no_whole left (s.place + r.count) rs in
      let w = wholes (room_behind q.tagged s.room (length x) m) ps in
      let n : m < length x → w ≡ 0 = λ l. rw (ne_eqb m (length x) (λ e. omega arith)) z in
      ap (λ (k : ℕ). behind_all s.next (take k (x ++ y))) (whole-page q.tagged t r.kind x m s.room ps (wide-picked s r h) f z)
      ∙ ap (behind_all s.next) (take_whole m w x y f.few n)
      ∙ behind-append s.next (take m x) (take w y)

  -- ---- all ranges

  -- room for the elements of the ranges, from a stand on
  abbrev pub Stands : Tally → List Range → Type 0
  Stands s rs = element_at (s.place + total rs) ≤ length t.elements

  pub stands-first : (s : Tally) (r : Range) (rs : List Range) → Stands s (r ∷ rs) → element_at (s.place + r.count) ≤ length t.elements
  unfolding total
  stands-first s r rs h = omega arith

  pub stands-later : (s : Tally) (r : Range) (rs : List Range) → Stands s (r ∷ rs) → Stands (step_of marks q s r) rs
  unfolding total
  stands-later s r rs h = let e = step-place marks q s r in omega arith

  pub counted-up : (s : Tally) (rs : List Range) → s.at ≤ (counted marks q s rs).at
  unfolding counted
  counted-up s [] = omega arith
  counted-up s (r ∷ rs) = let a = step-up marks q s r in let b = counted-up (step_of marks q s r) rs in omega arith

  pub counted-at : (s : Tally) (rs : List Range) → Stands s rs → s.at + length (added marks q t s rs) ≡ (counted marks q s rs).at
  unfolding counted
  counted-at s [] h = ap (λ (x : List ℕ). s.at + length x) (nothing-added s) ∙ add-zero s.at
  counted-at s (r ∷ rs) h =
      let a = step-length s r (stands-first s r rs h) in
      let b = counted-at (step_of marks q s r) rs (stands-later s r rs h) in
      let e = ap length (fit-step s r rs (stands-first s r rs h)) ∙ length-append (step_bytes marks q t s r) (added marks q t (step_of marks q s r) rs) in
      omega arith

  pub counted-number : (s : Tally) (rs : List Range) → s.number + length (picked_from s rs) ≡ (counted marks q s rs).number
  unfolding counted picked
  counted-number s [] = add-zero s.number
  counted-number s (r ∷ rs) = number_step s r rs ∙ counted-number (step_of marks q s r) rs

  pub counted-total : (s : Tally) (rs : List Range) → Stands s rs → s.total + length (joined (pages_from s rs)) ≡ (counted marks q s rs).total
  unfolding counted planned joined
  counted-total s [] h = add-zero s.total
  counted-total s (r ∷ rs) h = total-step s r rs (stands-first s r rs h) ∙ counted-total (step_of marks q s r) rs (stands-later s r rs h)

  -- while none is chosen, no first address is noted
  abbrev Unled : Tally → Type 0
  Unled s = s.number ≡ 0 → s.first ≡ 0

  unled-step : (s : Tally) (r : Range) → Unled (step_of marks q s r)
  unfolding step_of when
  unled-step s r e =
      let a : s.number ≡ 0 = omega arith in
      rw (eq-eqb s.number 0 a) (first-none (picked_at marks q s r) (omega arith))

  first-last : (s : Tally) → Unled s → first_from s [] ≡ s.first
  unfolding first_from first_address
  first-last s u = on (λ (x : ℕ). x ≡ s.first) (eqb s.number 0) (λ e. sym (u (eqb-true s.number 0 e))) (λ e. refl)

  counted-first-from : (s : Tally) (rs : List Range) → Unled s → first_from s (picked_from s rs) ≡ (counted marks q s rs).first
  unfolding counted picked
  counted-first-from s [] u = first-last s u
  counted-first-from s (r ∷ rs) u = first_step s r rs ∙ counted-first-from (step_of marks q s r) rs (unled-step s r)

  pub counted-first : (most room from : ℕ) (rs : List Range)
      → first_address (picked_from (outset most room from) rs) ≡ (counted marks q (outset most room from) rs).first
  unfolding first_from when
  counted-first most room from rs = counted-first-from (outset most room from) rs (λ e. refl)

  counted-next-from : (s : Tally) (rs : List Range) → Stands s rs → behind_from s rs ≡ (counted marks q s rs).next
  unfolding counted picked planned behind_from wholes behind_all
  counted-next-from s [] h = refl
  counted-next-from s (r ∷ rs) h = next-step s r rs (stands-first s r rs h) ∙ counted-next-from (step_of marks q s r) rs (stands-later s r rs h)

  pub counted_next : (s : Tally) (rs : List Range) → Stands s rs
      → behind_all s.next (take (wholes s.room (pages_from s rs)) (picked_from s rs)) ≡ (counted marks q s rs).next
  unfolding behind_from
  counted_next s rs h = counted-next-from s rs h
