-- No drive gets a volume that it does not take: each write leaves the drives suited, where what it puts into one fits. Assumes nothing.
use Prim.Native.Nat.{ℕ, ◌+◌, ◌<◌, ◌≤◌}
use native.Mathlib.Omega.{arith}
use mathlib.Core.Path.{◌≡◌, refl, sym, ◌∙◌}
use mathlib.Core.Logic.{◌≢◌}
use mathlib.Core.Bool.{Bool, true, false, not}
use mathlib.Core.List.{List}
use lib.ListN.{length}
use lib.Dec.{eqb}
use borrow.Author.Tests.{eqb-true, eq-eqb}
use Rattle.rules.specs.Choice.{when, all_of}
use Rattle.rules.specs.Tables.{Tables, lent, searching, element_at, element_size, volume, filled}
use Rattle.rules.specs.Roster.{Range, range, ranges, roster, kind_at, kind_of, place_of, drive, port}
use Rattle.rules.specs.Order.{volume_of}
use Rattle.rules.specs.Fitting.{generation, mask_of, drive_takes, unfit, suited}
use Rattle.rules.specs.Sound.{ranges_sound}
use Rattle.rules.proofs.Ladder.{either, any-cases, any-by-first, any-by-rest, any-nil, never}
use Rattle.rules.proofs.Places.{SameRanges, range_same, roster-same, kind-in, place-apart}
use Rattle.rules.proofs.Typed.{drive-counted}
use Rattle.rules.proofs.ElementFields.{volume-else, filled-volume, HoldsAlone, volume-alone}
use Rattle.rules.proofs.Soundness.{DrivesFit}

-- ---- an element that is suited, as a plain fact

pub suited-true : (t : Tables) (a : ℕ) → suited t a ≡ true → volume_of t a ≢ 0 → drive_takes t a (volume_of t a) ≡ true
unfolding suited
suited-true t a e n = any-cases _ _ e (λ z. absurd (n (eqb-true _ _ z))) λ x. any-cases _ _ x (λ y. y) λ z. absurd (any-nil z)

pub suited-of : (t : Tables) (a : ℕ) → (volume_of t a ≢ 0 → drive_takes t a (volume_of t a) ≡ true) → suited t a ≡ true
unfolding suited
suited-of t a f =
    either (volume_of t a) 0 (λ e. any-by-first _ _ (eq-eqb _ _ e)) (λ n. any-by-rest _ _ (any-by-first _ _ (f n)))

-- what is not refused fits
pub unfit-false : (t : Tables) (a v : ℕ) → unfit t a v ≡ false → kind_of (roster t.head) a ≡ drive → drive_takes t a v ≡ true
unfolding unfit all_of when
unfit-false t a v e k = go (eqb (kind_of (roster t.head) a) drive) (drive_takes t a v) (eq-eqb _ _ k) e
  where
    go : (x y : Bool) → x ≡ true → when x (when (not y) true false) false ≡ false → y ≡ true
    go true true i j = refl
    go true false i j = sym j
    go false y i j = absurd (never i)

-- ---- another head of the same ranges, other elements

pub drives-head : (t : Tables) (head' : List ℕ) → SameRanges t.head head' → DrivesFit t (range t.head 3)
    → DrivesFit (lent head' t.elements t.rest) (range head' 3)
drives-head t head' s f =
    rw (range_same t.head head' s 3 (omega arith))
    (record {
      masks-length = f.masks-length;
      each-suited = λ k h.
          unfold suited drive_takes mask_of generation volume_of in
          rw (range_same t.head head' s 3 (omega arith), roster-same t.head head' s) (f.each-suited k h);
    })

module _ (t : Tables) (d : Range) (f : DrivesFit t d) where
  -- holders and ids alone
  pub drives-held : (es : List ℕ) → HoldsAlone t.elements es → DrivesFit (lent t.head es t.rest) d
  drives-held es alone =
      record {
        masks-length = f.masks-length;
        each-suited = λ k h.
            unfold suited drive_takes mask_of generation volume_of in rw (volume-alone t.elements es alone (place_of (roster t.head) (d.first + k))) (f.each-suited k h);
      }

  -- the search alone
  pub drives-searched : (search : List ℕ) → DrivesFit (lent t.head t.elements (searching t.rest search)) d
  drives-searched search =
      record { masks-length = f.masks-length; each-suited = λ k h. unfold suited drive_takes mask_of generation volume_of in f.each-suited k h }

  -- a place filled
  pub drives-filled : (p v s m : ℕ) → element_at p + element_size ≤ length t.elements
      → ((k : ℕ) → k < d.count → place_of (roster t.head) (d.first + k) ≡ p → v ≢ 0 → drive_takes t (d.first + k) v ≡ true)
      → DrivesFit (lent t.head (filled t.elements p v s m) t.rest) d
  unfolding volume_of drive_takes mask_of
  drives-filled p v s m long fit = record { masks-length = f.masks-length; each-suited = λ k h. suited-of _ (d.first + k) (suits k h) }
    where
      es : List ℕ
      es = t.elements

      suits : (k : ℕ) → k < d.count → volume_of (lent t.head (filled es p v s m) t.rest) (d.first + k) ≢ 0
          → drive_takes (lent t.head (filled es p v s m) t.rest) (d.first + k) (volume_of (lent t.head (filled es p v s m) t.rest) (d.first + k)) ≡ true
      suits k h n =
          let q = place_of (roster t.head) (d.first + k) in
          let was = suited-true t (d.first + k) (f.each-suited k h) in
          either q p
          (λ e. let x : volume (filled es p v s m) q ≡ v = rw e (filled-volume es p v s m long) in rw x (fit k h e (λ z. n (x ∙ z))))
          (λ ne. let x = volume-else es p v s m q ne in rw x (was (λ z. n (x ∙ z))))

-- ---- what may be put at an address

module _ (t : Tables) (ok : ranges_sound (ranges t.head) ≡ true) where
  -- into an element that is no drive, anything
  pub fits-port : (p v k : ℕ) → kind_at (roster t.head) p ≡ port → k < (range t.head 3).count
      → place_of (roster t.head) ((range t.head 3).first + k) ≡ p → v ≢ 0 → drive_takes t ((range t.head 3).first + k) v ≡ true
  unfolding range
  fits-port p v k is h e n =
      let c = (drive-counted t.head ok k h).kind-is in
      let i = kind-in (roster t.head) ((range t.head 3).first + k) (omega arith) in
      absurd (omega (arith, rw e at i))

  -- at an address that stands, what is not refused there
  pub fits-address : (a v k : ℕ) → kind_of (roster t.head) a ≢ 0 → unfit t a v ≡ false → k < (range t.head 3).count
      → place_of (roster t.head) ((range t.head 3).first + k) ≡ place_of (roster t.head) a → v ≢ 0 → drive_takes t ((range t.head 3).first + k) v ≡ true
  unfolding range
  fits-address a v k known is h e n =
      either ((range t.head 3).first + k) a
      (λ x. rw x (unfit-false t a v is (rw x at (drive-counted t.head ok k h).kind-is)))
      (λ d. absurd (place-apart (roster t.head) _ a d known e))
