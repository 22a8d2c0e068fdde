-- A move and an exchange leave a sound element table sound: what is filled stands nowhere else. Assumes nothing.
use Prim.Native.Nat.{ℕ, ◌+◌, ◌<◌, ◌≤◌}
use native.Mathlib.Omega.{arith}
use mathlib.Core.Path.{◌≡◌, refl, sym, ◌∙◌}
use mathlib.Core.Logic.{◌≢◌}
use mathlib.Core.Bool.{false}
use mathlib.Core.List.{List}
use lib.ListN.{length}
use Rattle.rules.specs.Tables.{Tables, lent, element_at, element_size, volume, filled}
use Rattle.rules.specs.Roster.{Slot, range, roster, kind_at, kind_of, place_of, transport}
use Rattle.rules.specs.Fitting.{mask_of, drive_takes, unfit}
use Rattle.rules.proofs.Ladder.{either}
use Rattle.rules.proofs.Places.{place_in, kind-in, place-apart}
use Rattle.rules.proofs.ElementFields.{filled-length, volume-else, filled-volume}
use Rattle.rules.proofs.Soundness.{ShelfOrNone, ElementsFit, volumes-apart, DrivesFit, Sound, head-ranges}
use Rattle.rules.proofs.KeepDrives.{drives-filled, fits-address}
use Rattle.rules.proofs.KeepElements.{place-long, fill-fits, empty-fits, carried-fits}

-- an address that stands and is no transport's: its place, and what may be put there
pub record Stands (ss : List Slot) (a : ℕ) : Type 0 where
  pub inside : place_of ss a < length ss
  pub no-transport : kind_at ss (place_of ss a) ≢ transport
  pub is_known : kind_of ss a ≢ 0

pub stands_of : (ss : List Slot) (a : ℕ) → transport < kind_of ss a → Stands ss a
stands_of ss a l =
    let k : kind_of ss a ≢ 0 = omega arith in
    let i = kind-in ss a k in
    record { inside = place_in ss a k; no-transport = omega arith; is_known = k }

module _ (ss : List Slot) (u top : ℕ) where
  abbrev Fits : List ℕ → Type 0
  Fits = ElementsFit ss u top

  pub leave_fits : (es : List ℕ) (p : ℕ) → Fits es → p < length ss → Fits (filled es p 0 0 0)
  leave_fits es p f i = fill-fits ss u top es f p 0 0 0 i (empty-fits top ss (kind_at ss p)) (λ n. absurd (n refl))

  -- what stands after a place was left stood before, elsewhere
  left-elsewhere : (es : List ℕ) (p : ℕ) → Fits es → p < length ss → (v q : ℕ) → v ≢ 0 → volume (filled es p 0 0 0) q ≡ v → (q ≢ p) × (volume es q ≡ v)
  left-elsewhere es p f i v q z e =
      either q p
      (λ x. let y : volume (filled es p 0 0 0) q ≡ 0 = rw x (filled-volume es p 0 0 0 (place-long ss u top es f p i)) in absurd (z (sym e ∙ y)))
      (λ n. (n, sym (volume-else es p 0 0 0 q n) ∙ e))

  -- a volume that stands nowhere may be put where no transport is
  put-fits : (es : List ℕ) (v a s : ℕ) → Fits es → Stands ss a → ShelfOrNone ss s → v ≢ 0 → v ≤ top
      → ((q : ℕ) → q < length ss → volume es q ≢ v) → Fits (filled es (place_of ss a) v s 0)
  put-fits es v a s f x o z l fresh =
      fill-fits ss u top es f (place_of ss a) v s 0 x.inside (carried-fits top ss _ v s z l x.no-transport o) (λ _ q i _. fresh q i)

  -- MOVE: leave the source, fill the destination
  pub moved-fits : (es : List ℕ) (from to s : ℕ) → Fits es → Stands ss from → Stands ss to → ShelfOrNone ss s → volume es (place_of ss from) ≢ 0
      → Fits (filled (filled es (place_of ss from) 0 0 0) (place_of ss to) (volume es (place_of ss from)) s 0)
  moved-fits es from to s f x y o z =
      put-fits _ (volume es (place_of ss from)) to s (leave_fits es (place_of ss from) f x.inside) y o z (f.stocks _ x.inside).small fresh
    where
      fresh : (q : ℕ) → q < length ss → volume (filled es (place_of ss from) 0 0 0) q ≢ volume es (place_of ss from)
      fresh q i e =
          let w = left-elsewhere es (place_of ss from) f x.inside _ q z e in
          volumes-apart ss u top es f (place_of ss from) q x.inside i (λ d. w.0 (sym d)) z (sym w.1)

  -- EXCHANGE: leave source and first destination, fill the second, fill the first
  pub exchanged-fits : (es : List ℕ) (from first second s r : ℕ) → Fits es → Stands ss from → Stands ss first → Stands ss second
      → ShelfOrNone ss s → ShelfOrNone ss r → volume es (place_of ss from) ≢ 0 → volume es (place_of ss first) ≢ 0 → first ≢ from
      → Fits
      (filled
      (filled (filled (filled es (place_of ss from) 0 0 0) (place_of ss first) 0 0 0) (place_of ss second) (volume es (place_of ss first)) s 0)
      (place_of ss first) (volume es (place_of ss from)) r 0)
  exchanged-fits es from first second s r f x y k o o' z w d =
      put-fits es₃ v first r fits₃ y o' z (f.stocks _ x.inside).small fresh₃
    where
      pf : ℕ
      pf = place_of ss from

      p₁ : ℕ
      p₁ = place_of ss first

      p₂ : ℕ
      p₂ = place_of ss second

      v : ℕ
      v = volume es pf

      v₁ : ℕ
      v₁ = volume es p₁

      es₁ : List ℕ
      es₁ = filled es pf 0 0 0

      fits₁ : Fits es₁
      fits₁ = leave_fits es pf f x.inside

      es₂ : List ℕ
      es₂ = filled es₁ p₁ 0 0 0

      fits₂ : Fits es₂
      fits₂ = leave_fits es₁ p₁ fits₁ y.inside

      -- both places are left, the others as they were
      elsewhere : (c q : ℕ) → c ≢ 0 → volume es₂ q ≡ c → (q ≢ pf) × (q ≢ p₁) × (volume es q ≡ c)
      elsewhere c q n e =
          let a = left-elsewhere es₁ p₁ fits₁ y.inside c q n e in
          let b = left-elsewhere es pf f x.inside c q n a.1 in
          (b.0, a.0, b.1)

      es₃ : List ℕ
      es₃ = filled es₂ p₂ v₁ s 0

      fits₃ : Fits es₃
      fits₃ =
          put-fits es₂ v₁ second s fits₂ k o w (f.stocks _ y.inside).small
          (λ q i e. let a = elsewhere v₁ q w e in volumes-apart ss u top es f p₁ q y.inside i (λ n. a.1 (sym n)) w (sym a.2))

      fresh₃ : (q : ℕ) → q < length ss → volume es₃ q ≢ v
      fresh₃ q i e =
          either q p₂
          (λ n.
          let a : volume es₃ q ≡ v₁ = rw n (filled-volume es₂ p₂ v₁ s 0 (place-long ss u top es₂ fits₂ p₂ k.inside)) in
          volumes-apart ss u top es f p₁ pf y.inside x.inside (place-apart ss first from d x.is_known) w (sym a ∙ e))
          (λ n.
          let a = elsewhere v q z (sym (volume-else es₂ p₂ v₁ s 0 q n) ∙ e) in
          volumes-apart ss u top es f pf q x.inside i (λ m. a.0 (sym m)) z (sym a.2))

-- ---- the drives: what is put into one is what it takes

module _ (t : Tables) (s : Sound t) where
  abbrev ss : List Slot
  ss = roster t.head

  -- the tables with other elements
  abbrev Suits : List ℕ → Type 0
  Suits es = DrivesFit (lent t.head es t.rest) (range t.head 3)

  -- a place that stands, in elements that are as many as they were
  there : (es : List ℕ) (a : ℕ) → length es ≡ length t.elements → Stands ss a → element_at (place_of ss a) + element_size ≤ length es
  there es a n x = omega (arith, s.elements-fit.length-is, x.inside)

  leave-suits : (es : List ℕ) (a : ℕ) → length es ≡ length t.elements → Stands ss a → Suits es → Suits (filled es (place_of ss a) 0 0 0)
  leave-suits es a n x d = drives-filled (lent t.head es t.rest) _ d (place_of ss a) 0 0 0 (there es a n x) (λ k h e z. absurd (z refl))

  put-suits : (es : List ℕ) (a v q : ℕ) → length es ≡ length t.elements → Stands ss a → unfit t a v ≡ false → Suits es
      → Suits (filled es (place_of ss a) v q 0)
  unfolding drive_takes mask_of
  put-suits es a v q n x u d =
      drives-filled (lent t.head es t.rest) _ d (place_of ss a) v q 0 (there es a n x)
      (λ k h e z. fits-address t (head-ranges _ s.head-fits) a v k x.is_known u h e z)

  pub moved-suits : (from to v q : ℕ) → Stands ss from → Stands ss to → unfit t to v ≡ false
      → Suits (filled (filled t.elements (place_of ss from) 0 0 0) (place_of ss to) v q 0)
  moved-suits from to v q x y u =
      put-suits _ to v q (filled-length t.elements (place_of ss from) 0 0 0) y u (leave-suits t.elements from refl x s.drives-fit)

  pub exchanged-suits : (from first second v w q r : ℕ) → Stands ss from → Stands ss first → Stands ss second → unfit t first v ≡ false → unfit t second w ≡ false
      → Suits
      (filled (filled (filled (filled t.elements (place_of ss from) 0 0 0) (place_of ss first) 0 0 0) (place_of ss second) w q 0) (place_of ss first) v r 0)
  exchanged-suits from first second v w q r x y z f g =
      put-suits es₃ first v r n₃ y f (put-suits es₂ second w q n₂ z g (leave-suits es₁ first n₁ y (leave-suits t.elements from refl x s.drives-fit)))
    where
      es₁ : List ℕ
      es₁ = filled t.elements (place_of ss from) 0 0 0

      n₁ : length es₁ ≡ length t.elements
      n₁ = filled-length t.elements (place_of ss from) 0 0 0

      es₂ : List ℕ
      es₂ = filled es₁ (place_of ss first) 0 0 0

      n₂ : length es₂ ≡ length t.elements
      n₂ = filled-length es₁ (place_of ss first) 0 0 0 ∙ n₁

      es₃ : List ℕ
      es₃ = filled es₂ (place_of ss second) w q 0

      n₃ : length es₃ ≡ length t.elements
      n₃ = filled-length es₂ (place_of ss second) w q 0 ∙ n₂
