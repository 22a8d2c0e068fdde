-- The marks of the volume numbers that were seen: one pass finds a number that stands twice. Assumes nothing.
use Rattle.std.proofs.Common.{◌≡◌, ℕ, ◌+◌, ◌*◌, ◌<◌, Bool, true, false, not, eqb, ◌≢◌, List, length, replicate, sym, refl, ◌∙◌, arith, eq-eqb, ne_eqb, eqb-true}
use lib.ListN.{length-replicate}
use borrow.Author.Tests.{not-true, not-false, eqb-false}
use Rattle.rules.specs.Choice.{when, differ, below}
use Rattle.rules.specs.Tables.{volume}
use Rattle.rules.specs.Sound.{once}
use Rattle.rules.proofs.Ladder.{below_step, eq-differ, ne-differ}
use Rattle.sound.specs.Checks.{absent, marked, marking, Marks}
use Rattle.sound.proofs.Bits.{none-marked, marked-same, marked_other, marking-length}

absent-step : (es : List ℕ) (p y : ℕ) → absent es (p + 1) y ≡ when (differ (volume es p) y) (absent es p y) false
unfolding absent
absent-step es p y = below_step p (λ q. differ (volume es q) y)

pub marks_begin : (es : List ℕ) (n : ℕ) → Marks es 0 (replicate n 0)
unfolding absent below
marks_begin es n = record { told = λ y l u. none-marked n y (omega (arith, length-replicate {A = ℕ} n 0)) }

-- the volume v at the place p, where the numbers at the places before it are marked
module _ (es seen : List ℕ) (p v : ℕ) (marks : Marks es p seen) (is : v ≡ volume es p) where
  module _ (some : v ≢ 0) (small : v < 64 * length seen) where
    told : marked seen v ≡ not (absent es p v)
    told = marks.told v (omega arith) small

    once_is : once es p ≡ absent es p v
    unfolding once absent when
    once_is = rw (← is, ne_eqb v 0 some)

    -- the code's test, whether it had no mark
    module _ (fresh : Bool) (test : fresh ≡ not (marked seen v)) where
      pub stands-twice : fresh ≡ false → once es p ≡ false
      stands-twice t = once_is ∙ not-true (absent es p v) (sym told ∙ not-false (marked seen v) (sym test ∙ t))

      pub stands-once : fresh ≡ true → once es p ≡ true
      stands-once t = once_is ∙ not-false (absent es p v) (sym told ∙ not-true (marked seen v) (sym test ∙ t))

    now-marked : (y : ℕ) → 0 < y → y < 64 * length seen → (t : Bool) → eqb v y ≡ t → marked (marking seen v) y ≡ not (absent es (p + 1) y)
    unfolding when
    now-marked y l u true t =
        let w : v ≡ y = eqb-true v y t in
        let a : absent es (p + 1) y ≡ false = absent-step es p y ∙ rw (eq-differ (volume es p) y (sym is ∙ w)) in
        rw (a, ← w) (marked-same seen v small)
    now-marked y l u false t =
        let d : v ≢ y = eqb-false v y t in
        let a : absent es (p + 1) y ≡ absent es p y = absent-step es p y ∙ rw (ne-differ (volume es p) y (λ w. d (is ∙ w))) in
        rw (marked_other seen v small y d, a) (marks.told y l u)

    pub mark-new : Marks es (p + 1) (marking seen v)
    mark-new = record { told = λ y l u. now-marked y l (omega (arith, marking-length seen v)) (eqb v y) refl }

  module _ (e : v ≡ 0) where
    pub stands-none : once es p ≡ true
    unfolding once when
    stands-none = rw (← is, eq-eqb v 0 e)

    pub mark-none : Marks es (p + 1) seen
    unfolding when
    mark-none =
        record {
          told = λ y l u.
              let a : absent es (p + 1) y ≡ absent es p y = absent-step es p y ∙ rw (ne-differ (volume es p) y (λ w. omega arith)) in
              rw a (marks.told y l u);
        }
