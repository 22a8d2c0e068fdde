-- In a sound head the storage addresses are those of the storage range. Assumes nothing.
use Rattle.std.proofs.Common.{◌≡◌, ℕ, ◌+◌, ◌<◌, Bool, true, false, eqb, ◌≢◌, List, [], ◌∷◌, length, get_or, sym, refl, ap, ◌∙◌, inl, inr, arith, eq-eqb, ne_eqb}
use borrow.Author.Tests.{lt-leb}
use Rattle.rules.specs.Choice.{when, all_of}
use Rattle.rules.specs.Roster.{Range, range, ranges, spread, sorted, kind_of, storage}
use Rattle.rules.specs.Ranges.{Each, Pairs, Differ}
use Rattle.rules.specs.Sound.{ranges_sound, head_sound}
use Rattle.rules.proofs.Ladder.{on, all_first, all_rest}
use Rattle.rules.proofs.Ascending.{Before, each_map, ascending, kinds-differ}
use Rattle.rules.proofs.Typed.{Among, among-sorted, each-among}
use Rattle.tables.specs.declared.Range.{Range as Code}
use Rattle.tables.specs.Ranges.{meaning, meant, no_range, laid, lies, Runs}
use Rattle.tables.proofs.Sort.{none, meant-at}
use Rattle.tables.proofs.Spots.{kind-run, lies-from}
use Rattle.sound.specs.Checks.{Shelved}

-- ---- the addresses of ranges

-- none is a storage address
no-shelf : (rs : List Range) (q a : ℕ) → Each (λ r. r.kind ≢ storage) rs → eqb (kind_of (spread q rs) a) storage ≡ false
unfolding spread kind_of
no-shelf [] q a ps = refl
no-shelf (r ∷ rs) q a ps =
    rw (kind-run r q a (spread (q + r.count) rs))
    (on (λ (k : ℕ). eqb k storage ≡ false) (lies r a) (λ e. ne_eqb r.kind storage ps.0) (λ e. no-shelf rs (q + r.count) a ps.1))

-- behind all of a range it lies in no more
past : (r s : Range) (a : ℕ) → Before r s → lies r a ≡ true → lies s a ≡ false
unfolding lies all_of when
past r s a b e = let l = lies-from r a e in rw (lt-leb s.first a (omega arith))

-- where no two ranges overlap, and no two are of one type
module _ (s : Range) (is : s.kind ≡ storage) where
  shelf-lies : (rs : List Range) (q a : ℕ) → Among s rs → Pairs Before rs → Pairs Differ rs → eqb (kind_of (spread q rs) a) storage ≡ lies s a
  unfolding spread when
  shelf-lies [] q a m b d = elim m [ ]
  shelf-lies (r ∷ rs) q a (inl e) b d = rw (kind-run r q a (spread (q + r.count) rs), e) (go (lies r a))
    where
      shelf : r.kind ≡ storage
      shelf = ap (λ (x : Range). x.kind) (sym e) ∙ is

      go : (t : Bool) → eqb (when t r.kind (kind_of (spread (q + r.count) rs) a)) storage ≡ t
      go true = eq-eqb r.kind storage shelf
      go false = no-shelf rs (q + r.count) a (each_map (Differ r) (λ u. u.kind ≢ storage) (λ u n z. n (shelf ∙ sym z)) rs d.0)
  shelf-lies (r ∷ rs) q a (inr m) b d =
      rw (kind-run r q a (spread (q + r.count) rs)) (go (shelf-lies rs (q + r.count) a m b.1 d.1) (lies r a) refl)
    where
      other : r.kind ≢ storage
      other z = each-among (Differ r) s rs m d.0 (z ∙ sym is)

      go : eqb (kind_of (spread (q + r.count) rs) a) storage ≡ lies s a → (t : Bool) → lies r a ≡ t
          → eqb (when t r.kind (kind_of (spread (q + r.count) rs) a)) storage ≡ lies s a
      go ih true e = ne_eqb r.kind storage other ∙ sym (past r s a (each-among (Before r) s rs m b.0) e)
      go ih false e = ih

-- ---- the ranges of a sound head, as the code has them

pub range-is : (head : List ℕ) (rs : List Code) (k : ℕ) → length rs ≡ 4 → meant rs ≡ ranges head → k < 4 → meaning (get_or rs k none) ≡ get_or (ranges head) k no_range
range-is head rs k four is h = sym (meant-at rs k none (omega arith)) ∙ ap (λ (l : List Range). get_or l k no_range) is

pub ranges-ok : (head : List ℕ) → head_sound head ≡ true → ranges_sound (ranges head) ≡ true
unfolding head_sound
ranges-ok head e = all_first _ _ (all_rest _ _ (all_rest _ _ e))

pub shelved : (head : List ℕ) (rs runs : List Code) → length rs ≡ 4 → meant rs ≡ ranges head → Runs runs head → head_sound head ≡ true
    → Shelved (laid runs) (meaning (get_or rs 1 none))
unfolding laid ranges range
shelved head rs runs four is runs-is e a =
    rw (range-is head rs 1 four is (omega arith), runs-is)
    (shelf-lies (range head 1) refl (sorted (ranges head)) 0 a (among-sorted (range head 1) (ranges head) (inr (inl refl))) (ascending (ranges head) (ranges-ok head e)) (kinds-differ head))
