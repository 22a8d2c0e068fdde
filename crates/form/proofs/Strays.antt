-- One turn of the loop over the masks. Assumes nothing.
use Prim.Native.Nat.{ℕ, ◌+◌, ◌<◌, ◌≤◌}
use native.Mathlib.Numerals.{add-one}
use native.Mathlib.Omega.{arith}
use mathlib.Core.Path.{◌≡◌, refl, sym, ◌∙◌}
use mathlib.Core.List.{List}
use lib.ListN.{length, get_or, drop}
use lib.Seq.{drop-cons, drop-length}
use lib.Bits.{bit_and}
use lib.Dec.{eqb}
use borrow.Author.Tests.{eq-eqb, ne_eqb}
use Rattle.rules.specs.Choice.{when}
use Rattle.rules.specs.Bytes.{byte}
use Rattle.rules.specs.Form.{stray, stray_from}
use Rattle.rules.proofs.Ladder.{when_true, when_false}

-- what is left of the test when the masks before i have found nothing
pub record Passing (block masks : List ℕ) (i : ℕ) : Type 0 where
  pub within : i ≤ length masks
  pub rest : stray masks block ≡ stray_from (drop i masks) block (i + 1)

pub start : (block masks : List ℕ) → Passing block masks 0
unfolding stray
start block masks = record { within = omega arith; rest = refl }

module _ (block masks : List ℕ) (i : ℕ) (inv : Passing block masks i) (lt : i < length masks) where
  turn : stray masks block ≡ when (eqb (bit_and (get_or block (i + 1) 0) (get_or masks i 0)) 0) (stray_from (drop (i + 1) masks) block (i + 1 + 1)) (i + 1)
  unfolding stray_from byte
  turn = inv.rest ∙ simp add-one (rw (drop-cons masks i 0) refl)

  pub found : (bit_and (get_or block (i + 1) 0) (get_or masks i 0) ≡ 0 → ⊥) → i + 1 ≡ stray masks block
  found h = sym (turn ∙ when_false _ _ _ (ne_eqb _ _ h))

  pub passed : bit_and (get_or block (i + 1) 0) (get_or masks i 0) ≡ 0 → Passing block masks (i + 1)
  passed h = record { within = omega arith; rest = turn ∙ when_true _ _ _ (eq-eqb _ _ h) }

pub finish : (block masks : List ℕ) (i : ℕ) → Passing block masks i → length masks ≤ i → 0 ≡ stray masks block
unfolding stray_from
finish block masks i inv h =
    let e : i ≡ length masks = omega (arith, inv.within) in
    sym (inv.rest ∙ rw (e, drop-length) refl)
