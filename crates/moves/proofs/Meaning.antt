-- What the code's answer means is what the rules say of the command. Assumes nothing.
use Prim.Native.Nat.{ℕ}
use mathlib.Core.Path.{◌≡◌, refl, sym}
use mathlib.Core.Bool.{Bool, true, false, not}
use mathlib.Core.List.{List, [], ◌∷◌}
use lib.Dec.{eqb}
use Rattle.rules.specs.Choice.{when, any_of, all_of, differ}
use Rattle.rules.specs.Tables.{Tables}
use Rattle.rules.specs.Roster.{roster, kind_of}
use Rattle.rules.specs.Order.{Verdict, held_by_other, volume_of, source_of}
use Rattle.rules.specs.Moves.{move, move_of, exchange, exchange_of, transport_used, no_place, leave, shelf_of, carry}
use Rattle.rules.specs.Fitting.{generation, mask_of, drive_takes, unfit}
use Rattle.rules.proofs.Ladder.{any-yes, any_none, when-of, when-not}
use Rattle.order.specs.Ending.{reason, verdict}
use Rattle.tables.proofs.LookUp.{found-cases, no-transport-is}
use Rattle.tables.specs.LookUp.{spot_of}
use Rattle.arms.specs.Used.{arm_at}
use Rattle.moves.specs.Judged.{Ruling, shelf_at, carries, meaning, on_place, move_at, exchange_held, hinders, exchange_at, move_spots, exchange_spots, spots, judged_by, carry_verdict, unfit_at}
use Rattle.moves.specs.declared.Carry.{Carry}
use Rattle.moves.specs.declared.Carry.TheVariants.{Move, Exchange}

-- a list of tests, one after the other
any-more : {A : Type 0} (b : Bool) (bs : List Bool) (x y : A) → when (any_of (b ∷ bs)) x y ≡ when b x (when (any_of bs) x y)
any-more b bs x y = sym (any-yes b bs x y (when b x (when (any_of bs) x y)) refl)

any-end : {A : Type 0} (x y : A) → when (any_of []) x y ≡ y
any-end x y = sym (any_none x y y refl)

-- full, and not the source
full-other : {A : Type 0} (v a b : ℕ) (x y : A) → when (all_of (differ v 0 ∷ differ a b ∷ [])) x y ≡ when (when (eqb a b) false (differ v 0)) x y
unfolding when all_of differ
full-other v a b x y = go (eqb v 0) (eqb a b)
  where
    go : (c d : Bool) → when (when (not c) (when (not d) true false) false) x y ≡ when (when d false (not c)) x y
    go true true = refl
    go true false = refl
    go false true = refl
    go false false = refl

module _ (t : Tables) (h : ℕ) (block : List ℕ) where
  -- what is made of an answer
  abbrev Meant : Ruling → Verdict
  Meant = meaning t.elements h block

  abbrev Judged : Carry → Ruling
  Judged carry = judged_by carry (roster t.head) t.head t.rest.generations t.rest.masks t.elements h block

  -- by the type of the element that was found at the address
  unfit-is : (a v : ℕ) → unfit_at t.head t.rest.generations t.rest.masks (kind_of (roster t.head) a) a v ≡ unfit t a v
  unfolding unfit_at unfit drive_takes mask_of generation
  unfit-is a v = refl

  move-means : Meant (Judged Move) ≡ move t h block
  unfolding judged_by spots move_spots on_place move_at move move_of transport_used arm_at held_by_other volume_of source_of leave shelf_of shelf_at spot_of no_place carry carries meaning verdict reason
  move-means = simp (found-cases, when-of Meant, unfit-is, any-more, any-end, no-transport-is, when-not)

  exchange-means : Meant (Judged Exchange) ≡ exchange t h block
  unfolding judged_by spots exchange_spots on_place exchange_held hinders exchange_at exchange exchange_of transport_used arm_at held_by_other volume_of source_of leave shelf_of shelf_at spot_of no_place carry carries meaning verdict reason
  exchange-means = simp (found-cases, when-of Meant, unfit-is, any-more, any-end, no-transport-is, when-not, full-other)

  pub judged-means : (carry : Carry) → Meant (Judged carry) ≡ carry_verdict carry t h block
  unfolding carry_verdict
  judged-means Move = move-means
  judged-means Exchange = exchange-means
