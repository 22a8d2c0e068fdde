-- What is judged keeps the panel's number true by adding and taking away: of a move and of an exchange that are carried out, the shelves that
-- are left and filled. Assumes nothing.
use Prim.Native.Nat.{ℕ, ◌*◌, ◌<◌}
use native.Mathlib.Omega.{arith}
use mathlib.Core.Path.{◌≡◌, sym, ap, ◌∙◌}
use mathlib.Core.Logic.{◌≢◌}
use mathlib.Core.Bool.{false}
use mathlib.Core.List.{List}
use lib.ListN.{length}
use lib.Dec.{eqb, leb}
use borrow.Author.Tests.{eqb-false, ne_eqb, leb-false}
use Rattle.std.specs.Prelude.{IfOk}
use Rattle.rules.specs.Bytes.{word}
use Rattle.rules.specs.Tables.{element_size, volume, empty_shelves}
use Rattle.rules.specs.Roster.{Slot, kind_of, place_of, transport}
use Rattle.rules.proofs.Ladder.{on, either, when_false, differ-false}
use Rattle.rules.proofs.Places.{Placed, place_in, kind-in, place-apart}
use Rattle.rules.proofs.Panel.{shelves-moved, shelves-exchanged}
use Rattle.tables.specs.LookUp.{spot_of}
use Rattle.tables.specs.declared.Spot.{Spot}
use Rattle.tables.proofs.LookUp.{found-cases}
use Rattle.moves.specs.declared.Carry.{Carry}
use Rattle.moves.specs.declared.Carry.TheVariants.{Move, Exchange}
use Rattle.moves.specs.Judged.{Ruling, shelf_at, Tallies, hinders, on_place, move_at, move_spots, exchange_at, exchange_spots, spots, judged_by, carried, swapped, shifted}

-- the second destination is the source, or it is empty
free-second : (es : List ℕ) (p a b : ℕ) → hinders es p (eqb a b) ≡ false → a ≢ b → volume es p ≡ 0
unfolding hinders
free-second es p a b e n = differ-false _ _ (sym (when_false _ _ _ (ne_eqb a b n)) ∙ e)

module _ (ss : List Slot) (placed : Placed 0 ss) (es : List ℕ) (long : length es ≡ element_size * length ss)
    (head generations masks : List ℕ) (h : ℕ) (block : List ℕ) where
  abbrev Right : Ruling → Type 0
  Right r = IfOk r (Tallies ss es block (empty_shelves ss es))

  on-place : (a : ℕ) (f : Spot → Ruling) → (transport < kind_of ss a → Right (f (spot_of ss a))) → Right (on_place ss a f)
  unfolding on_place
  on-place a f g = on Right (leb (kind_of ss a) transport) (λ _. tt) (λ e. g (leb-false _ _ e))

  known : (a : ℕ) → transport < kind_of ss a → kind_of ss a ≢ 0
  known a l z = omega arith

  move-right : (arm a b : ℕ) → transport < kind_of ss a → transport < kind_of ss b → Right (move_at head generations masks es h block arm (spot_of ss a) (spot_of ss b))
  unfolding move_at carried shifted spot_of
  move-right arm a b i j =
      on Right _ (λ _. tt) (λ _.
      on Right _ (λ _. tt) (λ _.
      on Right _ (λ _. tt) (λ _.
      on Right _ (λ _. tt) (λ full.
      on Right _ (λ _. tt) (λ empty.
      on Right _ (λ _. tt) (λ _.
      rw (kind-in ss a (known a i), kind-in ss b (known b j)) at
      (shelves-moved ss placed es long (place_of ss a) (place_of ss b) (shelf_at es (word block 4) (spot_of ss a)) (place_in ss a (known a i)) (place_in ss b (known b j)) (eqb-false _ _ full) (differ-false _ _ empty))))))))

  exchange-right : (arm a b c : ℕ) → transport < kind_of ss a → transport < kind_of ss b → transport < kind_of ss c → b ≢ a
      → Right (exchange_at head generations masks es h block arm (spot_of ss a) (spot_of ss b) (spot_of ss c) (eqb c a))
  unfolding exchange_at swapped shifted spot_of
  exchange-right arm a b c i j k d =
      on Right _ (λ _. tt) (λ _.
      on Right _ (λ _. tt) (λ full.
      on Right _ (λ _. tt) (λ full₁.
      on Right _ (λ _. tt) (λ free.
      on Right _ (λ _. tt) (λ _.
      on Right _ (λ _. tt) (λ _.
      rw (kind-in ss a (known a i), kind-in ss c (known c k)) at
      (shelves-exchanged ss placed es long (place_of ss a) (place_of ss b) (place_of ss c) (shelf_at es (word block 6) (spot_of ss b)) (shelf_at es (word block 4) (spot_of ss a)) (place_in ss a (known a i)) (place_in ss b (known b j)) (place_in ss c (known c k))
      (place-apart ss b a d (known a i)) (apart full₁ free) (eqb-false _ _ full) (eqb-false _ _ full₁)
      (λ n. free-second es _ c a free (λ e. n (ap (place_of ss) e))))))))))
    where
      apart : eqb (volume es (place_of ss b)) 0 ≡ false → hinders es (place_of ss c) (eqb c a) ≡ false → place_of ss c ≢ place_of ss b
      apart full free x =
          either c a (λ e. place-apart ss b a d (known a i) (sym x ∙ ap (place_of ss) e))
          (λ n. eqb-false _ _ full (ap (volume es) (sym x) ∙ free-second es _ c a free n))

  pub judged-tallies : (carry : Carry) → Right (judged_by carry ss head generations masks es h block)
  unfolding judged_by spots move_spots exchange_spots
  judged-tallies Move =
      rw found-cases
      (on Right _ (λ _. on-place (word block 4) _ (λ i. on-place (word block 6) _ (λ j. move-right _ _ _ i j))) (λ _. tt))
  judged-tallies Exchange =
      rw found-cases
      (on Right _
      (λ _. on-place (word block 4) _ (λ i. on-place (word block 6) _ (λ j. on-place (word block 8) _
      (λ k. on Right (eqb (word block 6) (word block 4)) (λ _. tt) (λ d. exchange-right _ _ _ _ i j k (eqb-false _ _ d))))))
      (λ _. tt))
