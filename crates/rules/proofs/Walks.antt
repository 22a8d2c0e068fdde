-- Down the steps of every command, once for all that is shown of them: a property of verdicts that holds of each refusal holds of what a command ends
-- with if it holds of what is carried out, where each test above came out false. Assumes nothing.
use Prim.Native.Nat.{ℕ, zero, suc}
use mathlib.Core.Path.{◌≡◌}
use mathlib.Core.Bool.{true, false}
use mathlib.Core.List.{List, [], ◌∷◌}
use lib.ListN.{length}
use lib.Dec.{eqb}
use Rattle.rules.specs.Choice.{all_of, differ, any_from}
use Rattle.rules.specs.Bytes.{byte}
use Rattle.rules.specs.Tables.{Tables, places, unit, holder, attention, attentionq, Sense, Attention, HoldUnit, Free, Under, Seek, Recount}
use Rattle.rules.specs.Roster.{Slot, roster}
use Rattle.rules.specs.Operation.{Operation, TestUnitReady, RequestSense, Reserve, Release, PreventAllow, MoveMedium, ExchangeMedium, ReadElementStatus, ModeSense, SendVolumeTag, RequestVolumeElementAddress, Unknown}
use Rattle.rules.specs.Order.{Verdict, Done, CHECK-CONDITION, Cause, InvalidOperation, InvalidField, ListLength, ListField, WrongAddress, SourceEmpty, DestinationFull, IncompatibleMedium, good, check, refused, conflict, other, volume_of, after_attention, after_unit, guarded}
use Rattle.rules.specs.Fitting.{unfit}
use Rattle.rules.specs.Moves.{no_place, leave, carry, move_of, exchange_of}
use Rattle.rules.specs.Holds.{faults_from, granted, reserve_unit, reserve_elements, reserve, release_unit, release, descriptors}
use Rattle.rules.specs.Search.{others_hold, after_others, alone, search_for, send_tag, tag_list_size}
use Rattle.rules.specs.Form.{fault, formed}
use Rattle.rules.specs.Command.{act, admitted, steps_of}
use Rattle.rules.proofs.Ladder.{on, any-first, any-rest, differ-false}

-- every cause has key 5
pub refused-by : (P : Verdict → Type 0) (h : ℕ) → ((a q : ℕ) → P (check h 5 a q)) → (c : Cause) → P (refused h c)
unfolding refused
refused-by P h f InvalidOperation = f _ _
refused-by P h f (InvalidField at) = f _ _
refused-by P h f ListLength = f _ _
refused-by P h f ListField = f _ _
refused-by P h f WrongAddress = f _ _
refused-by P h f SourceEmpty = f _ _
refused-by P h f DestinationFull = f _ _
refused-by P h f IncompatibleMedium = f _ _

-- the attention told, and cleared
unfoldable pub telling : Tables → ℕ → Verdict
telling t h = Done CHECK-CONDITION [] (Sense h 6 (attention t.head h) (attentionq t.head h) ∷ Attention h 0 0 ∷ [])

-- P holds of each way in which a command of host h is refused
pub record Refusals (P : Verdict → Type 0) (t : Tables) (h : ℕ) : Type 0 where
  pub refuses : (c : Cause) → P (refused h c)
  pub conflicts : P (conflict h)
  pub tells : P (telling t h)

-- what step 3 has shown of a command that comes to step 4
abbrev pub Passed : Operation → Tables → ℕ → Type 0
Passed TestUnitReady t h = other h (unit t.head) ≡ false
Passed RequestSense t h = Unit {0}
Passed Reserve t h = other h (unit t.head) ≡ false
Passed Release t h = Unit {0}
Passed PreventAllow t h = other h (unit t.head) ≡ false
Passed MoveMedium t h = other h (unit t.head) ≡ false
Passed ExchangeMedium t h = other h (unit t.head) ≡ false
Passed ReadElementStatus t h = other h (unit t.head) ≡ false
Passed ModeSense t h = other h (unit t.head) ≡ false
Passed SendVolumeTag t h = others_hold t h ≡ false
Passed RequestVolumeElementAddress t h = others_hold t h ≡ false
Passed Unknown t h = Unit {0}

-- the addresses of a MOVE that is carried out
pub record Moving (t : Tables) (from to : ℕ) : Type 0 where
  pub from-stands : no_place t from ≡ false
  pub to-stands : no_place t to ≡ false
  pub from-full : eqb (volume_of t from) 0 ≡ false
  pub to-empty : differ (volume_of t to) 0 ≡ false
  pub to-fit : unfit t to (volume_of t from) ≡ false

-- those of an EXCHANGE
pub record Exchanging (t : Tables) (from first second : ℕ) : Type 0 where
  pub from-stands : no_place t from ≡ false
  pub first-stands : no_place t first ≡ false
  pub second-stands : no_place t second ≡ false
  pub apart : eqb first from ≡ false
  pub from-full : eqb (volume_of t from) 0 ≡ false
  pub first-full : eqb (volume_of t first) 0 ≡ false
  pub second_empty : all_of (differ (volume_of t second) 0 ∷ differ second from ∷ []) ≡ false
  pub first-fit : unfit t first (volume_of t from) ≡ false
  pub second-fit : unfit t second (volume_of t first) ≡ false

module _ (P : Verdict → Type 0) (t : Tables) (h : ℕ) (r : Refusals P t h) where
  -- ---- steps 1 to 4

  attention-by : (v : Verdict) → P v → P (after_attention t h v)
  unfolding after_attention telling
  attention-by v p = on P _ (λ _. p) (λ _. r.tells)

  guarded-by : (v : Verdict) → (other h (unit t.head) ≡ false → P v) → P (guarded t h v)
  unfolding guarded after_unit
  guarded-by v p = attention-by _ (on P _ (λ _. r.conflicts) p)

  alone-by : (v : Verdict) → (others_hold t h ≡ false → P v) → P (alone t h v)
  unfolding alone after_others
  alone-by v p = attention-by _ (on P _ (λ _. r.conflicts) p)

  admitted-by : (op : Operation) (v : Verdict) → (Passed op t h → P v) → P (admitted op t h v)
  unfolding admitted
  admitted-by TestUnitReady v p = guarded-by v p
  admitted-by RequestSense v p = p tt
  admitted-by Reserve v p = guarded-by v p
  admitted-by Release v p = attention-by v (p tt)
  admitted-by PreventAllow v p = guarded-by v p
  admitted-by MoveMedium v p = guarded-by v p
  admitted-by ExchangeMedium v p = guarded-by v p
  admitted-by ReadElementStatus v p = guarded-by v p
  admitted-by ModeSense v p = guarded-by v p
  admitted-by SendVolumeTag v p = alone-by v p
  admitted-by RequestVolumeElementAddress v p = alone-by v p
  admitted-by Unknown v p = p tt

  formed-by : (op : Operation) (block list : List ℕ) (v : Verdict) → (eqb (fault op t.head block list) 0 ≡ true → P v)
      → P (formed op t h block list v)
  unfolding formed
  formed-by op block list v p = on P _ p (λ _. r.refuses _)

  -- with what steps 3 and 4 have shown
  pub steps-shown-by : (op : Operation) (block list : List ℕ)
      → (Passed op t h → eqb (fault op t.head block list) 0 ≡ true → P (act op t h block list)) → P (steps_of op t h block list)
  unfolding steps_of
  steps-shown-by op block list p = admitted-by op _ (λ m. formed-by op block list _ (p m))

  pub steps-by : (op : Operation) (block list : List ℕ) → (Passed op t h → P (act op t h block list)) → P (steps_of op t h block list)
  steps-by op block list p = steps-shown-by op block list (λ m _. p m)

  -- ---- MOVE and EXCHANGE

  pub move-by : (arm from to : ℕ) → (Moving t from to → P (good h (leave t from ∷ carry t from to ∷ Recount ∷ []))) → P (move_of t h arm from to)
  unfolding move_of
  move-by arm from to p =
      on P _ (λ _. r.refuses _)
      λ e. on P _ (λ _. r.conflicts)
      λ _. on P _ (λ _. r.refuses _)
      λ full. on P _ (λ _. r.refuses _)
      λ empty. on P _ (λ _. r.refuses _)
      λ fit.
      let e₁ = any-rest _ _ e in
      p (record {
        from-stands = any-first _ _ e₁;
        to-stands = any-first _ _ (any-rest _ _ e₁);
        from-full = full;
        to-empty = empty;
        to-fit = fit;
      })

  pub exchange-by : (arm from first second : ℕ)
      → (Exchanging t from first second → P (good h (leave t from ∷ leave t first ∷ carry t first second ∷ carry t from first ∷ Recount ∷ [])))
      → P (exchange_of t h arm from first second)
  unfolding exchange_of
  exchange-by arm from first second p =
      on P _ (λ _. r.refuses _)
      λ e. on P _ (λ _. r.conflicts)
      λ _. on P _ (λ _. r.refuses _)
      λ full. on P _ (λ _. r.refuses _)
      λ empty. on P _ (λ _. r.refuses _)
      λ fit.
      let e₁ = any-rest _ _ e in
      let e₂ = any-rest _ _ e₁ in
      let e₃ = any-rest _ _ e₂ in
      p (record {
        from-stands = any-first _ _ e₁;
        first-stands = any-first _ _ e₂;
        second-stands = any-first _ _ e₃;
        apart = any-first _ _ (any-rest _ _ e₃);
        from-full = any-first _ _ full;
        first-full = any-first _ _ (any-rest _ _ full);
        second_empty = empty;
        first-fit = any-first _ _ fit;
        second-fit = any-first _ _ (any-rest _ _ fit);
      })

  -- ---- RESERVE and RELEASE

  faults-by : (ss : List Slot) (list : List ℕ) (n k : ℕ) (v : Verdict) → P v → P (faults_from ss h list n k v)
  unfolding faults_from
  faults-by ss list zero k v p = p
  faults-by ss list (suc n) k v p =
      on P _ (λ _. r.refuses ListField) (λ _. on P _ (λ _. r.refuses _) (λ _. faults-by ss list n (suc k) v p))

  pub reserve-by : (block list : List ℕ)
      → (any_from (λ p. other h (holder t.elements p)) (places t.elements) 0 ≡ false → P (good h (HoldUnit h ∷ [])))
      → P (good h (granted (roster t.head) h (byte block 2) list)) → P (reserve t h block list)
  unfolding reserve reserve_unit reserve_elements
  reserve-by block list p q =
      on P _ (λ _. on P _ (λ _. r.conflicts) p)
      λ _. on P _ (λ _. r.refuses ListLength)
      λ _. faults-by (roster t.head) list (descriptors list) 0 _ (on P _ (λ _. r.conflicts) (λ _. q))

  -- ---- SEND VOLUME TAG

  pub tag-by : (block list : List ℕ) → (length list ≡ tag_list_size → P (good h (Seek (search_for block list) ∷ []))) → P (send_tag t h block list)
  unfolding send_tag
  tag-by block list p =
      on P _ (λ _. r.refuses ListLength)
      λ e. on P _ (λ _. r.refuses ListField)
      λ _. p (differ-false _ _ e)

pub release-by : (P : Verdict → Type 0) (t : Tables) (h : ℕ) (block : List ℕ)
    → P (good h (release_unit t h)) → P (good h (Free (Under h (byte block 2)) ∷ [])) → P (release t h block)
unfolding release
release-by P t h block p q = on P _ (λ _. p) (λ _. q)
