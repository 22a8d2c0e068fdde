-- What the answer of steps 2 to 4 tells a caller: the rules' steps, case by case. Assumes nothing.
use Prim.Native.Nat.{ℕ}
use native.Mathlib.Omega.{arith}
use mathlib.Core.Path.{◌≡◌, refl, sym, ◌∙◌}
use mathlib.Core.Logic.{◌≢◌}
use mathlib.Core.Bool.{Bool, true, false, not}
use mathlib.Core.List.{List}
use lib.Dec.{eqb}
use borrow.Author.Tests.{eqb-true, ne_eqb}
use Rattle.rules.specs.Choice.{when, differ}
use Rattle.rules.specs.Tables.{Tables, attention}
use Rattle.rules.specs.Operation.{Operation, TestUnitReady, RequestSense, Reserve, Release, PreventAllow, MoveMedium, ExchangeMedium, ReadElementStatus, ModeSense, SendVolumeTag, RequestVolumeElementAddress, Unknown}
use Rattle.rules.specs.Order.{Verdict, conflict, refused, InvalidField, after_attention, after_unit, guarded}
use Rattle.rules.specs.Search.{others_hold as holds_any, after_others, alone}
use Rattle.rules.specs.Form.{fault, formed}
use Rattle.form.specs.Faults.{byte_at}
use Rattle.rules.specs.Command.{admitted}
use Rattle.rules.proofs.Ladder.{differ-true}
use Rattle.order.specs.Holders.{any_other}
use Rattle.operation.specs.declared.Operation.{Operation as Declared}
use Rattle.operation.specs.Meaning.{meaning}
use Rattle.std.specs.Prelude.{Result, Ok, Err, Option, Some, None}
use Rattle.admission.specs.declared.Barrier.TheVariants.{Pending, Held, Faulty}
use Rattle.form.proofs.Lowest.{told-is, told-some, told-none}
use Rattle.admission.specs.Admitting.{Admission, meets_attention, reach_of, others_hold, held_in, pending, held, admission, on_admission}

module _ (t : Tables) (h : ℕ) (v : Verdict) where
  -- step 2 by the test of the code, whatever step 3 is
  attention-by : (later : Verdict) → after_attention t h later ≡ when (differ (attention t.head h) 0) (after_attention t h v) later
  unfolding after_attention differ when
  attention-by later = go (eqb (attention t.head h) 0) _
    where
      go : (b : Bool) (told : Verdict) → when b later told ≡ when (not b) (when b v told) later
      go true told = refl
      go false told = refl

  -- steps 2 and 3
  admitted-by : (op : Operation) → admitted op t h v ≡ when (pending op t.head h) (after_attention t h v) (when (held op t.head t.elements h) (conflict h) v)
  unfolding admitted guarded after_unit alone after_others holds_any any_other pending held held_in others_hold meets_attention reach_of when
  admitted-by TestUnitReady = attention-by _
  admitted-by RequestSense = refl
  admitted-by Reserve = attention-by _
  admitted-by Release = attention-by _
  admitted-by PreventAllow = attention-by _
  admitted-by MoveMedium = attention-by _
  admitted-by ExchangeMedium = attention-by _
  admitted-by ReadElementStatus = attention-by _
  admitted-by ModeSense = attention-by _
  admitted-by SendVolumeTag = attention-by _
  admitted-by RequestVolumeElementAddress = attention-by _
  admitted-by Unknown = refl

-- attention is looked at where it is met
waits : (op : Operation) (head : List ℕ) (h : ℕ) → pending op head h ≡ true → attention head h ≢ 0
unfolding pending when
waits op head h = go (meets_attention op)
  where
    go : (b : Bool) → when b (differ (attention head h) 0) false ≡ true → attention head h ≢ 0
    go true e = differ-true _ _ e
    go false e = λ z. let y : ◌≡◌ {A = ℕ} 0 1 = cc in omega arith

-- nothing that follows is looked at where attention is told
alike : (t : Tables) (h : ℕ) (v w : Verdict) → attention t.head h ≢ 0 → after_attention t h v ≡ after_attention t h w
unfolding after_attention when
alike t h v w n = rw (borrow.Author.Tests.ne_eqb (attention t.head h) 0 n) refl

-- ---- for callers: the answer g

module _ (op : Declared) (t : Tables) (h : ℕ) (block list : List ℕ) (g : Admission) (is : g ≡ admission op t.head t.elements h block list) where
  pub is-pending : g ≡ Err Pending → attention t.head h ≢ 0
  unfolding admission when
  is-pending p = go (pending (meaning op) t.head h) refl
    where
      at : ℕ
      at = fault (meaning op) t.head block list

      never : (b c : Bool) (n : ℕ) → ◌≡◌ {A = Admission} (Err Pending) (when b (Err Held) (when c (Ok (tt {0})) (Err (Faulty n)))) → ⊥
      never true c n q = let y : ◌≡◌ {A = ℕ} 0 1 = cc in omega arith
      never false true n q = let y : ◌≡◌ {A = ℕ} 0 1 = cc in omega arith
      never false false n q = let y : ◌≡◌ {A = ℕ} 0 1 = cc in omega arith

      go : (b : Bool) → pending (meaning op) t.head h ≡ b → attention t.head h ≢ 0
      go true e = waits (meaning op) t.head h e
      go false e = λ _. never (held (meaning op) t.head t.elements h) (eqb at 0) at (sym p ∙ is ∙ rw e refl)

  -- what is let through has no fault
  pub is_open : g ≡ Ok (tt {0}) → fault (meaning op) t.head block list ≡ 0
  unfolding admission when
  is_open p = go (pending (meaning op) t.head h) (held (meaning op) t.head t.elements h) (eqb at 0) refl (sym p ∙ is)
    where
      at : ℕ
      at = fault (meaning op) t.head block list

      go : (b c d : Bool) → eqb at 0 ≡ d → ◌≡◌ {A = Admission} (Ok (tt {0})) (when b (Err Pending) (when c (Err Held) (when d (Ok (tt {0})) (Err (Faulty at))))) → at ≡ 0
      go true c d e q = absurd (let y : ◌≡◌ {A = ℕ} 0 1 = cc in omega arith)
      go false true d e q = absurd (let y : ◌≡◌ {A = ℕ} 0 1 = cc in omega arith)
      go false false true e q = eqb-true at 0 e
      go false false false e q = absurd (let y : ◌≡◌ {A = ℕ} 0 1 = cc in omega arith)

  pub admission-is : (rest : Verdict) → admitted (meaning op) t h (formed (meaning op) t h block list rest) ≡ on_admission t h g rest
  unfolding admission on_admission formed when
  admission-is rest = admitted-by t h _ (meaning op) ∙ rw is (go (pending (meaning op) t.head h) refl (held (meaning op) t.head t.elements h) (eqb (fault (meaning op) t.head block list) 0))
    where
      at : ℕ
      at = fault (meaning op) t.head block list

      go : (b : Bool) → pending (meaning op) t.head h ≡ b → (c d : Bool)
          → when b (after_attention t h (when d rest (refused h (InvalidField at)))) (when c (conflict h) (when d rest (refused h (InvalidField at))))
          ≡ on_admission t h (when b (Err Pending) (when c (Err Held) (when d (Ok (tt {0})) (Err (Faulty at))))) rest
      go true e c d = alike t h _ rest (waits (meaning op) t.head h e)
      go false e true d = refl
      go false e false true = refl
      go false e false false = refl

-- ---- what step 4 tells, as the code hands it on: the answer f is of the number that the rules say

module _ (n : ℕ) (f : Option ℕ) (is : f ≡ byte_at n) where
  pub faulty : (i : ℕ) → f ≡ Some i → ◌≡◌ {A = Admission} (Err (Faulty i)) (when (eqb n 0) (Ok (tt {0})) (Err (Faulty n)))
  unfolding when
  faulty i e = rw (ne_eqb n 0 (told-some i n (sym e ∙ is)), told-is i n (sym e ∙ is)) refl

  pub unbarred : f ≡ None → ◌≡◌ {A = Admission} (Ok (tt {0})) (when (eqb n 0) (Ok (tt {0})) (Err (Faulty n)))
  unfolding when
  unbarred e = rw (told-none n (sym e ∙ is)) refl
