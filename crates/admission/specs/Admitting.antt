-- Steps 2 to 4 as the code judges them. Assumes nothing.
use Rattle.std.specs.Prelude.{ℕ, List, [], ◌∷◌, Bool, true, false, Result, Ok, Err, eqb}
use Rattle.rules.specs.Choice.{when, any_of, differ}
use Rattle.rules.specs.Tables.{Tables, unit, attention}
use Rattle.rules.specs.Operation.{Operation, TestUnitReady, RequestSense, Reserve, Release, PreventAllow, MoveMedium, ExchangeMedium, ReadElementStatus, ModeSense, SendVolumeTag, RequestVolumeElementAddress, Unknown}
use Rattle.rules.specs.Order.{Verdict, InvalidField, other, after_attention, conflict, refused}
use Rattle.rules.specs.Form.{fault}
use Rattle.order.specs.Holders.{any_other}
use Rattle.operation.specs.declared.Operation.{Operation as Declared}
use Rattle.operation.specs.Meaning.{meaning}
use Rattle.admission.specs.declared.Barrier.{Barrier}
use Rattle.admission.specs.declared.Barrier.TheVariants.{Pending, Held, Faulty}
use Rattle.admission.specs.declared.Reach.{Reach}
use Rattle.admission.specs.declared.Reach.TheVariants.{Nothing, Unit as OfUnit, Elements}

-- "2. Attention pending and not REQUEST SENSE"; step 1 comes before it
unfoldable pub meets_attention : Operation → Bool
meets_attention TestUnitReady = true
meets_attention RequestSense = false
meets_attention Reserve = true
meets_attention Release = true
meets_attention PreventAllow = true
meets_attention MoveMedium = true
meets_attention ExchangeMedium = true
meets_attention ReadElementStatus = true
meets_attention ModeSense = true
meets_attention SendVolumeTag = true
meets_attention RequestVolumeElementAddress = true
meets_attention Unknown = false

-- how far step 3 looks: "3. Unit held by another host .. (never for RELEASE, REQUEST SENSE)"; B5h and B6h: "if any other host holds unit or element";
-- step 1 comes before it
unfoldable pub reach_of : Operation → Reach
reach_of TestUnitReady = OfUnit
reach_of RequestSense = Nothing
reach_of Reserve = OfUnit
reach_of Release = Nothing
reach_of PreventAllow = OfUnit
reach_of MoveMedium = OfUnit
reach_of ExchangeMedium = OfUnit
reach_of ReadElementStatus = OfUnit
reach_of ModeSense = OfUnit
reach_of SendVolumeTag = Elements
reach_of RequestVolumeElementAddress = Elements
reach_of Unknown = Nothing

unfoldable pub pending : Operation → List ℕ → ℕ → Bool
pending op head h = when (meets_attention op) (differ (attention head h) 0) false

unfoldable pub others_hold : List ℕ → List ℕ → ℕ → Bool
others_hold head elements h = any_of (other h (unit head) ∷ any_other elements h ∷ [])

unfoldable pub held_in : Reach → List ℕ → List ℕ → ℕ → Bool
held_in Nothing head elements h = false
held_in OfUnit head elements h = other h (unit head)
held_in Elements head elements h = others_hold head elements h

unfoldable pub held : Operation → List ℕ → List ℕ → ℕ → Bool
held op head elements h = held_in (reach_of op) head elements h

-- nothing is in the way, or something is
abbrev pub Admission : Type 0
Admission = Result (Unit {0}) Barrier

unfoldable pub admission : Declared → List ℕ → List ℕ → ℕ → List ℕ → List ℕ → Admission
admission op head elements h block list =
    when (pending (meaning op) head h) (Err Pending)
    (when (held (meaning op) head elements h) (Err Held)
    (when (eqb (fault (meaning op) head block list) 0) (Ok (tt {0})) (Err (Faulty (fault (meaning op) head block list)))))

-- what a command of host h comes to by each answer, where rest is what follows step 4
unfoldable pub on_admission : Tables → ℕ → Admission → Verdict → Verdict
on_admission t h (Err Pending) rest = after_attention t h rest
on_admission t h (Err Held) rest = conflict h
on_admission t h (Err (Faulty at)) rest = refused h (InvalidField at)
on_admission t h (Ok done) rest = rest
