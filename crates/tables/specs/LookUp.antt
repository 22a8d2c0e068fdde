-- What a look-up answers, said of the elements alone. Assumes nothing.
use Rattle.std.specs.Prelude.{ℕ, Bool, List, ◌==◌, Option, Some, None}
use Rattle.rules.specs.Choice.{when, differ}
use Rattle.rules.specs.Roster.{Slot, place_of, kind_of, transport, port}
use Rattle.tables.specs.declared.Spot.{Spot}
use Rattle.tables.specs.declared.Types.{Types}
use Rattle.tables.specs.declared.Types.TheVariants.{Any, Transport, Port}

-- an element of type k is looked for: any element; a transport; an import/export element
unfoldable pub admits : Types → ℕ → Bool
admits Any k = differ k 0
admits Transport k = k == transport
admits Port k = k == port

-- the place of an address, if it is an element's of these types
unfoldable pub found : Types → List Slot → ℕ → Option ℕ
found ts ss a = when (admits ts (kind_of ss a)) (Some (place_of ss a)) None

abbrev pub spot : ℕ → ℕ → Spot
spot k p = record { kind = k; place = p }

-- type and place of an address: 0 and the number of elements where it is no element's
unfoldable pub spot_of : List Slot → ℕ → Spot
spot_of ss a = spot (kind_of ss a) (place_of ss a)

-- by cases on a look-up's answer
unfoldable pub on_found : {A : Type 0} → Option ℕ → (ℕ → A) → A → A
on_found (Some p) f y = f p
on_found None f y = y
