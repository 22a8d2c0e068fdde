-- The command that was chosen is the one that was sent. Assumes nothing.
use Prim.Native.Nat.{ℕ}
use mathlib.Core.Path.{◌≡◌, refl}
use mathlib.Core.List.{List}
use Rattle.rules.specs.Tables.{Tables}
use Rattle.rules.specs.Order.{fits}
use Rattle.rules.specs.Command.{act}
use Rattle.operation.specs.declared.Operation.{Operation}
use Rattle.operation.specs.Meaning.{meaning}

pub acts : (op o : Operation) → op ≡ o → (t : Tables) (h : ℕ) (block list buffer : List ℕ)
    → fits buffer (act (meaning o) t h block list) ≡ fits buffer (act (meaning op) t h block list)
acts op o told t h block list buffer = rw told refl
