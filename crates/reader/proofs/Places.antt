-- What the reader reads at the place of the rules' k-th descriptor, from 0. Assumes nothing.
use Prim.Native.Nat.{ℕ, ◌+◌, ◌*◌}
use mathlib.Core.Path.{◌≡◌, refl}
use mathlib.Core.List.{List}
use Rattle.rules.specs.Tables.{descriptor_size}
use Rattle.rules.specs.Holds.{reserved_bytes, number, address}
use Rattle.reader.specs.Read.{step_at}

pub the-kth : (list : List ℕ) (k : ℕ)
    → step_at list (descriptor_size * k)
    ≡ record { reserved = reserved_bytes list k; number = number list k; address = address list k; after = descriptor_size * k + descriptor_size }
unfolding step_at reserved_bytes number address
the-kth list k = refl
