-- What stands at a place of RESERVE's list: "two zero bytes, number n, address", and the place after it. Assumes nothing.
use Rattle.std.specs.Prelude.{ℕ, ◌+◌, List}
use Rattle.rules.specs.Bytes.{word}
use Rattle.rules.specs.Tables.{descriptor_size}
use Rattle.reader.specs.declared.Step.{Step}

unfoldable pub step_at : List ℕ → ℕ → Step
step_at list at = record { reserved = word list at; number = word list (at + 2); address = word list (at + 4); after = at + descriptor_size }
