-- "Wrong cartridge, wrong drive": what stands in the drives, after any history. Assumes nothing.
use Rattle.std.specs.Prelude.{ℕ, ◌+◌, ◌-◌, ◌<◌, ◌≡◌, ◌≢◌, true, List}
use Rattle.rules.specs.Bytes.{byte}
use Rattle.rules.specs.Roster.{range}
use Rattle.rules.specs.Tables.{Tables}
use Rattle.rules.specs.Fitting.{accepts}
use Rattle.rules.specs.Sound.{sound}
use Rattle.rules.specs.Order.{Outcome, volume_of}
use Rattle.rules.specs.Command.{Call}
use Rattle.rules.specs.Histories.{History, AsGiven}

-- "Demands 2 and 3 read with both tables as given and unchanged": no call writes them, nor the labels, on any tables
abbrev pub TablesAsGiven : Type 0
TablesAsGiven = (t u : Tables) (cs : List Call) (os : List Outcome) → History t cs os u → AsGiven t u

-- No history ever puts a cartridge into a drive that can't take it: what stands in the k-th drive, from 0, is of a generation that the k-th mask has,
-- both as they were lent at the start.
abbrev pub RightDrives : Type 0
RightDrives =
    (t u : Tables) (cs : List Call) (os : List Outcome) → History t cs os u → sound t ≡ true
    → (k : ℕ) → k < (range t.head 3).count → let v = volume_of u ((range t.head 3).first + k) in
    v ≢ 0 → accepts (byte t.rest.masks k) (byte t.rest.generations (v - 1)) ≡ true
