-- Sound tables stay sound, whatever is called: number 1 is never a call's own doing. Assumes nothing.
use Rattle.std.specs.Prelude.{◌≡◌, true}
use Rattle.rules.specs.Tables.{Tables}
use Rattle.rules.specs.Sound.{sound}
use Rattle.rules.specs.Command.{Call}
use Rattle.rules.specs.Histories.{next}

-- every command and every event, refused ones too
abbrev pub SoundStays : Type 0
SoundStays = (t : Tables) (c : Call) → sound t ≡ true → sound (next t c) ≡ true
