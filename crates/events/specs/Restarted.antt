-- Reset as the code carries it out, host by host. Assumes nothing.
use Rattle.std.specs.Prelude.{ℕ, List, []}
use Rattle.rules.specs.Tables.{lent, changes, bare}
use Rattle.rules.specs.Events.{restarted_from}

-- the head after one host's changes of a reset
unfoldable pub restarted_at : ℕ → List ℕ → List ℕ
restarted_at h head = (changes (restarted_from 1 h) (lent head [] bare)).head
