-- "Show that no second outcome fits the same statement", of the entries themselves: what an entry hands back is its reply, and the tables and the answer
-- buffer as they then are. Assumes nothing.
use Rattle.std.specs.Prelude.{ℕ, ◌≡◌, List}
use Rattle.rules.specs.Tables.{Tables}
use Rattle.rules.specs.Command.{command, import, export, reset}
use Rattle.rules.specs.Replay.{replay}
use Rattle.order.specs.declared.Reply.{Reply}
use Rattle.order.specs.Ending.{ended}
use Rattle.replay.specs.declared.Replayed.{Replayed}
use Rattle.replay.specs.Ended.{ended as ended_replay}

-- the statement of each kind of entry, at what came in: the reply, the tables and the buffer at exit

abbrev pub CommandEnds : Tables → ℕ → List ℕ → List ℕ → List ℕ → Reply → Tables → List ℕ → Type 0
CommandEnds t host block parameters answer r u buffer = ended r u buffer ≡ command t host block parameters answer

abbrev pub ImportEnds : Tables → ℕ → ℕ → Reply → Tables → List ℕ → Type 0
ImportEnds t address volume r u buffer = ended r u buffer ≡ import t address volume

abbrev pub ExportEnds : Tables → ℕ → Reply → Tables → List ℕ → Type 0
ExportEnds t address r u buffer = ended r u buffer ≡ export t address

abbrev pub ResetEnds : Tables → Reply → Tables → List ℕ → Type 0
ResetEnds t r u buffer = ended r u buffer ≡ reset t

-- something fits, and what fits is the same reply, the same tables and the same buffer
pub record OnlyOne (Fits : Reply → Tables → List ℕ → Type 0) : Type 0 where
  pub fits : (r : Reply) × (u : Tables) × (buffer : List ℕ) × Fits r u buffer
  pub same-reply : (r s : Reply) (u w : Tables) (b c : List ℕ) → Fits r u b → Fits s w c → r ≡ s
  pub same_tables : (r s : Reply) (u w : Tables) (b c : List ℕ) → Fits r u b → Fits s w c → u ≡ w
  pub same-buffer : (r s : Reply) (u w : Tables) (b c : List ℕ) → Fits r u b → Fits s w c → b ≡ c

-- ---- replay: it lends no answer buffer

abbrev pub ReplayEnds : Tables → List ℕ → ℕ → ℕ → Replayed → Tables → Type 0
ReplayEnds t log expected budget r u = ended_replay r u ≡ replay t log expected budget

pub record OneReplay (Fits : Replayed → Tables → Type 0) : Type 0 where
  pub fits : (r : Replayed) × (u : Tables) × Fits r u
  pub same-replayed : (r s : Replayed) (u w : Tables) → Fits r u → Fits s w → r ≡ s
  pub same_tables : (r s : Replayed) (u w : Tables) → Fits r u → Fits s w → u ≡ w
