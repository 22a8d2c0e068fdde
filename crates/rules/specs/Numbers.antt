-- "House numbers": the condition of each, apart from the order in which a call is judged. Assumes nothing.
use Rattle.std.specs.Prelude.{ℕ, ◌<◌, ◌≡◌, ◌≢◌, List, [], ◌∷◌, Bool, true, false, not, length, get_or, eqb, ltb}
use Rattle.rules.specs.Choice.{when, differ}
use Rattle.rules.specs.Tables.{Tables, hosts, mask}
use Rattle.rules.specs.Sound.{sound, within}
use Rattle.rules.specs.Order.{Verdict, Number, Prevented, Done, GOOD, volume_of}
use Rattle.rules.specs.Events.{no_port, wrong_volume}
use Rattle.rules.specs.Command.{Request, Call, Command, Import, Export, Reset, steps, block_fits, parameters_fit}

-- the bytes of an answer that would be GOOD
unfoldable pub good_bytes : Verdict → List ℕ
good_bytes (Number n) = []
good_bytes (Prevented n h) = []
good_bytes (Done status bytes cs) = when (eqb status GOOD) bytes []

-- number 5: "answer buffer shorter than the bytes to be returned", "only where the status would be GOOD"
unfoldable pub too_short : Tables → Request → Bool
too_short t r = ltb (length r.buffer) (length (good_bytes (steps t r.host r.block r.parameters)))

-- the conditions by their number, from 0 on: "0 is none of these"
unfoldable pub conditions : Tables → Call → List Bool
-- "tables not sound; host not 1 to 8 (commands); command block empty or of wrong length; parameter bytes ..; answer buffer shorter .."
conditions t (Command r) =
    false
    ∷ not (sound t)
    ∷ not (within 1 hosts r.host)
    ∷ not (block_fits r.block)
    ∷ not (parameters_fit r.block r.parameters)
    ∷ too_short t r
    ∷ []
-- "import, export: address is no import/export element; prevent mask not 0; import: element full; volume number 0, above V, or already in the library"
conditions t (Import address volume) =
    false
    ∷ not (sound t)
    ∷ false
    ∷ false
    ∷ false
    ∷ false
    ∷ no_port t address
    ∷ differ (mask t.head) 0
    ∷ differ (volume_of t address) 0
    ∷ wrong_volume t volume
    ∷ []
-- "export: element empty"
conditions t (Export address) =
    false
    ∷ not (sound t)
    ∷ false
    ∷ false
    ∷ false
    ∷ false
    ∷ no_port t address
    ∷ differ (mask t.head) 0
    ∷ eqb (volume_of t address) 0
    ∷ []
conditions t Reset = false ∷ not (sound t) ∷ []

-- the condition of number n
unfoldable pub condition : Tables → Call → ℕ → Bool
condition t c n = get_or (conditions t c) n false

-- number n is that of the first condition that holds, "tested in this order"; 0 where none does
pub record Foremost (t : Tables) (c : Call) (n : ℕ) : Type 0 where
  pub none_before : (m : ℕ) → m < n → condition t c m ≡ false
  pub own : n ≢ 0 → condition t c n ≡ true
  pub else-none : n ≡ 0 → (m : ℕ) → condition t c m ≡ false
