-- The house numbers and the choice of the command: what every call ends with, for any input. Assumes nothing.
use Rattle.std.specs.Prelude.{ℕ, ◌/◌, List, [], ◌∷◌, Bool, true, false, length, eqb}
use Rattle.rules.specs.Choice.{when, any_of}
use Rattle.rules.specs.Bytes.{byte, word}
use Rattle.rules.specs.Tables.{Tables, hosts}
use Rattle.rules.specs.Sound.{sound, within}
use Rattle.rules.specs.Operation.{Operation, TestUnitReady, RequestSense, Reserve, Release, PreventAllow, MoveMedium, ExchangeMedium, ReadElementStatus, ModeSense, SendVolumeTag, RequestVolumeElementAddress, Unknown, operation}
use Rattle.rules.specs.Order.{Verdict, Number, Outcome, InvalidOperation, outcome, fits, good, refused, after_attention, guarded}
use Rattle.rules.specs.Moves.{move, exchange}
use Rattle.rules.specs.Holds.{reserve, release, prevent}
use Rattle.rules.specs.Sense.{request_sense}
use Rattle.rules.specs.Listing.{read_status}
use Rattle.rules.specs.Mode.{mode_sense}
use Rattle.rules.specs.Search.{alone, send_tag, request_address}
use Rattle.rules.specs.Form.{formed}
use Rattle.rules.specs.Events.{importing, exporting, resetting}

-- what a command is called with, beside the tables
pub record Request : Type 0 where
  pub host : ℕ
  pub block : List ℕ
  pub parameters : List ℕ
  pub buffer : List ℕ

-- from step 5 on
unfoldable pub act : Operation → Tables → ℕ → List ℕ → List ℕ → Verdict
-- "TEST UNIT READY: GOOD."
act TestUnitReady t h block list = good h []
act RequestSense t h block list = request_sense t h block
act Reserve t h block list = reserve t h block list
act Release t h block list = release t h block
act PreventAllow t h block list = prevent t h block
act MoveMedium t h block list = move t h block
act ExchangeMedium t h block list = exchange t h block
act ReadElementStatus t h block list = read_status t h block
act ModeSense t h block list = mode_sense t h block
act SendVolumeTag t h block list = send_tag t h block list
act RequestVolumeElementAddress t h block list = request_address t h block
-- "1. Other first byte: 5/20/00."
act Unknown t h block list = refused h InvalidOperation

-- steps 1 to 3, then the rest: an other first byte meets neither step 2 nor step 3; "2. .. not REQUEST SENSE"; "3. .. never for RELEASE, REQUEST SENSE";
-- "B5h and B6h give 18h if any other host holds unit or element, at step 3"
unfoldable pub admitted : Operation → Tables → ℕ → Verdict → Verdict
admitted TestUnitReady t h rest = guarded t h rest
admitted RequestSense t h rest = rest
admitted Reserve t h rest = guarded t h rest
admitted Release t h rest = after_attention t h rest
admitted PreventAllow t h rest = guarded t h rest
admitted MoveMedium t h rest = guarded t h rest
admitted ExchangeMedium t h rest = guarded t h rest
admitted ReadElementStatus t h rest = guarded t h rest
admitted ModeSense t h rest = guarded t h rest
admitted SendVolumeTag t h rest = alone t h rest
admitted RequestVolumeElementAddress t h rest = alone t h rest
admitted Unknown t h rest = rest

-- steps 1 to 8
unfoldable pub steps_of : Operation → Tables → ℕ → List ℕ → List ℕ → Verdict
steps_of op t h block list = admitted op t h (formed op t h block list (act op t h block list))

unfoldable pub steps : Tables → ℕ → List ℕ → List ℕ → Verdict
steps t h block list = steps_of (operation block) t h block list

-- ---- house numbers 2 to 4

-- "Length by the top three bits of the first byte: 0 gives 6; 1 or 2 gives 10; 4 gives 16; 5 gives 12; 3, 6, 7 any length but 0."
unfoldable pub group_fits : ℕ → ℕ → Bool
group_fits group n =
    when (eqb group 0) (eqb n 6)
    (when (any_of (eqb group 1 ∷ eqb group 2 ∷ [])) (eqb n 10)
    (when (eqb group 4) (eqb n 16)
    (when (eqb group 5) (eqb n 12) true)))

-- number 3: "command block empty or of wrong length"
unfoldable pub block_fits : List ℕ → Bool
block_fits block = when (eqb (length block) 0) false (group_fits (byte block 0 / 32) (length block))

-- number 4: "for RESERVE not as many as bytes 3-4 say; for any other known command not none": how many are wanted
unfoldable pub wanted : Operation → List ℕ → ℕ → Bool
wanted TestUnitReady block n = eqb n 0
wanted RequestSense block n = eqb n 0
wanted Reserve block n = eqb n (word block 3)
wanted Release block n = eqb n 0
wanted PreventAllow block n = eqb n 0
wanted MoveMedium block n = eqb n 0
wanted ExchangeMedium block n = eqb n 0
wanted ReadElementStatus block n = eqb n 0
wanted ModeSense block n = eqb n 0
-- "Number 4 reads B6h's own list length"
wanted SendVolumeTag block n = eqb n (word block 8)
wanted RequestVolumeElementAddress block n = eqb n 0
wanted Unknown block n = true

unfoldable pub parameters_fit : List ℕ → List ℕ → Bool
parameters_fit block parameters = wanted (operation block) block (length parameters)

-- house numbers 2 to 4, then the rest
unfoldable pub after_numbers : Request → Verdict → Verdict
after_numbers r rest =
    when (within 1 hosts r.host)
    (when (block_fits r.block) (when (parameters_fit r.block r.parameters) rest (Number 4)) (Number 3))
    (Number 2)

-- all but number 1
unfoldable pub judged : Tables → Request → Verdict
judged t r = after_numbers r (fits r.buffer (steps t r.host r.block r.parameters))

unfoldable pub judge : Tables → Request → Verdict
judge t r = when (sound t) (judged t r) (Number 1)

-- ---- what every call ends with

-- the calls: a command, and the events import (address, volume), export (address), reset
pub data Call : Type 0 where
  Command : Request → Call
  Import : ℕ → ℕ → Call
  Export : ℕ → Call
  Reset : Call

unfoldable pub verdict : Tables → Call → Verdict
verdict t (Command r) = judge t r
verdict t (Import address volume) = importing t address volume
verdict t (Export address) = exporting t address
verdict t Reset = resetting t

-- the answer buffer that a call lends; events lend none
unfoldable pub buffer_of : Call → List ℕ
buffer_of (Command r) = r.buffer
buffer_of (Import address volume) = []
buffer_of (Export address) = []
buffer_of Reset = []

unfoldable pub serve : Tables → Call → Outcome
serve t c = outcome t (buffer_of c) (verdict t c)

-- one for each kind of entry
unfoldable pub command : Tables → ℕ → List ℕ → List ℕ → List ℕ → Outcome
command t host block parameters buffer =
    serve t (Command (record { host = host; block = block; parameters = parameters; buffer = buffer }))

unfoldable pub import : Tables → ℕ → ℕ → Outcome
import t address volume = serve t (Import address volume)

unfoldable pub export : Tables → ℕ → Outcome
export t address = serve t (Export address)

unfoldable pub reset : Tables → Outcome
reset t = serve t Reset
