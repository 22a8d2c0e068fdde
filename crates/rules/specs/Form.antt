-- Step 4, once for all commands: "A bit without a use below, control byte, invert or third party not 0, or a type code above 4: 5/24/00. Bits 5
-- to 7 of byte 1 are ignored." Assumes nothing.
use Rattle.std.specs.Prelude.{ℕ, suc, List, [], ◌∷◌, length, eqb, leb, ltb}
use Rattle.std.specs.Int.Bits.{bit_and}
use Rattle.rules.specs.Choice.{when, all_of, differ}
use Rattle.rules.specs.Bytes.{byte}
use Rattle.rules.specs.Tables.{Tables}
use Rattle.rules.specs.Roster.{drive}
use Rattle.rules.specs.Operation.{Operation, TestUnitReady, RequestSense, Reserve, Release, PreventAllow, MoveMedium, ExchangeMedium, ReadElementStatus, ModeSense, SendVolumeTag, RequestVolumeElementAddress, Unknown}
use Rattle.rules.specs.Order.{Verdict, InvalidField, refused}
use Rattle.rules.specs.Holds.{of_unit}
use Rattle.rules.specs.Listing.{type_code}
use Rattle.rules.specs.Mode.{no_answer}
use Rattle.rules.specs.Search.{known_action, action_code}

-- the bits without a use of each byte, from byte 1 on
unfoldable pub unused : Operation → List ℕ
unused TestUnitReady = 0x1F ∷ 0xFF ∷ 0xFF ∷ 0xFF ∷ 0xFF ∷ []
-- "byte 4 allocation"
unused RequestSense = 0x1F ∷ 0xFF ∷ 0xFF ∷ 0x00 ∷ 0xFF ∷ []
-- "byte 1 bit 0 Element, bits 1-4 third party, byte 2 id"; bytes 3-4 list length
unused Reserve = 0x1E ∷ 0x00 ∷ 0x00 ∷ 0x00 ∷ 0xFF ∷ []
-- "bytes 1 and 2 as RESERVE"
unused Release = 0x1E ∷ 0x00 ∷ 0xFF ∷ 0xFF ∷ 0xFF ∷ []
-- "byte 4 bit 0"
unused PreventAllow = 0x1F ∷ 0xFF ∷ 0xFF ∷ 0xFE ∷ 0xFF ∷ []
-- "bytes 2-3 transport, 4-5 source, 6-7 destination, bit 0 of byte 10 invert"
unused MoveMedium = 0x1F ∷ 0x00 ∷ 0x00 ∷ 0x00 ∷ 0x00 ∷ 0x00 ∷ 0x00 ∷ 0xFF ∷ 0xFF ∷ 0xFF ∷ 0xFF ∷ []
-- "4-5 source, 6-7 first destination, 8-9 second; byte 10 bits 0 and 1 invert"
unused ExchangeMedium = 0x1F ∷ 0x00 ∷ 0x00 ∷ 0x00 ∷ 0x00 ∷ 0x00 ∷ 0x00 ∷ 0x00 ∷ 0x00 ∷ 0xFF ∷ 0xFF ∷ []
-- "byte 1 bit 4 tags, bits 0-3 type .., 2-3 start, 4-5 most elements, 7-9 allocation"
unused ReadElementStatus = 0x00 ∷ 0x00 ∷ 0x00 ∷ 0x00 ∷ 0x00 ∷ 0xFF ∷ 0x00 ∷ 0x00 ∷ 0x00 ∷ 0xFF ∷ 0xFF ∷ []
-- byte 1 bit 3 "DBD is ignored", byte 2 page control and page code, byte 4 allocation
unused ModeSense = 0x17 ∷ 0x00 ∷ 0xFF ∷ 0x00 ∷ 0xFF ∷ []
-- byte 1 bits 0-3 type, 2-3 start, byte 5 bits 0-4 action, 8-9 list length
unused SendVolumeTag = 0x10 ∷ 0x00 ∷ 0x00 ∷ 0xFF ∷ 0xE0 ∷ 0xFF ∷ 0xFF ∷ 0x00 ∷ 0x00 ∷ 0xFF ∷ 0xFF ∷ []
-- byte 1 bit 4 tags, bits 0-3 type, 2-3 start, 4-5 most elements, 7-8 allocation
unused RequestVolumeElementAddress = 0x00 ∷ 0x00 ∷ 0x00 ∷ 0x00 ∷ 0x00 ∷ 0xFF ∷ 0x00 ∷ 0x00 ∷ 0xFF ∷ 0xFF ∷ 0xFF ∷ []
unused Unknown = []

-- the lowest byte, from byte i on, that has a bit without a use; 0 where none has
unfoldable pub stray_from : List ℕ → List ℕ → ℕ → ℕ
stray_from [] block i = 0
stray_from (m ∷ ms) block i = when (eqb (bit_and (byte block i) m) 0) (stray_from ms block (suc i)) i

unfoldable pub stray : List ℕ → List ℕ → ℕ
stray masks block = stray_from masks block 1

-- "a type code above 4"
unfoldable pub type_fault : List ℕ → ℕ
type_fault block = when (ltb drive (type_code block)) 1 0

-- "actions 1h and 5h (primary tags), others 5/24/00"
unfoldable pub action_fault : List ℕ → ℕ
action_fault block = when (known_action (action_code block)) 0 5

-- the lower of two bytes at fault, 0 being none
unfoldable pub lower : ℕ → ℕ → ℕ
lower i j = when (eqb i 0) j (when (eqb j 0) i (when (leb i j) i j))

-- a fault of the command's own, at its byte; 0 where there is none. "a type code above 4"; RESERVE with Element 0: "list length must be 0 (else 5/24/00)";
-- MODE SENSE: "other page controls and pages give 5/24/00", and so does too long an answer
unfoldable pub own_fault : Operation → List ℕ → List ℕ → List ℕ → ℕ
own_fault TestUnitReady head block list = 0
own_fault RequestSense head block list = 0
own_fault Reserve head block list = when (all_of (of_unit block ∷ differ (length list) 0 ∷ [])) 3 0
own_fault Release head block list = 0
own_fault PreventAllow head block list = 0
own_fault MoveMedium head block list = 0
own_fault ExchangeMedium head block list = 0
own_fault ReadElementStatus head block list = type_fault block
own_fault ModeSense head block list = when (no_answer head block) 2 0
own_fault SendVolumeTag head block list = lower (type_fault block) (action_fault block)
own_fault RequestVolumeElementAddress head block list = type_fault block
own_fault Unknown head block list = 0

-- where step 4 finds a fault: the lowest byte; 0 where it finds none
unfoldable pub fault : Operation → List ℕ → List ℕ → List ℕ → ℕ
fault op head block list = lower (stray (unused op) block) (own_fault op head block list)

-- step 4, then the rest
unfoldable pub formed : Operation → Tables → ℕ → List ℕ → List ℕ → Verdict → Verdict
formed op t h block list rest =
    when (eqb (fault op t.head block list) 0) rest (refused h (InvalidField (fault op t.head block list)))
