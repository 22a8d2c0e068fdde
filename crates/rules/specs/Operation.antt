-- The commands, told apart by the first byte of a block. Assumes nothing.
use Rattle.std.specs.Prelude.{ℕ, List, eqb}
use Rattle.rules.specs.Choice.{when}
use Rattle.rules.specs.Bytes.{byte}

-- "Eight commands: TEST UNIT READY 00h, REQUEST SENSE 03h, RESERVE 16h, RELEASE 17h, PREVENT ALLOW 1Eh, MOVE MEDIUM A5h, EXCHANGE MEDIUM A6h,
-- READ ELEMENT STATUS B8h"; "Backup hosts want MODE SENSE 1Ah"; "Add SEND VOLUME TAG B6h and REQUEST VOLUME ELEMENT ADDRESS B5h"; `Unknown` is any "Other first byte"
pub data Operation : Type 0 where
  TestUnitReady : Operation
  RequestSense : Operation
  Reserve : Operation
  Release : Operation
  PreventAllow : Operation
  MoveMedium : Operation
  ExchangeMedium : Operation
  ReadElementStatus : Operation
  ModeSense : Operation
  SendVolumeTag : Operation
  RequestVolumeElementAddress : Operation
  Unknown : Operation

abbrev pub TEST-UNIT-READY : ℕ
TEST-UNIT-READY = 0x00

abbrev pub REQUEST-SENSE : ℕ
REQUEST-SENSE = 0x03

abbrev pub RESERVE : ℕ
RESERVE = 0x16

abbrev pub RELEASE : ℕ
RELEASE = 0x17

abbrev pub PREVENT-ALLOW : ℕ
PREVENT-ALLOW = 0x1E

abbrev pub MOVE-MEDIUM : ℕ
MOVE-MEDIUM = 0xA5

abbrev pub EXCHANGE-MEDIUM : ℕ
EXCHANGE-MEDIUM = 0xA6

abbrev pub READ-ELEMENT-STATUS : ℕ
READ-ELEMENT-STATUS = 0xB8

abbrev pub MODE-SENSE : ℕ
MODE-SENSE = 0x1A

abbrev pub SEND-VOLUME-TAG : ℕ
SEND-VOLUME-TAG = 0xB6

abbrev pub REQUEST-VOLUME-ELEMENT-ADDRESS : ℕ
REQUEST-VOLUME-ELEMENT-ADDRESS = 0xB5

-- the operation of a first byte: the one place where it is decoded
unfoldable pub decoded : ℕ → Operation
decoded first =
    when (eqb first TEST-UNIT-READY) TestUnitReady
    (when (eqb first REQUEST-SENSE) RequestSense
    (when (eqb first RESERVE) Reserve
    (when (eqb first RELEASE) Release
    (when (eqb first PREVENT-ALLOW) PreventAllow
    (when (eqb first MOVE-MEDIUM) MoveMedium
    (when (eqb first EXCHANGE-MEDIUM) ExchangeMedium
    (when (eqb first READ-ELEMENT-STATUS) ReadElementStatus
    (when (eqb first MODE-SENSE) ModeSense
    (when (eqb first SEND-VOLUME-TAG) SendVolumeTag
    (when (eqb first REQUEST-VOLUME-ELEMENT-ADDRESS) RequestVolumeElementAddress Unknown))))))))))

unfoldable pub operation : List ℕ → Operation
operation block = decoded (byte block 0)
