-- The code's operations as the rules name them. Assumes nothing.
use Rattle.std.specs.Prelude.{ℕ, ◌≡◌, List, true}
use Rattle.rules.specs.Operation.{Operation, TestUnitReady, RequestSense, Reserve, Release, PreventAllow, MoveMedium, ExchangeMedium, ReadElementStatus, ModeSense, SendVolumeTag, RequestVolumeElementAddress, Unknown, operation}
use Rattle.rules.specs.Command.{block_fits}
use Rattle.operation.specs.declared.Operation.{Operation as Declared}
use Rattle.operation.specs.declared.Operation.TheVariants as declared

unfoldable pub meaning : Declared → Operation
meaning declared.TestUnitReady = TestUnitReady
meaning declared.RequestSense = RequestSense
meaning declared.Reserve = Reserve
meaning declared.Release = Release
meaning declared.PreventAllow = PreventAllow
meaning declared.MoveMedium = MoveMedium
meaning declared.ExchangeMedium = ExchangeMedium
meaning declared.ReadElementStatus = ReadElementStatus
meaning declared.ModeSense = ModeSense
meaning declared.SendVolumeTag = SendVolumeTag
meaning declared.RequestVolumeElementAddress = RequestVolumeElementAddress
meaning declared.Unknown = Unknown

-- the operation was decoded from the block, which has its length
pub record Fitting (op : Declared) (block : List ℕ) : Type 0 where
  pub decoded : meaning op ≡ operation block
  pub fits : block_fits block ≡ true
