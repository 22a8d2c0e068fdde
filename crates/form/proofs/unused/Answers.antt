-- `form::unused` meets its contract. Assumes nothing.
use Rattle.rules.specs.Form.{unused}
use Rattle.operation.specs.Meaning.{meaning}
use Rattle.form.proofs.Masked.{masked}
use Rattle.form.proofs.unused.Goals as goal

pub stray-requires : goal.stray-requires
unfolding meaning unused
stray-requires c = rw c.in-TestUnitReady.is at (masked _ _ c.requires)

pub stray-requires-in-RequestSense : goal.stray-requires-in-RequestSense
unfolding meaning unused
stray-requires-in-RequestSense c = rw c.in-RequestSense.is at (masked _ _ c.requires)

pub stray-requires-in-Reserve : goal.stray-requires-in-Reserve
unfolding meaning unused
stray-requires-in-Reserve c = rw c.in-Reserve.is at (masked _ _ c.requires)

pub stray-requires-in-Release : goal.stray-requires-in-Release
unfolding meaning unused
stray-requires-in-Release c = rw c.in-Release.is at (masked _ _ c.requires)

pub stray-requires-in-PreventAllow : goal.stray-requires-in-PreventAllow
unfolding meaning unused
stray-requires-in-PreventAllow c = rw c.in-PreventAllow.is at (masked _ _ c.requires)

pub stray-requires-in-MoveMedium : goal.stray-requires-in-MoveMedium
unfolding meaning unused
stray-requires-in-MoveMedium c = rw c.in-MoveMedium.is at (masked _ _ c.requires)

pub stray-requires-in-ExchangeMedium : goal.stray-requires-in-ExchangeMedium
unfolding meaning unused
stray-requires-in-ExchangeMedium c = rw c.in-ExchangeMedium.is at (masked _ _ c.requires)

pub stray-requires-in-ReadElementStatus : goal.stray-requires-in-ReadElementStatus
unfolding meaning unused
stray-requires-in-ReadElementStatus c = rw c.in-ReadElementStatus.is at (masked _ _ c.requires)

pub stray-requires-in-ModeSense : goal.stray-requires-in-ModeSense
unfolding meaning unused
stray-requires-in-ModeSense c = rw c.in-ModeSense.is at (masked _ _ c.requires)

pub stray-requires-in-SendVolumeTag : goal.stray-requires-in-SendVolumeTag
unfolding meaning unused
stray-requires-in-SendVolumeTag c = rw c.in-SendVolumeTag.is at (masked _ _ c.requires)

pub stray-requires-in-RequestVolumeElementAddress : goal.stray-requires-in-RequestVolumeElementAddress
unfolding meaning unused
stray-requires-in-RequestVolumeElementAddress c = rw c.in-RequestVolumeElementAddress.is at (masked _ _ c.requires)
