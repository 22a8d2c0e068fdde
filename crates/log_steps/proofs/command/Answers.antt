-- `log_steps::command` meets its contract. Assumes nothing.
use mathlib.Core.Path.{refl}
use Rattle.std.proofs.Common.{lit<}
use mathlib.Core.List.{[]}
use Rattle.rules.specs.Tables.{lent, searching}
use Rattle.rules.specs.Command.{act}
use Rattle.order.specs.Ending.{reason}
use Rattle.operation.specs.Meaning.{meaning}
use Rattle.operation.proofs.Lengths.{sized}
use Rattle.moves.specs.Judged.{carry_verdict}
use Rattle.log_steps.proofs.Ends.{left_by, acts, clears}
use Rattle.log_steps.proofs.command.Goals as goal

pub whole-requires : goal.whole-requires
unfolding meaning
whole-requires c = (lit< tt, sized _ _ _ c.requires.recorded.fitting c.in-Reserve.is)

pub whole-requires-in-Release : goal.whole-requires-in-Release
unfolding meaning
whole-requires-in-Release c = (lit< tt, sized _ _ _ c.requires.recorded.fitting c.in-Release.is)

pub whole-requires-in-PreventAllow : goal.whole-requires-in-PreventAllow
unfolding meaning
whole-requires-in-PreventAllow c = (lit< tt, sized _ _ _ c.requires.recorded.fitting c.in-PreventAllow.is)

pub whole-requires-in-MoveMedium : goal.whole-requires-in-MoveMedium
unfolding meaning
whole-requires-in-MoveMedium c = (lit< tt, sized _ _ _ c.requires.recorded.fitting c.in-MoveMedium.is)

pub whole-requires-in-ExchangeMedium : goal.whole-requires-in-ExchangeMedium
unfolding meaning
whole-requires-in-ExchangeMedium c = (lit< tt, sized _ _ _ c.requires.recorded.fitting c.in-ExchangeMedium.is)

pub whole-requires-in-SendVolumeTag : goal.whole-requires-in-SendVolumeTag
unfolding meaning
whole-requires-in-SendVolumeTag c = (lit< tt, sized _ _ _ c.requires.recorded.fitting c.in-SendVolumeTag.is)

pub whole-requires-in-RequestVolumeElementAddress : goal.whole-requires-in-RequestVolumeElementAddress
unfolding meaning
whole-requires-in-RequestVolumeElementAddress c = (lit< tt, sized _ _ _ c.requires.recorded.fitting c.in-RequestVolumeElementAddress.is)

pub reserve-requires-clause-reservable : goal.reserve-requires-clause-reservable
reserve-requires-clause-reservable c =
    let r = c.requires.recorded.ready in
    record { runs-are = r.runs-are; elements-long = r.records; few = r.few }

pub go_on-requires-clause-countable : goal.go_on-requires-clause-countable
unfolding meaning
go_on-requires-clause-countable c = c.requires.recorded.counts (sized _ _ _ c.requires.recorded.fitting c.in-RequestVolumeElementAddress.is)

pub returns-in-TestUnitReady : goal.returns-in-TestUnitReady
returns-in-TestUnitReady c =
    λ rest g l. clears _ (lent _ _ (searching rest _)) _ _ _ _ c.in-TestUnitReady.is (left_by (lent _ _ (searching rest _)) [] _ _ (c.good.ensures _ (searching rest _) []))

pub returns-in-RequestSense : goal.returns-in-RequestSense
unfolding act meaning
returns-in-RequestSense c =
    λ rest g l. acts _ (lent _ _ (searching rest _)) _ _ _ _ _ c.in-RequestSense.is _ refl (c.forget.ensures _ (searching rest _) _)

pub returns-in-Reserve : goal.returns-in-Reserve
unfolding act meaning
returns-in-Reserve c =
    λ rest g l. acts _ (lent _ _ (searching rest _)) _ _ _ _ _ c.in-Reserve.is _ c.whole.ensures (left_by (lent _ _ (searching rest _)) [] _ _ (c.reserve.ensures (searching rest _) []))

pub returns-in-Release : goal.returns-in-Release
unfolding act meaning
returns-in-Release c =
    λ rest g l. acts _ (lent _ _ (searching rest _)) _ _ _ _ _ c.in-Release.is _ c.whole-in-Release.ensures (left_by (lent _ _ (searching rest _)) [] _ _ (c.release.ensures (searching rest _) []))

pub returns-in-PreventAllow : goal.returns-in-PreventAllow
unfolding act meaning
returns-in-PreventAllow c =
    λ rest g l. acts _ (lent _ _ (searching rest _)) _ _ _ _ _ c.in-PreventAllow.is _ c.whole-in-PreventAllow.ensures (left_by (lent _ _ (searching rest _)) [] _ _ (c.prevent_allow.ensures _ (searching rest _) []))

pub returns-in-MoveMedium : goal.returns-in-MoveMedium
unfolding act meaning carry_verdict
returns-in-MoveMedium c =
    λ rest g l. acts _ (lent _ _ (searching rest _)) _ _ _ _ _ c.in-MoveMedium.is _ c.whole-in-MoveMedium.ensures (left_by (lent _ _ (searching rest _)) [] _ _ (c.medium.ensures (searching rest _) [] g.generations-is g.masks-is))

pub returns-in-ExchangeMedium : goal.returns-in-ExchangeMedium
unfolding act meaning carry_verdict
returns-in-ExchangeMedium c =
    λ rest g l. acts _ (lent _ _ (searching rest _)) _ _ _ _ _ c.in-ExchangeMedium.is _ c.whole-in-ExchangeMedium.ensures (left_by (lent _ _ (searching rest _)) [] _ _ (c.medium-in-ExchangeMedium.ensures (searching rest _) [] g.generations-is g.masks-is))

pub returns-in-SendVolumeTag : goal.returns-in-SendVolumeTag
unfolding act meaning
returns-in-SendVolumeTag c =
    λ rest g l. acts _ (lent _ _ (searching rest _)) _ _ _ _ _ c.in-SendVolumeTag.is _ c.whole-in-SendVolumeTag.ensures (left_by (lent _ _ (searching rest _)) [] _ _ (c.send_volume_tag.ensures _ rest []))

pub returns-in-RequestVolumeElementAddress : goal.returns-in-RequestVolumeElementAddress
unfolding act meaning
returns-in-RequestVolumeElementAddress c =
    λ rest g l. acts _ (lent _ _ (searching rest _)) _ _ _ _ _ c.in-RequestVolumeElementAddress.is _ c.whole-in-RequestVolumeElementAddress.ensures (c.go_on.ensures rest g.tags-is l)

pub returns-in-Unknown : goal.returns-in-Unknown
unfolding act meaning reason
returns-in-Unknown c =
    λ rest g l. acts _ (lent _ _ (searching rest _)) _ _ _ _ _ c.in-Unknown.is _ refl (left_by (lent _ _ (searching rest _)) [] _ _ (c.refuse.ensures _ (searching rest _) []))
