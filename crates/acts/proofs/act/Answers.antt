-- `acts::act` meets its contract. Assumes nothing.
use native.Mathlib.Omega.{arith}
use mathlib.Core.Path.{refl, sym, ◌∙◌}
use mathlib.Core.List.{[]}
use Rattle.rules.specs.Tables.{lent, bare}
use Rattle.rules.specs.Command.{act}
use Rattle.rules.proofs.Untouched.{good-fits, move-fits, exchange-fits, reserve-fits, release-fits, prevent-fits, tag_fits, refused-fits}
use Rattle.rules.proofs.Rungs.{ends_as}
use Rattle.rules.proofs.Pages.{answered}
use Rattle.order.specs.Ending.{reason}
use Rattle.tables.specs.Lent.{rest_of}
use Rattle.operation.specs.Meaning.{meaning}
use Rattle.operation.proofs.Lengths.{sized}
use Rattle.moves.specs.Judged.{carry_verdict}
use Rattle.acts.proofs.Supply.{findable}
use Rattle.acts.proofs.Chosen.{acts}
use Rattle.acts.proofs.act.Goals as goal

pub whole-requires : goal.whole-requires
unfolding meaning
whole-requires c = (omega arith, sized _ _ _ c.requires.served.fitting c.in-RequestSense.is)

pub whole-requires-in-Reserve : goal.whole-requires-in-Reserve
unfolding meaning
whole-requires-in-Reserve c = (omega arith, sized _ _ _ c.requires.served.fitting c.in-Reserve.is)

pub whole-requires-in-Release : goal.whole-requires-in-Release
unfolding meaning
whole-requires-in-Release c = (omega arith, sized _ _ _ c.requires.served.fitting c.in-Release.is)

pub whole-requires-in-PreventAllow : goal.whole-requires-in-PreventAllow
unfolding meaning
whole-requires-in-PreventAllow c = (omega arith, sized _ _ _ c.requires.served.fitting c.in-PreventAllow.is)

pub whole-requires-in-MoveMedium : goal.whole-requires-in-MoveMedium
unfolding meaning
whole-requires-in-MoveMedium c = (omega arith, sized _ _ _ c.requires.served.fitting c.in-MoveMedium.is)

pub whole-requires-in-ExchangeMedium : goal.whole-requires-in-ExchangeMedium
unfolding meaning
whole-requires-in-ExchangeMedium c = (omega arith, sized _ _ _ c.requires.served.fitting c.in-ExchangeMedium.is)

pub whole-requires-in-ReadElementStatus : goal.whole-requires-in-ReadElementStatus
unfolding meaning
whole-requires-in-ReadElementStatus c = (omega arith, sized _ _ _ c.requires.served.fitting c.in-ReadElementStatus.is)

pub whole-requires-in-ModeSense : goal.whole-requires-in-ModeSense
unfolding meaning
whole-requires-in-ModeSense c = (omega arith, sized _ _ _ c.requires.served.fitting c.in-ModeSense.is)

pub whole-requires-in-SendVolumeTag : goal.whole-requires-in-SendVolumeTag
unfolding meaning
whole-requires-in-SendVolumeTag c = (omega arith, sized _ _ _ c.requires.served.fitting c.in-SendVolumeTag.is)

pub whole-requires-in-RequestVolumeElementAddress : goal.whole-requires-in-RequestVolumeElementAddress
unfolding meaning
whole-requires-in-RequestVolumeElementAddress c = (omega arith, sized _ _ _ c.requires.served.fitting c.in-RequestVolumeElementAddress.is)

pub reserve-requires-clause-reservable : goal.reserve-requires-clause-reservable
unfolding meaning
reserve-requires-clause-reservable c = let s = c.requires.served.suited.ready-to-move in record { runs-are = s.runs-are; elements-long = s.records; few = s.few }

pub medium-requires-clause-ready : goal.medium-requires-clause-ready
unfolding meaning
medium-requires-clause-ready c = c.requires.served.suited.ready-to-move

pub medium-requires-in-ExchangeMedium-clause-ready : goal.medium-requires-in-ExchangeMedium-clause-ready
unfolding meaning
medium-requires-in-ExchangeMedium-clause-ready c = c.requires.served.suited.ready-to-move

pub read_element_status-requires-clause-readable : goal.read_element_status-requires-clause-readable
unfolding meaning
read_element_status-requires-clause-readable c = c.requires.served.suited.ready-to-list

pub mode_sense-requires-clause-answered : goal.mode_sense-requires-clause-answered
unfolding meaning
mode_sense-requires-clause-answered c = rw c.whole-in-ModeSense.ensures (answered _ _ _ (rw c.in-ModeSense.is at c.requires.no_fault))

pub request_volume_element_address-requires-clause-findable : goal.request_volume_element_address-requires-clause-findable
unfolding meaning
request_volume_element_address-requires-clause-findable c = findable _ _ _ _ _ c.requires.served.suited

pub returns-in-TestUnitReady : goal.returns-in-TestUnitReady
unfolding act meaning
returns-in-TestUnitReady c = ends_as _ _ (c.good.ensures _ _ _) (sym (good-fits (lent [] [] bare) _ [] _ []) ∙ acts _ _ c.in-TestUnitReady.is _ _ _ _ _)

pub returns-in-RequestSense : goal.returns-in-RequestSense
unfolding act meaning
returns-in-RequestSense c =
    ends_as _ _ (rw c.whole.ensures at c.request_sense.ensures _ _) (acts _ _ c.in-RequestSense.is _ _ _ _ _)

pub returns-in-Reserve : goal.returns-in-Reserve
unfolding act meaning
returns-in-Reserve c =
    ends_as _ _ (rw c.whole-in-Reserve.ensures at c.reserve.ensures _ _) (sym (reserve-fits _ _ _ _ _) ∙ acts _ _ c.in-Reserve.is _ _ _ _ _)

pub returns-in-Release : goal.returns-in-Release
unfolding act meaning
returns-in-Release c =
    ends_as _ _ (rw c.whole-in-Release.ensures at c.release.ensures _ _) (sym (release-fits _ _ _ _) ∙ acts _ _ c.in-Release.is _ _ _ _ _)

pub returns-in-PreventAllow : goal.returns-in-PreventAllow
unfolding act meaning
returns-in-PreventAllow c =
    ends_as _ _ (rw c.whole-in-PreventAllow.ensures at c.prevent_allow.ensures _ _ _) (sym (prevent-fits _ _ _ _) ∙ acts _ _ c.in-PreventAllow.is _ _ _ _ _)

pub returns-in-MoveMedium : goal.returns-in-MoveMedium
unfolding act meaning carry_verdict
returns-in-MoveMedium c =
    ends_as _ _ (rw c.whole-in-MoveMedium.ensures at c.medium.ensures _ _ refl refl) (sym (move-fits _ _ _ _) ∙ acts _ _ c.in-MoveMedium.is _ _ _ _ _)

pub returns-in-ExchangeMedium : goal.returns-in-ExchangeMedium
unfolding act meaning carry_verdict
returns-in-ExchangeMedium c =
    ends_as _ _ (rw c.whole-in-ExchangeMedium.ensures at c.medium-in-ExchangeMedium.ensures _ _ refl refl) (sym (exchange-fits _ _ _ _) ∙ acts _ _ c.in-ExchangeMedium.is _ _ _ _ _)

pub returns-in-ReadElementStatus : goal.returns-in-ReadElementStatus
unfolding act meaning
returns-in-ReadElementStatus c =
    ends_as _ _ (rw c.whole-in-ReadElementStatus.ensures at c.read_element_status.ensures _ (record { tags-is = refl; blank-is = refl })) (acts _ _ c.in-ReadElementStatus.is _ _ _ _ _)

pub returns-in-ModeSense : goal.returns-in-ModeSense
unfolding act meaning
returns-in-ModeSense c =
    ends_as _ _ (rw c.whole-in-ModeSense.ensures at c.mode_sense.ensures _ _) (acts _ _ c.in-ModeSense.is _ _ _ _ _)

pub returns-in-SendVolumeTag : goal.returns-in-SendVolumeTag
unfolding act meaning
returns-in-SendVolumeTag c =
    ends_as _ _ (rw c.whole-in-SendVolumeTag.ensures at c.send_volume_tag.ensures _ (rest_of c.args.fixed []) _) (sym (tag_fits _ _ _ _ _) ∙ acts _ _ c.in-SendVolumeTag.is _ _ _ _ _)

pub returns-in-RequestVolumeElementAddress : goal.returns-in-RequestVolumeElementAddress
unfolding act meaning
returns-in-RequestVolumeElementAddress c =
    ends_as _ _ (rw c.whole-in-RequestVolumeElementAddress.ensures at c.request_volume_element_address.ensures (rest_of c.args.fixed []) (record { tags-is = refl; blank-is = refl })) (acts _ _ c.in-RequestVolumeElementAddress.is _ _ _ _ _)

pub returns-in-Unknown : goal.returns-in-Unknown
unfolding act meaning reason
returns-in-Unknown c =
    ends_as _ _ (c.refuse.ensures _ _ _) (sym (refused-fits (lent [] [] bare) _ [] _ _) ∙ acts _ _ c.in-Unknown.is _ _ _ _ _)
