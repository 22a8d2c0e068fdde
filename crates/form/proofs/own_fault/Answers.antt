-- `form::own_fault` meets its contract. Assumes nothing.
use mathlib.Core.Path.{◌≡◌, sym}
use mathlib.Core.Logic.{inl, inr}
use lib.ListN.{length}
use borrow.Author.Rules.{rules}
use Rattle.rules.specs.Form.{own_fault}
use Rattle.operation.specs.Meaning.{meaning}
use Rattle.operation.proofs.Lengths.{sized}
use Rattle.form.proofs.own_fault.Goals as goal

pub whole-requires : goal.whole-requires
unfolding meaning
whole-requires c = let e : length c.args.block.now ≡ 6 = sized _ _ _ c.requires.fitting c.in-Reserve.is in search rules

pub whole-requires-in-ReadElementStatus : goal.whole-requires-in-ReadElementStatus
unfolding meaning
whole-requires-in-ReadElementStatus c = elim c.in-ReadElementStatus.is [ inl e ↦ (let x : length c.args.block.now ≡ 12 = sized _ _ _ c.requires.fitting e in search rules) | inr e ↦ (let x : length c.args.block.now ≡ 12 = sized _ _ _ c.requires.fitting e in search rules) ]

pub whole-requires-in-ModeSense : goal.whole-requires-in-ModeSense
unfolding meaning
whole-requires-in-ModeSense c = let e : length c.args.block.now ≡ 6 = sized _ _ _ c.requires.fitting c.in-ModeSense.is in search rules

pub whole-whole-requires : goal.whole-whole-requires
unfolding meaning
whole-whole-requires c = let e : length c.args.block.now ≡ 12 = sized _ _ _ c.requires.fitting c.in-SendVolumeTag.is in search rules

pub returns-in-Reserve : goal.returns-in-Reserve
unfolding own_fault meaning
returns-in-Reserve c = rw (c.in-Reserve.is, sym c.whole.ensures) (c.list_fault.ensures c.args.head.now)

pub returns-in-ModeSense : goal.returns-in-ModeSense
unfolding own_fault meaning
returns-in-ModeSense c = rw (c.in-ModeSense.is, sym c.whole-in-ModeSense.ensures) (c.page_fault.ensures c.args.list.now)
