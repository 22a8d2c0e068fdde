-- `arms::arm_of` meets its contract. Assumes nothing.
use mathlib.Core.Path.{refl}
use Rattle.rules.proofs.Ladder.{eq_is}
use Rattle.tables.proofs.LookUp.{found-by}
use Rattle.arms.specs.Used.{arm_at}
use Rattle.arms.proofs.Open.{open-first, found-told, choice-named, choice-first}
use Rattle.arms.proofs.arm_of.Goals as goal
use Rattle.arms.proofs.arm_of.Goals.{then-address-ne0-via-then-address-ne0, then-address-ne0-via-else-address-ne0+then-is_open}

pub is_open-requires : goal.is_open-requires
is_open-requires c = found-told _ _ _ _ c.find-first.ensures c.requires

pub returns-then-address-ne0 : goal.returns-then-address-ne0
unfolding arm_at
returns-then-address-ne0 c =
    elim c.then-address-ne0.branch [
      | then-address-ne0-via-then-address-ne0 w ↦
          found-by _ _ _ _ _ c.find-first.ensures (choice-named _ _ _ _ _ c.first_choice.ensures w.if-address-ne0.true)
      | then-address-ne0-via-else-address-ne0+then-is_open w ↦
          found-by _ _ _ _ _
          (open-first _ _ _ _ _ _ c.find-first.ensures (choice-first _ _ _ c.first_choice.ensures w.if-address-ne0.false) w.is_open.ensures w.if-is_open.true)
          (eq_is _ _ _ _ _ w.if-address-ne0.false refl)
    ]

pub returns : goal.returns
unfolding arm_at
returns c = found-by _ _ _ _ _ c.open_arm.ensures (eq_is _ _ _ _ _ c.if-address-ne0.false refl)
