-- `sound::parts_sound`: what the parts tell of the whole. Assumes nothing.
use Rattle.std.proofs.Common.{sym, ◌∙◌, rules}
use Rattle.sound.proofs.Shelved.{shelved}
use Rattle.sound.proofs.Whole.{rest_top, elements_fail, drives_last, drives_lie}
use Rattle.sound.proofs.parts_sound.Goals as goal

pub invariant_of-unit : goal.invariant_of-unit
invariant_of-unit c = record { top_bound = rw c.volumes.ensures (rest_top _ (sym c.rest_sound.ensures ∙ c.if-not-rest_sound.false)) }

pub elements_sound-requires : goal.elements_sound-requires
elements_sound-requires c = shelved _ _ _ (search rules) c.requires.rs_value c.requires.runs (sym c.sound.ensures ∙ c.if-not-sound.false)

pub drives_sound-requires : goal.drives_sound-requires
drives_sound-requires c =
    drives_lie _ _ _ (search rules) c.requires.rs_value c.requires.runs (sym c.sound.ensures ∙ c.if-not-sound.false) _ _ _ _ (sym c.elements_sound.ensures ∙ c.if-elements_sound.true)

pub returns-then-elements_sound : goal.returns-then-elements_sound
returns-then-elements_sound c =
    drives_last _ _ _ (search rules) c.requires.rs_value c.requires.runs (sym c.sound.ensures ∙ c.if-not-sound.false) _ _ (sym c.rest_sound.ensures ∙ c.if-not-rest_sound.false)
    _ _ _ c.unit.ensures c.volumes.ensures c.panel.ensures (sym c.elements_sound.ensures ∙ c.if-elements_sound.true) _ c.drives_sound.ensures

pub returns-else-elements_sound : goal.returns-else-elements_sound
returns-else-elements_sound c =
    c.if-elements_sound.false
    ∙ elements_fail _ _ _ (search rules) c.requires.rs_value c.requires.runs (sym c.sound.ensures ∙ c.if-not-sound.false) _ _ (sym c.rest_sound.ensures ∙ c.if-not-rest_sound.false)
    _ _ _ c.unit.ensures c.volumes.ensures c.panel.ensures (sym c.elements_sound.ensures ∙ c.if-elements_sound.false)
