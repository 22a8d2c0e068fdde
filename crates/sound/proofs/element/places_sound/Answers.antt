-- `sound::element::places_sound`: at the loop's head the runs before this one are passed, and the places before `first`. Assumes nothing.
use Rattle.std.proofs.Common.{◌∙◌, arith, rules}
use Rattle.sound.proofs.Empty.{add-shelf, add-other}
use Rattle.sound.proofs.Once.{marks_begin}
use Rattle.sound.proofs.Pass.{file-begins, file-run, file-fits, file-on, file-stops, file-ends}
use Rattle.sound.proofs.element.places_sound.Goals as goal
use Rattle.sound.proofs.element.places_sound.Goals.{then-r-eq-STORAGE, else-r-eq-STORAGE}

pub loop-r-init : goal.loop-r-init
loop-r-init c = file-begins _ _ _ _ _ _ (rw c.new-seen.ensures (marks_begin _ 9))

pub run_sound-requires : goal.run_sound-requires
run_sound-requires c =
    file-run _ _ _ _ _ (search rules) _ _ _ _ c.loop-r.invariant c.loop-r-test.true c.requires.elements_len

pub returns-in_err-empty : goal.returns-in_err-empty
returns-in_err-empty c =
    c.from_residual.ensures ∙ file-stops _ _ _ _ _ (search rules) _ _ _ _ c.loop-r.invariant c.loop-r-test.true c.requires.shelved c.in_err-empty.ensures.value

pub overflow_add-empty_shelves : goal.overflow_add-empty_shelves
overflow_add-empty_shelves c =
    omega (arith, c.well_formed, c.requires.elements_len, file-fits _ _ _ _ _ (search rules) _ _ _ _ c.loop-r.invariant c.loop-r-test.true c.requires.shelved _ c.in_ok-empty.ensures.value)

pub loop-r-preserved : goal.loop-r-preserved
loop-r-preserved c =
    elim c.if-r-eq-STORAGE.branch [
      | then-r-eq-STORAGE w ↦
          rw w.first-is
          (file-on _ _ _ _ _ (search rules) _ _ _ _ c.loop-r.invariant c.loop-r-test.true c.requires.shelved _ c.in_ok-empty.ensures.value _ c.in_ok-empty.ensures.marks _
          (add-shelf _ _ _ _ w.if-r-eq-STORAGE.true w.empty_shelves-is))
      | else-r-eq-STORAGE w ↦
          rw w.first-is
          (file-on _ _ _ _ _ (search rules) _ _ _ _ c.loop-r.invariant c.loop-r-test.true c.requires.shelved _ c.in_ok-empty.ensures.value _ c.in_ok-empty.ensures.marks _
          (add-other _ _ _ _ w.if-r-eq-STORAGE.false w.empty_shelves-is))
    ]

pub returns : goal.returns
returns c = file-ends _ _ _ _ _ (search rules) _ _ _ _ c.loop-r.invariant c.loop-r-test.false
