-- `ports::judge_import` meets its contract. Assumes nothing.
use native.Mathlib.Omega.{arith}
use mathlib.Core.Path.{refl}
use Rattle.std.proofs.lemmas.Result.{err_from_is_err_and}
use mathlib.Core.List.{[]}
use Rattle.rules.specs.Tables.{labels}
use Rattle.rules.specs.Events.{importing}
use Rattle.ports.specs.Judged.{meaning, refusal}
use Rattle.ports.proofs.Judging.{port-within, port-room, opened, shut, right-small, import-full, import-wrong, import-right}
use Rattle.ports.proofs.judge_import.Goals as goal

pub returns-in_err-to : goal.returns-in_err-to
unfolding meaning importing
returns-in_err-to c =
    let p = err_from_is_err_and c.from_residual.result c.from_residual.ensures.1 in
    rw (p.1, p.2)
    (record { result_value = (λ rest e s. shut _ _ _ _ c.open_port.ensures _ c.requires.importable.ported.runs-are s refl _ _ c.in_err-to.was); within = tt })

pub volume-requires : goal.volume-requires
volume-requires c =
    port-room _ _ _ refl _ _ c.requires.importable.ported _ (opened _ _ _ _ c.open_port.ensures _ c.in_ok-to.was).0

pub returns-then-volume-ne0 : goal.returns-then-volume-ne0
unfolding meaning refusal
returns-then-volume-ne0 c =
    let port = opened _ _ _ _ c.open_port.ensures _ c.in_ok-to.was in
    record { result_value = (λ rest e s. import-full _ _ _ refl _ c.requires.importable.ported.runs-are s _ port.0 _ refl port.1 _ c.volume.ensures _ c.if-volume-ne0.true); within = tt }

pub returns-then-wrong_volume : goal.returns-then-wrong_volume
unfolding meaning refusal
returns-then-wrong_volume c =
    let port = opened _ _ _ _ c.open_port.ensures _ c.in_ok-to.was in
    record { result_value = (λ rest e s. import-wrong _ _ _ refl _ c.requires.importable.ported.runs-are s _ port.0 _ refl port.1 _ c.volume.ensures _ c.if-volume-ne0.false _ (c.wrong_volume.ensures _ rest e) c.if-wrong_volume.true); within = tt }

pub overflow_cast-result : goal.overflow_cast-result
overflow_cast-result c =
    omega (arith, c.requires.importable.volumes-few, right-small _ _ _ (c.wrong_volume.ensures [] (labels _ []) refl) c.if-wrong_volume.false)

pub returns : goal.returns
unfolding meaning
returns c =
    let port = opened _ _ _ _ c.open_port.ensures _ c.in_ok-to.was in
    record {
      result_value = (λ rest e s. import-right _ _ _ refl _ c.requires.importable.ported.runs-are s _ port.0 _ refl port.1 _ c.volume.ensures _ c.if-volume-ne0.false _ (c.wrong_volume.ensures _ rest e) c.if-wrong_volume.false);
      within = port-within _ _ _ refl _ _ c.requires.importable.ported _ port.0;
    }
