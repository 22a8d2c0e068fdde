-- `ports::judge_export` meets its contract. Assumes nothing.
use mathlib.Core.Path.{refl}
use Rattle.std.proofs.lemmas.Result.{err_from_is_err_and}
use Rattle.rules.specs.Events.{exporting}
use Rattle.ports.specs.Judged.{meaning, refusal}
use Rattle.ports.proofs.Judging.{port-within, port-room, opened, shut, export-empty, export-full}
use Rattle.ports.proofs.judge_export.Goals as goal

pub returns-in_err-from : goal.returns-in_err-from
unfolding meaning exporting
returns-in_err-from c =
    let p = err_from_is_err_and c.from_residual.result c.from_residual.ensures.1 in
    rw (p.1, p.2)
    (record { result_value = (λ rest s. shut _ _ _ _ c.open_port.ensures _ c.requires.ported.runs-are s refl _ _ c.in_err-from.was); within = tt })

pub volume-requires : goal.volume-requires
volume-requires c =
    port-room _ _ _ refl _ _ c.requires.ported _ (opened _ _ _ _ c.open_port.ensures _ c.in_ok-from.was).0

pub returns-then-volume-eq0 : goal.returns-then-volume-eq0
unfolding meaning refusal
returns-then-volume-eq0 c =
    let port = opened _ _ _ _ c.open_port.ensures _ c.in_ok-from.was in
    record { result_value = (λ rest s. export-empty _ _ _ refl _ c.requires.ported.runs-are s _ port.0 _ refl port.1 _ c.volume.ensures c.if-volume-eq0.true); within = tt }

pub returns : goal.returns
unfolding meaning refusal
returns c =
    let port = opened _ _ _ _ c.open_port.ensures _ c.in_ok-from.was in
    record {
      result_value = (λ rest s. export-full _ _ _ refl _ c.requires.ported.runs-are s _ port.0 _ refl port.1 _ c.volume.ensures c.if-volume-eq0.false);
      within = port-within _ _ _ refl _ _ c.requires.ported _ port.0;
    }
