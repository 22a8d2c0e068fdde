-- `log_line::fields` meets its contract. Assumes nothing.
use native.Mathlib.Omega.{arith}
use Prim.Native.Nat.{◌+◌}
use Rattle.log_line.proofs.Text.{tail}
use Rattle.log_line.proofs.Ways.{no_number, no-host, host-there, behind-host, held-behind}
use Rattle.log_line.proofs.Pairs.{part-fits, tab-marks, feed-marks, no-command, no-parameters, both-fields, both-held}
use Rattle.log_line.proofs.fields.Goals as goal

pub returns-in_err-first-clause-list_after : goal.returns-in_err-first-clause-list_after
returns-in_err-first-clause-list_after c = rw c.from_residual.ensures (no_number _ c.in_err-first.ensures)

pub returns-in_err-host-clause-list_after : goal.returns-in_err-host-clause-list_after
returns-in_err-host-clause-list_after c =
    let t = c.args.text.now in
    let at = c.in_ok-first.first.end + 1 in
    rw c.from_residual-in_err-host.ensures (no-host _ c.in_ok-first.first c.in_ok-first.ensures _ (tail t at) c.in_err-host.ensures)

pub slice_bounds-decode-count : goal.slice_bounds-decode-count
slice_bounds-decode-count c =
    let t = c.args.text.now in
    let at = c.in_ok-first.first.end + 1 in
    host-there _ c.in_ok-first.first c.in_ok-first.ensures _ (tail t at) _ c.in_ok-host.ensures

pub slice_bounds-decode-start : goal.slice_bounds-decode-start
slice_bounds-decode-start c =
    let t = c.args.text.now in
    let at = c.in_ok-first.first.end + 1 in
    host-there _ c.in_ok-first.first c.in_ok-first.ensures _ (tail t at) _ c.in_ok-host.ensures

pub decode-requires : goal.decode-requires
decode-requires c = (tab-marks, part-fits c.args.text.now (c.in_ok-first.first.end + 1 + 2) _ c.requires.for-block)

pub returns-in_err-command-clause-list_after : goal.returns-in_err-command-clause-list_after
returns-in_err-command-clause-list_after c =
    let t = c.args.text.now in
    let at = c.in_ok-first.first.end + 1 in
    rw c.from_residual-in_err-command.ensures
    (behind-host _ c.in_ok-first.first c.in_ok-first.ensures _ (tail t at) _ c.in_ok-host.ensures _ (no-command t (at + 2) _ (tail t (at + 2)) c.in_err-command.ensures _ _))

pub decode-requires-2 : goal.decode-requires-2
decode-requires-2 c = (feed-marks, part-fits c.args.text.now (c.in_ok-first.first.end + 1 + 2 + c.in_ok-command.command + 1) _ c.requires.for-list)

pub returns-in_err-parameters-clause-list_after : goal.returns-in_err-parameters-clause-list_after
returns-in_err-parameters-clause-list_after c =
    let t = c.args.text.now in
    let at = c.in_ok-first.first.end + 1 in
    rw c.from_residual-in_err-parameters.ensures
    (behind-host _ c.in_ok-first.first c.in_ok-first.ensures _ (tail t at) _ c.in_ok-host.ensures _
    (no-parameters t (at + 2) _ (tail t (at + 2)) _ _ c.in_ok-command.ensures _ (tail t (at + 2 + c.in_ok-command.command + 1)) c.in_err-parameters.ensures _ _))

pub returns-clause-list_after : goal.returns-clause-list_after
returns-clause-list_after c =
    let t = c.args.text.now in
    let at = c.in_ok-first.first.end + 1 in
    behind-host _ c.in_ok-first.first c.in_ok-first.ensures _ (tail t at) _ c.in_ok-host.ensures _
    (both-fields t (at + 2) _ (tail t (at + 2)) _ _ c.in_ok-command.ensures _ (tail t (at + 2 + c.in_ok-command.command + 1)) _ _ c.in_ok-parameters.ensures _ _)

pub returns-clause-within : goal.returns-clause-within
returns-clause-within c =
    let t = c.args.text.now in
    let at = c.in_ok-first.first.end + 1 in
    held-behind _ c.in_ok-first.first c.in_ok-first.ensures _ (tail t at) _ c.in_ok-host.ensures _ _ _ _ _
    (both-held t (at + 2) _ (tail t (at + 2)) _ _ c.in_ok-command.ensures _ (tail t (at + 2 + c.in_ok-command.command + 1)) _ _ c.in_ok-parameters.ensures (omega arith) (omega arith))
