-- `events::export` meets its contract. Assumes nothing.
use mathlib.Core.List.{[]}
use Rattle.rules.proofs.Rungs.{ends_as}
use Rattle.events.proofs.export.Goals as goal

pub returns : goal.returns
returns c = λ rest s.
    ends_as _ [] (c.carry_out.ensures rest) (c.judge_export-ruling.ensures.result_value rest s)
