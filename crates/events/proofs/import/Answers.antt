-- `events::import` meets its contract. Assumes nothing.
use mathlib.Core.List.{[]}
use Rattle.rules.proofs.Rungs.{ends_as}
use Rattle.events.proofs.import.Goals as goal

pub returns : goal.returns
returns c = λ rest e s.
    ends_as _ [] (c.carry_out.ensures rest) (c.judge_import-ruling.ensures.result_value rest e s)
