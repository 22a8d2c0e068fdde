-- Demand 3 holds. Assumes nothing.
use mathlib.Core.Path.{ap}
use mathlib.Core.List.{map}
use Rattle.rules.specs.Command.{Command}
use Rattle.rules.specs.Histories.{told_to, run_requests, replies}
use Rattle.rules.proofs.Sequences.{history-made, history-run, history-outcomes}
use Rattle.rules.proofs.Mix.{mixing}
use Rattle.promises.specs.Demand3.{Demand3, RunsAreHistories}

pub demand3 : Demand3
demand3 h g n xs ys zs fx fy a m t =
    let o = mixing h g n m fx fy a t in
    record { first-host = o.first-host; second-host = o.second-host; tables = o.tables }

pub runs-are-histories : RunsAreHistories
unfolding run_requests replies
runs-are-histories t rs =
    record {
      lives = history-made t (map Command rs);
      ends = λ u os hs. history-run hs;
      tells = λ u os hs h. ap (told_to h rs) (history-outcomes hs);
    }
