-- What replay hands back, with the tables as they then are. Assumes nothing.
use Rattle.rules.specs.Tables.{Tables}
use Rattle.rules.specs.Replay.{Replayed as Ending}
use Rattle.replay.specs.declared.Replayed.{Replayed}

abbrev pub ended : Replayed → Tables → Ending
ended r t = record { number = r.number; lines = r.lines; place = r.place; expected = r.expected; tables = t }
