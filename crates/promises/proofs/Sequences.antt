-- Any sequence ends where the rules end. Assumes nothing.
use Rattle.rules.proofs.Sequences.{history-outcomes, history-run, history-sound, history-numbers}
use Rattle.promises.specs.Sequences.{Sequences}

pub sequences : Sequences
sequences t u cs os hs s =
    record {
      outcomes-are = history-outcomes hs;
      tables-are = history-run hs;
      sound-still = history-sound hs s;
      never-unsound = history-numbers hs s;
    }
