-- What the panel shows, after any history. Assumes nothing.
use Rattle.rules.proofs.Soundness.{sound-true}
use Rattle.rules.proofs.Sequences.{history-sound}
use Rattle.promises.specs.Panel.{PanelTrue}

pub panel-true : PanelTrue
panel-true t u cs os hs s = (sound-true u (history-sound hs s)).panel-true
