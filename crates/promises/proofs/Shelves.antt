-- What a source tells, after any history. Assumes nothing.
use Rattle.rules.proofs.Shelves.{history-source}
use Rattle.promises.specs.Shelves.{LastShelf}

pub last-shelf : LastShelf
last-shelf t u cs os hs s p l z = history-source hs s p z
