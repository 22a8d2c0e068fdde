-- The volumes present follow from the history, and no number stands twice. Assumes nothing.
use Rattle.rules.proofs.Volumes.{history-volumes, volume-once}
use Rattle.promises.specs.Volumes.{Volumes, NeverTwice}

pub volumes-promised : Volumes
volumes-promised t u cs os hs s w z = history-volumes w z hs s

pub never-twice : NeverTwice
never-twice t s w z = volume-once w z t s
