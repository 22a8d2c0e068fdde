-- Sound tables stay sound. Assumes nothing.
use Rattle.rules.proofs.Keeps.{sound-stays}
use Rattle.promises.specs.SoundStays.{SoundStays}

pub sound-stays-promised : SoundStays
sound-stays-promised = sound-stays
