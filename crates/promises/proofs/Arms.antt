-- Which transport is used. Assumes nothing.
use Rattle.rules.proofs.Arms.{used-stands, lower-held, used-held-last}
use Rattle.promises.specs.Arms.{FreeArm}

pub free-arm : FreeArm
free-arm t s h = record { is-transport = used-stands t s h; none-lower = lower-held t s h; held-last = used-held-last t s h }
