-- `mode::page_code` meets its contract. Assumes nothing.
use mathlib.Core.Path.{refl}
use Rattle.rules.specs.Mode.{page_code}
use Rattle.rules.specs.Bytes.{byte}
use Rattle.mode.proofs.page_code.Goals as goal

pub returns : goal.returns
unfolding page_code byte
returns c = refl
