-- `fitting::byte_or_none` meets its contract. Assumes nothing.
use native.Mathlib.Omega.{arith}
use Rattle.std.proofs.lemmas.Option.{get_or_from_slice_get, unwrap_or-slice_get}
use Rattle.rules.specs.Bytes.{byte}
use Rattle.fitting.proofs.byte_or_none.Goals as goal

pub returns : goal.returns
unfolding byte
returns c = grind (arith, c.unwrap_or.ensures, c.copied.ensures, c.get.ensures.lookup)
