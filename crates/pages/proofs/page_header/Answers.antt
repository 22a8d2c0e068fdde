-- `pages::page_header` meets its contract: the bytes of a descriptor, and of all of them, are few. Assumes nothing.
use native.Mathlib.Omega.{arith}
use Rattle.pages.proofs.Descriptor.{few}
use Rattle.pages.proofs.page_header.Goals as goal

pub overflow_mul-bytes : goal.overflow_mul-bytes
overflow_mul-bytes c = omega (arith, few _ _ _ c.width-w.ensures c.requires.1)

pub overflow_cast-w : goal.overflow_cast-w
overflow_cast-w c = omega (arith, few _ _ _ c.width-w.ensures c.requires.1)

pub overflow_cast-bytes : goal.overflow_cast-bytes
overflow_cast-bytes c = omega (arith, few _ _ _ c.width-w.ensures c.requires.1)

pub put_triple-requires-clause-v_bound : goal.put_triple-requires-clause-v_bound
put_triple-requires-clause-v_bound c = omega (arith, few _ _ _ c.width-w.ensures c.requires.1)
