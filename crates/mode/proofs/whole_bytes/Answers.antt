-- `mode::whole_bytes` meets its contract. Assumes nothing.
use native.Mathlib.Omega.{arith}
use Prim.Native.Nat.{ℕ, ◌+◌, ◌*◌, ◌<◌}
use mathlib.Core.Path.{◌≡◌}
use Rattle.mode.specs.Judged.{bytes_of}
use Rattle.mode.proofs.Pages.{bytes_most, whole_length}
use Rattle.mode.proofs.whole_bytes.Goals as goal

-- far below what a number holds
few : (code n a g k : ℕ) → a ≡ bytes_of code 0x1D 18 → g ≡ bytes_of code 0x1E (2 * n) → k ≡ bytes_of code 0x1F 18 → n < 65536
    → 4 + a + g + k < 262144
few code n a g k ea eg ek h = omega (arith, bytes_most code 0x1D 18, bytes_most code 0x1E (2 * n), bytes_most code 0x1F 18)

pub overflow_add-result : goal.overflow_add-result
overflow_add-result c = omega (arith, few _ _ _ _ _ c.bytes_of-a.ensures c.bytes_of-g.ensures c.bytes_of-c.ensures c.transports.ensures.upper_bound)

pub overflow_add-result-2 : goal.overflow_add-result-2
overflow_add-result-2 c = omega (arith, few _ _ _ _ _ c.bytes_of-a.ensures c.bytes_of-g.ensures c.bytes_of-c.ensures c.transports.ensures.upper_bound)

pub overflow_add-result-3 : goal.overflow_add-result-3
overflow_add-result-3 c = omega (arith, few _ _ _ _ _ c.bytes_of-a.ensures c.bytes_of-g.ensures c.bytes_of-c.ensures c.transports.ensures.upper_bound)

pub returns : goal.returns
returns c =
    rw (whole_length c.args.head.now c.args.code, ← c.transports.ensures.value, c.bytes_of-a.ensures, c.bytes_of-g.ensures, c.bytes_of-c.ensures)
