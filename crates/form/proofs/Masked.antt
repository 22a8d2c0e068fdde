-- Each byte that a mask is for lies in the block. Assumes nothing.
use Prim.Native.Nat.{ℕ, ◌+◌, ◌≤◌}
use native.Mathlib.Omega.{arith}
use mathlib.Core.Path.{refl}
use mathlib.Core.List.{List}
use lib.ListN.{length}
use Rattle.rules.specs.Operation.{Operation, TestUnitReady, RequestSense, Reserve, Release, PreventAllow, MoveMedium, ExchangeMedium, ReadElementStatus, ModeSense, SendVolumeTag, RequestVolumeElementAddress, Unknown}
use Rattle.rules.specs.Form.{unused}
use Rattle.operation.specs.declared.Operation.{Operation as Declared}
use Rattle.operation.specs.Meaning.{meaning, Fitting}
use Rattle.operation.proofs.Lengths.{Sized, sized}

by_size : (op : Operation) (n : ℕ) → Sized op n → length (unused op) + 1 ≤ n
unfolding unused
by_size TestUnitReady n s = omega arith
by_size RequestSense n s = omega arith
by_size Reserve n s = omega arith
by_size Release n s = omega arith
by_size PreventAllow n s = omega arith
by_size MoveMedium n s = omega arith
by_size ExchangeMedium n s = omega arith
by_size ReadElementStatus n s = omega arith
by_size ModeSense n s = omega arith
by_size SendVolumeTag n s = omega arith
by_size RequestVolumeElementAddress n s = omega arith
by_size Unknown n s = omega arith

pub masked : (op : Declared) (block : List ℕ) → Fitting op block → length (unused (meaning op)) + 1 ≤ length block
masked op block f = by_size (meaning op) (length block) (sized op op block f refl)
