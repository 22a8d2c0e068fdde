-- What house number 3 tells of a block: the length of its command. Assumes nothing.
use Prim.Native.Nat.{ℕ, zero, suc, ◌≤◌, ◌/◌}
use native.Mathlib.Omega.{arith}
use mathlib.Core.Path.{◌≡◌, refl}
use mathlib.Core.Bool.{Bool, true, false}
use mathlib.Core.List.{List}
use lib.ListN.{length}
use lib.Dec.{eqb}
use borrow.Author.Tests.{eqb-true}
use Rattle.rules.specs.Choice.{when, any_of}
use Rattle.rules.specs.Bytes.{byte}
use Rattle.rules.specs.Operation.{Operation, TestUnitReady, RequestSense, Reserve, Release, PreventAllow, MoveMedium, ExchangeMedium, ReadElementStatus, ModeSense, SendVolumeTag, RequestVolumeElementAddress, Unknown, operation}
use Rattle.rules.specs.Command.{block_fits, group_fits}
use Rattle.rules.proofs.Operations.{First, decoded-first}
use Rattle.operation.specs.declared.Operation.{Operation as Declared}
use Rattle.operation.specs.Meaning.{meaning, Fitting}

-- the length of each command's block
abbrev pub Sized : Operation → ℕ → Type 0
Sized TestUnitReady n = n ≡ 6
Sized RequestSense n = n ≡ 6
Sized Reserve n = n ≡ 6
Sized Release n = n ≡ 6
Sized PreventAllow n = n ≡ 6
Sized MoveMedium n = n ≡ 12
Sized ExchangeMedium n = n ≡ 12
Sized ReadElementStatus n = n ≡ 12
Sized ModeSense n = n ≡ 6
Sized SendVolumeTag n = n ≡ 12
Sized RequestVolumeElementAddress n = n ≡ 12
Sized Unknown n = 1 ≤ n

pub some : (block : List ℕ) → block_fits block ≡ true → 1 ≤ length block
unfolding block_fits when
some block e = go (length block) e
  where
    go : (n : ℕ) → when (eqb n 0) false (group_fits (byte block 0 / 32) n) ≡ true → 1 ≤ n
    go zero d = absurd (let y : ◌≡◌ {A = ℕ} 0 1 = cc in omega arith)
    go (suc n) d = omega arith

module _ (block : List ℕ) (e : block_fits block ≡ true) where
  -- the length that the group of a first byte asks for
  fits-group : group_fits (byte block 0 / 32) (length block) ≡ true
  unfolding block_fits when
  fits-group = go (eqb (length block) 0) e
    where
      go : (b : Bool) → when b false (group_fits (byte block 0 / 32) (length block)) ≡ true → group_fits (byte block 0 / 32) (length block) ≡ true
      go true d = cc
      go false d = d

  six : (first : ℕ) → first / 32 ≡ 0 → byte block 0 ≡ first → length block ≡ 6
  unfolding group_fits when
  six first group is = eqb-true (length block) 6 (rw (is, group) at fits-group)

  twelve : (first : ℕ) → first / 32 ≡ 5 → byte block 0 ≡ first → length block ≡ 12
  unfolding group_fits when any_of
  twelve first group is = eqb-true (length block) 12 (rw (is, group) at fits-group)

  by_first : (op : Operation) → First op (byte block 0) → Sized op (length block)
  by_first TestUnitReady is = six 0x00 refl is
  by_first RequestSense is = six 0x03 refl is
  by_first Reserve is = six 0x16 refl is
  by_first Release is = six 0x17 refl is
  by_first PreventAllow is = six 0x1E refl is
  by_first MoveMedium is = twelve 0xA5 refl is
  by_first ExchangeMedium is = twelve 0xA6 refl is
  by_first ReadElementStatus is = twelve 0xB8 refl is
  by_first ModeSense is = six 0x1A refl is
  by_first SendVolumeTag is = twelve 0xB6 refl is
  by_first RequestVolumeElementAddress is = twelve 0xB5 refl is
  by_first Unknown is = some block e

-- for callers: the operation op, which came out as o
pub sized : (op o : Declared) (block : List ℕ) → Fitting op block → op ≡ o → Sized (meaning o) (length block)
unfolding operation
sized op o block f told =
    by_first block f.fits (meaning o) (let d : meaning o ≡ operation block = rw told at f.decoded in rw d (decoded-first (byte block 0)))
