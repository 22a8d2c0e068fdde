-- `mode::whole` meets its contract. Assumes nothing.
use native.Mathlib.Omega.{arith}
use Prim.Native.Nat.{◌*◌}
use lib.ListN.{length-append}
use Rattle.rules.specs.Roster.{ranges}
use Rattle.rules.specs.Mode.{assignments, members}
use Rattle.rules.proofs.Writes.{put_then}
use Rattle.mode.specs.Judged.{piece}
use Rattle.mode.proofs.Pages.{members-length, addresses-length, piece-length, whole_length, whole-made}
use Rattle.mode.proofs.whole.Goals as goal

pub overflow_sub-n : goal.overflow_sub-n
overflow_sub-n c =
    omega (arith, c.whole_bytes-n.ensures, whole_length c.args.head.now c.args.code)

pub with_addresses-g-requires : goal.with_addresses-g-requires
with_addresses-g-requires c =
    let w = whole_length c.args.head.now c.args.code in
    omega (arith, w, c.requires, c.put.auto.xs)

pub with_geometry-c-requires : goal.with_geometry-c-requires
with_geometry-c-requires c =
    let w = whole_length c.args.head.now c.args.code in
    rw c.transports.ensures.value
    (omega (arith, w, c.requires, c.with_addresses-g.ensures.value, c.with_addresses-g.auto.d, c.put.auto.xs), omega (arith, w, c.requires))

pub with_capabilities-requires : goal.with_capabilities-requires
with_capabilities-requires c =
    let w = whole_length c.args.head.now c.args.code in
    let g = rw c.transports.ensures.value at c.with_geometry-c.ensures.value in
    omega (arith, w, g, c.requires, c.with_addresses-g.ensures.value, c.with_geometry-c.auto.d, c.with_addresses-g.auto.d, c.put.auto.xs)

pub returns : goal.returns
returns c =
    let a = c.args in
    let n = c.transports.result in
    let pa = piece-length a.code 0x1D (assignments (ranges a.head.now)) 18 (addresses-length a.head.now) in
    let pg = piece-length a.code 0x1E (members n 0) (2 * n) (members-length n 0) in
    let l = length-append (piece a.code 0x1D (assignments (ranges a.head.now))) (piece a.code 0x1E (members n 0)) in
    let three = put_then _ _ _ _ _ _ _ c.put.ensures c.with_addresses-g.ensures.d_after (omega arith) in
    let four = put_then _ _ _ _ _ _ _ three c.with_geometry-c.ensures.d_after (omega (arith, pa, c.with_addresses-g.ensures.value)) in
    let five = put_then _ _ _ _ _ _ _ four c.with_capabilities.ensures (omega (arith, pa, pg, l, c.with_addresses-g.ensures.value, c.with_geometry-c.ensures.value)) in
    rw (← whole-made a.head.now a.code _ c.whole_bytes-n.ensures, ← c.transports.ensures.value) five
