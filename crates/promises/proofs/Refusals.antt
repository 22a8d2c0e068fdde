-- Demand 1 holds. Assumes nothing.
use Prim.Native.Nat.{ℕ, ◌≤◌}
use mathlib.Core.Path.{◌≡◌}
use mathlib.Core.Bool.{true}
use native.Mathlib.Omega.{arith}
use mathlib.Core.Logic.{◌⊎◌, inl, inr}
use lib.ListN.{length}
use Rattle.rules.specs.Bytes.{byte}
use Rattle.rules.specs.Tables.{Tables}
use Rattle.rules.specs.Order.{GOOD, CHECK-CONDITION}
use Rattle.rules.specs.Operation.{Operation, TestUnitReady, RequestSense, Reserve, Release, PreventAllow, MoveMedium, ExchangeMedium, ReadElementStatus, ModeSense, SendVolumeTag, RequestVolumeElementAddress, Unknown, REQUEST-SENSE, READ-ELEMENT-STATUS, MODE-SENSE, REQUEST-VOLUME-ELEMENT-ADDRESS, decoded, operation}
use Rattle.rules.specs.Command.{Call, Command, Import, Export, Reset, buffer_of, serve, verdict}
use Rattle.rules.proofs.Ladder.{either, never}
use Rattle.rules.proofs.Operations.{First, decoded-first}
use Rattle.rules.proofs.Untouched.{number-untouched, preventers-none, buffer-past, buffer-length, event-quiet, Event, status-own, status-three, count-reads, count_fits, reads}
use Rattle.promises.specs.Refusals.{ByNumber, SevenAlone, ThreeStatuses, ByStatus, BufferKept, OnlyReads}

pub by_number : ByNumber
unfolding serve
by_number t c n =
    let u = number-untouched t (buffer_of c) (verdict t c) n in
    record { tables-is = u.tables-is; buffer-is = u.buffer-is; status-is = u.status-is; count-is = u.count-is }

pub seven-alone : SevenAlone
unfolding serve
seven-alone t c n = preventers-none t (buffer_of c) (verdict t c) n

pub three-statuses : ThreeStatuses
three-statuses t (Command r) =
    let s = (serve t (Command r)).status in
    either s GOOD (λ e. inl e) (λ n. inr (either s CHECK-CONDITION (λ e. inl e) (λ m. inr (status-three t r n m))))
three-statuses t (Import a v) = inl (event-quiet t (Import a v) tt).0
three-statuses t (Export a) = inl (event-quiet t (Export a) tt).0
three-statuses t Reset = inl (event-quiet t Reset tt).0

pub by-status : ByStatus
by-status t r n =
    let o = status-own t r n in
    record { elements-is = o.elements-is; rest-is = o.rest-is; head-length = o.head-length; head-else = o.head-else; buffer-is = o.buffer-is; count-is = o.count-is }

-- an event returns nothing
none : (t : Tables) (c : Call) → Event c → (serve t c).count ≤ length (buffer_of c)
none t c e = omega (arith, (event-quiet t c e).1)

fits : (t : Tables) (c : Call) → (serve t c).count ≤ length (buffer_of c)
fits t (Command r) = unfold buffer_of in count_fits t r
fits t (Import a v) = none t (Import a v) tt
fits t (Export a) = none t (Export a) tt
fits t Reset = none t Reset tt

pub buffer-kept : BufferKept
buffer-kept t c =
    record {
      past-the-count = unfold serve in buffer-past t (buffer_of c) (verdict t c);
      length-is = unfold serve in buffer-length t (buffer_of c) (verdict t c);
      fits = fits t c;
    }

reads_first : (b : ℕ) (op : Operation) → reads op ≡ true → First op b → (b ≡ REQUEST-SENSE) ⊎ (b ≡ READ-ELEMENT-STATUS) ⊎ (b ≡ MODE-SENSE) ⊎ (b ≡ REQUEST-VOLUME-ELEMENT-ADDRESS)
reads_first b TestUnitReady m e = absurd (never m)
reads_first b RequestSense m e = inl e
reads_first b Reserve m e = absurd (never m)
reads_first b Release m e = absurd (never m)
reads_first b PreventAllow m e = absurd (never m)
reads_first b MoveMedium m e = absurd (never m)
reads_first b ExchangeMedium m e = absurd (never m)
reads_first b ReadElementStatus m e = inr (inl e)
reads_first b ModeSense m e = inr (inr (inl e))
reads_first b SendVolumeTag m e = absurd (never m)
reads_first b RequestVolumeElementAddress m e = inr (inr (inr e))
reads_first b Unknown m e = absurd (never m)

pub only-reads : OnlyReads
unfolding operation
only-reads t (Command r) n =
    let c = count-reads t r n in
    (c.0, reads_first (byte r.block 0) (decoded (byte r.block 0)) c.1 (decoded-first (byte r.block 0)))
only-reads t (Import a v) n = absurd (n (event-quiet t (Import a v) tt).1)
only-reads t (Export a) n = absurd (n (event-quiet t (Export a) tt).1)
only-reads t Reset n = absurd (n (event-quiet t Reset tt).1)
