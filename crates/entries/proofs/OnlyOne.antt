-- One reply, one set of tables, one buffer only for each entry's statement. Assumes nothing.
use Prim.Native.Nat.{ℕ}
use mathlib.Core.Path.{◌≡◌, refl, sym, ap, ◌∙◌}
use mathlib.Core.List.{List, []}
use Rattle.rules.specs.Tables.{Tables}
use Rattle.rules.specs.Order.{Outcome}
use Rattle.rules.specs.Command.{command, import, export, reset}
use Rattle.rules.specs.Small.{small, move_block}
use Rattle.rules.proofs.Opened.{opened}
use Rattle.rules.specs.Replay.{Replayed as Ending, replay}
use Rattle.order.specs.declared.Reply.{Reply}
use Rattle.order.specs.Ending.{ended, told}
use Rattle.replay.specs.declared.Replayed.{Replayed}
use Rattle.entries.specs.OnlyOne.{CommandEnds, ImportEnds, ExportEnds, ResetEnds, OnlyOne, ReplayEnds, OneReplay}

-- the reply that an outcome is told with: all of it but the tables and the buffer
reply_of : Outcome → Reply
reply_of o = record { number = o.number; status = o.status; preventers = o.preventers; lowest = o.lowest; count = o.count }

-- a statement that names its outcome by an equation
named : (q : Outcome) → OnlyOne (λ r u buffer. ended r u buffer ≡ q)
unfolding reply_of
named q =
    record {
      fits = (reply_of q, q.tables, q.buffer, refl);
      same-reply = λ r s u w b c d e. ap reply_of (d ∙ sym e);
      same_tables = λ r s u w b c d e. ap (λ (o : Outcome). o.tables) (d ∙ sym e);
      same-buffer = λ r s u w b c d e. ap (λ (o : Outcome). o.buffer) (d ∙ sym e);
    }

pub command-only-one : (t : Tables) (host : ℕ) (block parameters answer : List ℕ) → OnlyOne (CommandEnds t host block parameters answer)
command-only-one t host block parameters answer = named (command t host block parameters answer)

pub import-only-one : (t : Tables) (address volume : ℕ) → OnlyOne (ImportEnds t address volume)
import-only-one t address volume = named (import t address volume)

pub export-only-one : (t : Tables) (address : ℕ) → OnlyOne (ExportEnds t address)
export-only-one t address = named (export t address)

pub reset-only-one : (t : Tables) → OnlyOne (ResetEnds t)
reset-only-one t = named (reset t)

-- P1, computed: whatever fits the statement has number 0, status GOOD and count 0
p1-answered : (r : Reply) (u : Tables) (buffer : List ℕ) → CommandEnds small 1 (move_block 0x1000 0x0100) [] [] r u buffer → r ≡ told 0x00 0
unfolding opened command reply_of
p1-answered r u buffer e = ap reply_of e

-- ---- replay

-- what replay hands back of an ending: all of it but the tables
replayed_of : Ending → Replayed
replayed_of e = record { number = e.number; lines = e.lines; place = e.place; expected = e.expected }

pub replay-one : (t : Tables) (log : List ℕ) (expected budget : ℕ) → OneReplay (ReplayEnds t log expected budget)
unfolding replayed_of
replay-one t log expected budget =
    let q = replay t log expected budget in
    record {
      fits = (replayed_of q, q.tables, refl);
      same-replayed = λ r s u w d e. ap replayed_of (d ∙ sym e);
      same_tables = λ r s u w d e. ap (λ (o : Ending). o.tables) (d ∙ sym e);
    }
