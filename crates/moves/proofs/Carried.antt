-- What a move and an exchange write ends as the rules say. Assumes nothing.
use Prim.Native.Nat.{ℕ, ◌+◌, ◌-◌, ◌≤◌}
use native.Mathlib.Omega.{arith}
use mathlib.Core.Path.{◌≡◌, ap}
use mathlib.Core.List.{List, []}
use lib.ListN.{length}
use Rattle.std.specs.Prelude.{Ok, IfOk}
use Rattle.rules.specs.Roster.{roster}
use Rattle.rules.specs.Tables.{lent, hosts, places, panel, empty_shelves, sensed, shown, NewSense, Recount, in_head, in_elements, change, changes, Rest}
use Rattle.rules.specs.Order.{outcome, good}
use Rattle.rules.proofs.Places.{roster-placed}
use Rattle.rules.proofs.Local.{sense-local}
use Rattle.rules.proofs.Recounts.{recount-past}
use Rattle.rules.proofs.Panel.{shelves-most}
use Rattle.order.specs.declared.Reply.{Reply}
use Rattle.order.specs.Ending.{ended}
use Rattle.tables.specs.declared.Range.{Range}
use Rattle.tables.specs.declared.Spot.{Spot}
use Rattle.tables.specs.Ranges.{laid}
use Rattle.tables.proofs.Roster.{runs-laid}
use Rattle.moves.specs.declared.Carry.{Carry}
use Rattle.moves.specs.declared.Carriage.{Carriage}
use Rattle.moves.specs.declared.Carriage.TheVariants.{Move, Exchange}
use Rattle.moves.specs.Judged.{Ruling, carries, meaning, shifted, carried, swapped, judged_by, carry_verdict, shelf, Tally, Tallies, Able, Within, Ready}
use Rattle.moves.proofs.Meaning.{judged-means}
use Rattle.moves.proofs.Tallied.{judged-tallies}

-- ---- the ways out of what was judged

module _ (head head1 head2 es es1 block : List ℕ) (rest : Rest) (buffer : List ℕ) (h : ℕ) (r : Reply) (some : 1 ≤ h) (most : h ≤ hosts)
    (cleared : ((elements : List ℕ) (rest : Rest) (buffer : List ℕ) → ended r (lent head2 elements rest) buffer ≡ outcome (lent head1 elements rest) buffer (good h []))) where
  module _ (left filled : Spot) (counted : head1 ≡ shown head (panel head + shelf left.kind - shelf filled.kind))
      (tally : Tally (roster head) es1 (panel head) left filled) where
    told : lent (sensed head1 h 0 0 0) es1 rest ≡ change Recount (lent (sensed head h 0 0 0) es1 rest)
    unfolding change in_head
    told =
        let n : panel head + shelf left.kind - shelf filled.kind ≡ empty_shelves (roster head) es1 = omega arith in
        rw (counted, n) (recount-past h some most (NewSense h 0 0 0) (sense-local h 0 0 0) (lent head es1 rest))

  pub moved_ends : (p q : Spot) (v : ℕ) → es1 ≡ carried es block p q v → head1 ≡ shown head (panel head + shelf p.kind - shelf q.kind)
      → Tally (roster head) (carried es block p q v) (panel head) p q
      → ended r (lent head2 es1 rest) buffer ≡ outcome (lent head es rest) buffer (carries es h block (Move p q v))
  unfolding carries good outcome changes change in_head in_elements carried shifted
  moved_ends p q v f counted tally = cc (cleared es1 rest buffer, told p q counted (rw f tally))

  pub exchanged-ends : (p q s : Spot) (v w : ℕ) → es1 ≡ swapped es block p q s v w
      → head1 ≡ shown head (panel head + shelf p.kind - shelf s.kind) → Tally (roster head) (swapped es block p q s v w) (panel head) p s
      → ended r (lent head2 es1 rest) buffer ≡ outcome (lent head es rest) buffer (carries es h block (Exchange p q s v w))
  unfolding carries good outcome changes change in_head in_elements swapped shifted
  exchanged-ends p q s v w f counted tally = cc (cleared es1 rest buffer, told p s counted (rw f tally))

-- ---- what was judged, for what is carried out

module _ (head es block : List ℕ) (r : Carriage) (able : Able head es block r) where
  pub tally-move : (p q : Spot) (v : ℕ) → r ≡ Move p q v → Tally (roster head) (carried es block p q v) (panel head) p q
  tally-move p q v e = rw e at able.tallies

  pub tally-exchange : (p q s : Spot) (v w : ℕ) → r ≡ Exchange p q s v w → Tally (roster head) (swapped es block p q s v w) (panel head) p s
  tally-exchange p q s v w e = rw e at able.tallies

-- ---- what was judged over the runs of the head

module _ (runs : List Range) (head es : List ℕ) (ready : Ready runs head es) where
  pub records-are : length (laid runs) ≡ places es
  unfolding places
  records-are = omega (arith, ap length (runs-laid runs head ready.runs-are), ready.records)

  module _ (generations masks block : List ℕ) (h : ℕ) (carry : Carry) (ruling : Ruling) (is : ruling ≡ judged_by carry (laid runs) head generations masks es h block) where
    pub judged-is : (rest : Rest) → rest.generations ≡ generations → rest.masks ≡ masks
        → meaning es h block ruling ≡ carry_verdict carry (lent head es rest) h block
    judged-is rest g m = cc (runs-laid runs head ready.runs-are, judged-means (lent head es rest) h block carry)

    tallies : IfOk ruling (Tallies (roster head) es block (panel head))
    tallies =
        rw (is, ready.panel-true, runs-laid runs head ready.runs-are)
        (judged-tallies (roster head) (roster-placed head) es ready.records head generations masks h block carry)

    pub judged-able : (c : Carriage) → ruling ≡ Ok c → Within (places es) c → Able head es block c
    judged-able c e inside =
        record { few = omega (arith, ready.panel-true, ready.few, shelves-most (roster head) es); within = inside; tallies = rw e at tallies }
