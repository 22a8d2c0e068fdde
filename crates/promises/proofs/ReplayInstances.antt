-- None of the promises on replay is hollow: each is met by a log of the small library, and what it comes to computes. Assumes nothing.
use Prim.Native.Nat.{ℕ, ◌+◌, ◌≤◌}
use Prim.Native.Char.{code}
use native.Mathlib.Omega.{arith}
use mathlib.Core.Path.{◌≡◌, refl}
use mathlib.Core.Logic.{◌≢◌}
use mathlib.Core.Bool.{true, false}
use mathlib.Core.List.{List, [], ◌∷◌, ◌++◌}
use lib.ListN.{length, replicate}
use lib.Dec.{leb}
use borrow.Author.Tests.{leb-true, ltb-true}
use Rattle.rules.specs.Choice.{differ}
use Rattle.rules.specs.Sound.{sound}
use Rattle.rules.specs.Order.{Outcome}
use Rattle.rules.specs.Command.{Call, Import, serve}
use Rattle.rules.specs.Histories.{run, outcomes}
use Rattle.rules.specs.Log.{LINE-FEED, first_of, before, beyond, Entry, line_of}
use Rattle.rules.specs.Replay.{longest_line, Replayed, stopped, ahead, replay}
use Rattle.rules.specs.Small.{awaits, senses, small, move_block, read_block, sends, asks, lent_buffer}
use Rattle.rules.specs.Cases.{twice}
use Rattle.rules.proofs.Ladder.{differ-true}
use Rattle.rules.proofs.Opened.{opened}
use Rattle.rules.proofs.Sequences.{history-made}
use Rattle.rules.proofs.Logs.{letters, replayed, moved, imported, asked, day, ends, after_move, after_import}
use Rattle.promises.specs.Replays.{going_on, Ends, Faulty, no-line-feed, too_long, another-form, another-number, Kept, Begins, Lines, none, more, bufferless, Made, AsCalled}
use Rattle.promises.proofs.Replays.{goes_on, within-budget, within-log, stops-only, faulty-stops, ten-keeps, refused-counts, stays-sound, one_by_one}
use Rattle.promises.proofs.Instances.{every, at_each, small-sound}

-- ---- budgets: the day in two calls, of one line and of two

noon : Replayed
noon = ends 0 1 30 8 after_move

evening : Replayed
evening = ends 0 3 64 10 (after_import (senses 6 0x28 0x01))

to-noon : replay small day 7 1 ≡ noon
unfolding replayed day moved imported asked letters ends after_move noon
to-noon = refl

from-noon : going_on noon day 2 ≡ ends 0 2 34 10 (after_import (senses 6 0x28 0x01))
unfolding replayed day moved imported asked letters ends after_move after_import noon
from-noon = refl

in-two-calls : ahead 1 30 (going_on noon day 2) ≡ replay small day 7 3
unfolding ends noon
in-two-calls = rw to-noon at (goes_on small day 7 1 2 (rw to-noon refl))

in-one-call : replay small day 7 3 ≡ evening
unfolding replayed day moved imported asked letters ends after_import evening
in-one-call = refl

evening-within : (3 ≤ 3) × (10 ≡ 7 + 3)
unfolding ends evening
evening-within = rw in-one-call at (within-budget small day 7 3)

evening-inside : 64 ≤ length day
unfolding ends evening
evening-inside = rw in-one-call at (within-log small day 7 3)

-- ---- where it stops: at the budget, at the log's end, at once

noon-ends : Ends small day 7 1 noon
noon-ends = rw to-noon at (stops-only small day 7 1)

evening-ends : Ends small day 7 3 evening
evening-ends = rw in-one-call at (stops-only small day 7 3)

twice-unsound : sound twice ≡ false
unfolding opened twice
twice-unsound = refl

twice_ends : replay twice day 7 3 ≡ stopped 1 7 twice
twice_ends = (stops-only twice day 7 3).unsound twice-unsound

evening-sound : sound evening.tables ≡ true
evening-sound = rw in-one-call at (stays-sound small day 7 3 small-sound)

-- ---- number 10, behind a move or at once: each of the four faults

-- the line to come has number 8
another : List ℕ
another = letters "08\t1\t000000000000\t\n"

later : List ℕ
later = letters "9\t1\t000000000000\t\n"

torn : List ℕ
torn = letters "8\t1\t000000000000\t"

long : List ℕ
long = letters "8\t1\t000000000000\t" ++ (replicate 496 (code "0") ++ (LINE-FEED ∷ []))

another-faulty : Faulty 8 another
unfolding replayed letters another
another-faulty = another-form refl

later-faulty : Faulty 8 later
unfolding replayed letters later
later-faulty = another-number {k = 9} {c = asks (replicate 6 0)} refl (λ e. omega arith)

torn-faulty : Faulty 8 torn
unfolding replayed letters torn
torn-faulty = no-line-feed refl

long-faulty : Faulty 8 long
unfolding replayed letters long
long-faulty = too_long (ltb-true _ _ refl)

-- each of them stops replay
some : (s : List ℕ) → differ (length s) 0 ≡ true → length s ≢ 0
some s e = differ-true _ _ e

another-stops : replay small another 8 100 ≡ stopped 10 8 small
unfolding opened letters another
another-stops = faulty-stops small another 8 99 small-sound (some another refl) another-faulty

later-stops : replay small later 8 100 ≡ stopped 10 8 small
unfolding opened letters later
later-stops = faulty-stops small later 8 99 small-sound (some later refl) later-faulty

torn-stops : replay small torn 8 100 ≡ stopped 10 8 small
unfolding opened letters torn
torn-stops = faulty-stops small torn 8 99 small-sound (some torn refl) torn-faulty

long-stops : replay small long 8 100 ≡ stopped 10 8 small
unfolding opened letters long
long-stops = faulty-stops small long 8 99 small-sound (some long refl) long-faulty

-- the move before it stays, and is counted
broken-off : replay small (moved ++ later) 7 100 ≡ ends 10 1 30 8 after_move
unfolding replayed letters moved later ends after_move
broken-off = refl

move-kept : Kept small (moved ++ later) 7 100 (ends 10 1 30 8 after_move)
move-kept = rw broken-off at (ten-keeps small (moved ++ later) 7 100 (rw broken-off (unfold ends in refl)))

-- ---- lines that are applied

begins : (e : ℕ) (s : List ℕ) (c : Call) → differ (first_of LINE-FEED s) (length s) ≡ true → leb (first_of LINE-FEED s) longest_line ≡ true
    → line_of (before LINE-FEED s) ≡ Entry e c → Begins e s c
begins e s c n l f = record { line-feed = differ-true _ _ n; short = leb-true _ _ l; form = f }

-- host 9 is refused by number 2, and the line behind is reached
ninth : List ℕ
ninth = letters "8\t9\t000000000000\t\n" ++ later

of-nine : Call
of-nine = sends 9 (replicate 6 0) [] []

ninth-begins : Begins 8 ninth of-nine
unfolding replayed letters ninth later of-nine
ninth-begins = begins _ _ _ refl refl refl

nine-refused : (serve small of-nine).number ≡ 2
unfolding opened of-nine
nine-refused = refl

ninth-counts : replay small ninth 8 2 ≡ ahead 1 (first_of LINE-FEED ninth + 1) (replay small (beyond LINE-FEED ninth) (8 + 1) 1)
ninth-counts = refused-counts small ninth 8 1 of-nine small-sound ninth-begins (rw nine-refused (λ e. omega arith)) (rw nine-refused (λ e. omega arith))

ninth-ends : replay small ninth 8 2 ≡ ends 0 2 36 10 small
unfolding replayed letters ninth later ends
ninth-ends = refl

-- ---- the calls one by one: a move, a listing of 152 bytes, an import

listing : List ℕ
listing = moved ++ (letters "8\t1\tB8000000FFFF00FFFFFF0000\t\n" ++ letters "9\t0\t01\t00100003\n")

calls : List Call
calls = asks (move_block 0x1000 0x0100) ∷ asks (read_block 0 0xFFFF 0xFFFFFF) ∷ Import 0x0010 3 ∷ []

lending : ℕ → List Call
lending bytes = asks (move_block 0x1000 0x0100) ∷ sends 1 (read_block 0 0xFFFF 0xFFFFFF) [] (lent_buffer bytes) ∷ Import 0x0010 3 ∷ []

listing-lines : Lines 7 listing calls []
unfolding replayed letters moved listing calls
listing-lines = more (begins _ _ _ refl refl refl) (more (begins _ _ _ refl refl refl) (more (begins _ _ _ refl refl refl) none))

-- a byte less is number 5
numbers : List Outcome → List ℕ
numbers [] = []
numbers (o ∷ os) = o.number ∷ numbers os

too_short : numbers (outcomes small (lending 151)) ≡ 0 ∷ 5 ∷ 0 ∷ []
unfolding opened numbers lending
too_short = refl

no-five : every (λ o. differ o.number 5) (outcomes small (lending 152)) ≡ true
unfolding opened every lending
no-five = refl

listing-made : Made small calls (run small (lending 152))
listing-made =
    record {
      calls = lending 152;
      outcomes = outcomes small (lending 152);
      same-calls = unfold opened calls lending bufferless in refl;
      long-enough = λ o m. differ-true _ 5 (at_each (λ o. differ o.number 5) _ no-five o m);
      history = history-made small (lending 152);
    }

listing-called : AsCalled small listing 7 (replay small listing 7 3)
listing-called = one_by_one small listing 7 3 small-sound

three-lines : length calls ≡ (replay small listing 7 3).lines
unfolding replayed letters moved listing calls
three-lines = refl

listing-ends : run small (lending 152) ≡ (replay small listing 7 3).tables
listing-ends = listing-called.one_end calls [] _ listing-lines three-lines listing-made

evening-there : run small (lending 152) ≡ after_import (awaits 0x28 0x01)
unfolding opened lending after_import
evening-there = refl
