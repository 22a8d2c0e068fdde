-- A replay on parts of a room, and on the fronts of copies, which are lent and come back. Assumes nothing.
use Prim.Native.Nat.{ℕ}
use mathlib.Core.Path.{◌≡◌, ap, ◌∙◌}
use mathlib.Core.List.{List}
use lib.ListN.{length, drop}
use Rattle.rules.specs.Tables.{Rest, lent, searching}
use Rattle.rules.specs.Replay.{replay}
use Rattle.replay.specs.declared.Replayed.{Replayed}
use Rattle.replay.specs.Ended.{ended}
use Rattle.case_rooms.specs.Parts.{part, log_at}
use Rattle.case_rooms.proofs.Comparing.{rest-is}

-- the log from a place on, as the code takes it
pub log_is : (room : List ℕ) (n at : ℕ) (whole log : List ℕ) → whole ≡ part room log_at n → log ≡ part whole at (length whole) → log ≡ drop at (part room log_at n)
log_is room n at whole log w e = e ∙ rest-is whole at ∙ ap (drop at) w

-- the end of a replay on what was lent is that of the replay on what was meant
module _ (r : Replayed) (n m : ℕ) where
  pub on-parts : (head elements h es ss log log' : List ℕ) (rest rest' : Rest)
      → rest ≡ rest' → log ≡ log'
      → ended r (lent head elements rest) ≡ replay (lent h es (searching rest ss)) log n m
      → ended r (lent head elements rest') ≡ replay (lent h es (searching rest' ss)) log' n m
  on-parts head elements h es ss log log' rest rest' a b c = rw (← a, ← b) c

  pub on-fronts : (rest : Rest) (log head head' elements elements' search' h h' es es' ss ss' : List ℕ)
      → head' ≡ head → elements' ≡ elements → search' ≡ rest.search → h ≡ h' → es ≡ es' → ss ≡ ss'
      → ended r (lent head elements rest) ≡ replay (lent h es (searching rest ss)) log n m
      → ended r (lent head' elements' (searching rest search')) ≡ replay (lent h' es' (searching rest ss')) log n m
  on-fronts rest log head head' elements elements' search' h h' es es' ss ss' a b c d e f g = rw (a, b, c, ← d, ← e, ← f) g
