-- An event, entered beside an answer buffer; and a call on parts of a room. Assumes nothing.
use Prim.Native.Nat.{ℕ}
use mathlib.Core.Path.{◌≡◌, ap}
use mathlib.Core.List.{List, []}
use lib.ListN.{replicate}
use Rattle.rules.specs.Tables.{Tables, Rest, lent, searching}
use Rattle.rules.specs.Order.{Outcome}
use Rattle.order.specs.declared.Reply.{Reply}
use Rattle.order.specs.Ending.{ended}
use Rattle.case_script.specs.declared.word.Word.{Word}
use Rattle.case_rooms.specs.Alike.{untouched}
use Rattle.case_entering.specs.Called.{beside, called}

-- an event is lent no answer buffer
pub beside-it : (r : Reply) (t : Tables) (buffer : List ℕ) (o : Outcome) → ended r t [] ≡ o → ended r t buffer ≡ beside buffer o
unfolding beside
beside-it r t buffer o e = ap (beside buffer) e

-- the outcome of a call on what was lent is that of the call on what was meant
module _ (w : Word) (f s host : ℕ) (r : Reply) (block : List ℕ) where
  pub on-parts : (n : ℕ) (head elements answer h es ss filled ps ps' : List ℕ) (rest rest' : Rest)
      → rest ≡ rest' → ps ≡ ps' → filled ≡ replicate n 0xEE
      → ended r (lent head elements rest) answer ≡ called w f s (lent h es (searching rest ss)) host block ps filled
      → ended r (lent head elements rest') answer ≡ called w f s (lent h es (searching rest' ss)) host block ps' (untouched n)
  unfolding untouched
  on-parts n head elements answer h es ss filled ps ps' rest rest' a b c d = rw (← a, ← b, ← c) d
