-- A call on the fronts of copies, which are lent and come back. Assumes nothing.
use Prim.Native.Nat.{ℕ}
use mathlib.Core.Path.{◌≡◌}
use mathlib.Core.List.{List}
use lib.ListN.{length}
use Rattle.rules.specs.Tables.{Rest, lent, searching}
use Rattle.order.specs.declared.Reply.{Reply}
use Rattle.order.specs.Ending.{ended}
use Rattle.case_script.specs.declared.word.Word.{Word}
use Rattle.case_entering.specs.Called.{called}
use Rattle.case_rooms.specs.Alike.{untouched}

-- the outcome of a call on what was lent is that of the call on what was meant
module _ (w : Word) (f s host : ℕ) (r : Reply) (block : List ℕ) where
  pub on-fronts : (rest : Rest) (ps head head' elements elements' search' answer answer' h h' es es' ss ss' buffer buffer' : List ℕ)
      → head' ≡ head → elements' ≡ elements → search' ≡ rest.search → answer' ≡ answer → h ≡ h' → es ≡ es' → ss ≡ ss' → buffer ≡ buffer'
      → ended r (lent head elements rest) answer ≡ called w f s (lent h es (searching rest ss)) host block ps (untouched (length buffer))
      → ended r (lent head' elements' (searching rest search')) answer' ≡ called w f s (lent h' es' (searching rest ss')) host block ps (untouched (length buffer'))
  on-fronts rest ps head head' elements elements' search' answer answer' h h' es es' ss ss' buffer buffer' a b c d e i j k l = rw (a, b, c, d, ← e, ← i, ← j, ← k) l
