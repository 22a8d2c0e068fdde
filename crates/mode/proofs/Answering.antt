-- What MODE SENSE tells is what the rules say. Assumes nothing.
use Prim.Native.Nat.{ℕ, min, ◌≤◌}
use native.Mathlib.Omega.{arith}
use mathlib.Core.Path.{◌≡◌, sym, ap, ◌∙◌}
use mathlib.Core.Bool.{false}
use mathlib.Core.List.{List}
use lib.ListN.{length}
use borrow.Author.Tests.{ltb-false}
use Rattle.rules.specs.Bytes.{byte}
use Rattle.rules.specs.Tables.{Tables}
use Rattle.rules.specs.Order.{Outcome, outcome, fits}
use Rattle.rules.specs.Mode.{page_code, mode_whole, no_answer, mode_sense}
use Rattle.rules.proofs.Ladder.{any-first, any-rest, when-of}
use Rattle.rules.proofs.Writes.{cut-least, fits_cut}
use Rattle.std.specs.Prelude.{Result}
use Rattle.order.specs.declared.House.{House}
use Rattle.order.specs.Ending.{numbered}
use Rattle.mode.specs.Judged.{most, meaning, mode_by}

-- what step 4 has shown
pub no_more : (head block : List ℕ) → no_answer head block ≡ false → length (mode_whole head (page_code block)) ≤ most
unfolding no_answer
no_more head block e = ltb-false _ _ (any-first _ _ (any-rest _ _ (any-rest _ _ e)))

pub least-most : (n m : ℕ) → min n m ≤ m
least-most n m = omega arith

module _ (t : Tables) (h : ℕ) (block answer : List ℕ) where
  mode-means : meaning t.head h (page_code block) (mode_by t.head (page_code block) (byte block 4) (length answer)) ≡ fits answer (mode_sense t h block)
  unfolding mode_by mode_sense meaning numbered
  mode-means = simp (when-of (meaning t.head h (page_code block)), fits_cut, cut-least)

  -- the code found the answer g
  pub by_answer : (g : Result ℕ House) (o : Outcome) (g' : Result ℕ House) (code allocation : ℕ) → code ≡ page_code block → allocation ≡ byte block 4
      → g ≡ mode_by t.head code allocation (length answer) → g ≡ g'
      → o ≡ outcome t answer (meaning t.head h code g') → o ≡ outcome t answer (fits answer (mode_sense t h block))
  by_answer g o g' code allocation d a is e w =
      w ∙ rw (sym e ∙ is, d, a) (ap (outcome t answer) mode-means)
