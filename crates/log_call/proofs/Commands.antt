-- A recorded command, by its house numbers, leaves the tables that the rules say. Assumes nothing.
use Prim.Native.Nat.{ℕ}
use mathlib.Core.Path.{◌≡◌, refl, ap, ◌∙◌}
use mathlib.Core.Bool.{Bool, true, false}
use mathlib.Core.List.{List, []}
use Rattle.rules.specs.Tables.{Tables, hosts}
use Rattle.rules.specs.Sound.{sound, within}
use Rattle.rules.specs.Operation.{operation}
use Rattle.rules.specs.Order.{Verdict, Number, after}
use Rattle.rules.specs.Command.{Call, Command, block_fits, parameters_fit, after_numbers, steps, steps_of}
use Rattle.rules.specs.Replay.{answerless, after_line}
use Rattle.rules.proofs.Ladder.{yes, no}
use Rattle.operation.specs.declared.Operation.{Operation}
use Rattle.operation.specs.Meaning.{meaning}

module _ (t : Tables) (h : ℕ) (block list : List ℕ) (s : sound t ≡ true) where
  abbrev asked : Call
  asked = Command (record { host = h; block = block; parameters = list; buffer = [] })

  -- refused by number: as it was
  numbered : (n : ℕ) → Number n ≡ answerless t asked → t ≡ after_line t asked
  unfolding after_line after
  numbered n e = ap (λ (v : Verdict). after v t) e

  pub no-host : within 1 hosts h ≡ false → t ≡ after_line t asked
  unfolding answerless after_numbers
  no-host x = numbered 2 (yes _ _ _ _ _ refl s (no _ _ _ _ _ refl x refl))

  module _ (known : within 1 hosts h ≡ true) (f : Bool) (fe : f ≡ block_fits block) where
    pub no_block : f ≡ false → t ≡ after_line t asked
    unfolding answerless after_numbers
    no_block x = numbered 3 (yes _ _ _ _ _ refl s (yes _ _ _ _ _ refl known (no _ _ _ _ _ fe x refl)))

    module _ (fy : f ≡ true) (p : Bool) (pe : p ≡ parameters_fit block list) where
      pub no-list : p ≡ false → t ≡ after_line t asked
      unfolding answerless after_numbers
      no-list x = numbered 4 (yes _ _ _ _ _ refl s (yes _ _ _ _ _ refl known (yes _ _ _ _ _ fe fy (no _ _ _ _ _ pe x refl))))

      steps-asked : p ≡ true → steps t h block list ≡ answerless t asked
      unfolding answerless after_numbers
      steps-asked x = yes _ _ _ _ _ refl s (yes _ _ _ _ _ refl known (yes _ _ _ _ _ fe fy (yes _ _ _ _ _ pe x refl)))

      pub obeyed : p ≡ true → (op : Operation) → meaning op ≡ operation block → (n : ℕ) → n ≡ h → (u : Tables) → u ≡ after (steps_of (meaning op) t n block list) t
          → u ≡ after_line t asked
      unfolding after_line steps
      obeyed x op is n same u e =
          let a : steps_of (meaning op) t h block list ≡ answerless t asked = rw is (steps-asked x) in
          let b : u ≡ after (steps_of (meaning op) t h block list) t = rw same at e in
          b ∙ ap (λ (v : Verdict). after v t) a
