-- A line is read from the front of a text that the longest one takes. Assumes nothing.
use Prim.Native.Nat.{ℕ, ◌<◌, ◌≤◌, min}
use native.Mathlib.Omega.{arith}
use mathlib.Core.Path.{◌≡◌, refl, sym, ap, ◌∙◌}
use mathlib.Core.Logic.{◌≢◌}
use mathlib.Core.Bool.{Bool, true, false}
use mathlib.Core.List.{List}
use lib.ListN.{length, take}
use lib.Seq.{take-take, length-take-le}
use lib.Dec.{ltb}
use borrow.Author.Tests.{eq-eqb, ne_eqb, lt-ltb, le-ltb, ltb-true, ltb-false}
use Rattle.rules.specs.Log.{LINE-FEED, first_of, before, line_of}
use Rattle.rules.proofs.Ladder.{either, when_true, when_false}
use Rattle.rules.proofs.Replaying.{first-inside}
use Rattle.log_line.specs.Rungs.{here, first_line}
use Rattle.std.specs.Prelude.{Option, Some, None}
use Rattle.log_line.specs.declared.Entry.{Entry}
use Rattle.log_line.specs.Read.{Room, Within}
use Rattle.log_line.proofs.Text.{first_taken, none-taken}

module _ (s : List ℕ) (n : ℕ) (is : n ≡ min (length s) 513) where
  inside : n ≤ length s
  inside = omega arith

  pub reached : length (take n s) ≡ n
  reached = length-take-le n s inside

  pub room : (b l : List ℕ) → 256 ≤ length b → 256 ≤ length l → Room 0 (take n s) b l
  room b l x y = record { started = omega arith; for-block = omega (arith, reached); for-list = omega (arith, reached) }

  -- a line feed that is reached ends a line that is not too long
  feed-reached : first_of LINE-FEED s < n → here line_of (take n s) ≡ first_line s
  unfolding here first_line
  feed-reached h =
      let f = first_taken LINE-FEED n s h in
      let a : first_of LINE-FEED (take n s) ≢ length (take n s) = λ q. omega (arith, reached) in
      let b : first_of LINE-FEED s ≢ length s = λ q. omega (arith, inside) in
      let c : first_of LINE-FEED s ≤ 512 = omega arith in
      let d : before LINE-FEED (take n s) ≡ before LINE-FEED s = rw f (take-take (first_of LINE-FEED s) n s (omega arith)) in
      when_false _ _ _ (ne_eqb _ _ a) ∙ ap line_of d ∙ sym (when_false _ _ _ (ne_eqb _ _ b) ∙ when_false _ _ _ (le-ltb _ _ c))

  feed-beyond : n ≤ first_of LINE-FEED s → here line_of (take n s) ≡ first_line s
  unfolding here first_line
  feed-beyond h =
      when_true _ _ _ (eq-eqb _ _ (none-taken LINE-FEED n s h))
      ∙ either (first_of LINE-FEED s) (length s) (λ e. sym (when_true _ _ _ (eq-eqb _ _ e)))
      λ m. let c : 512 < first_of LINE-FEED s = omega (arith, first-inside LINE-FEED s) in sym (when_false _ _ _ (ne_eqb _ _ m) ∙ when_true _ _ _ (lt-ltb _ _ c))

  pub read-reach : here line_of (take n s) ≡ first_line s
  read-reach = by (ltb (first_of LINE-FEED s) n) refl
    where
      by : (b : Bool) → ltb (first_of LINE-FEED s) n ≡ b → here line_of (take n s) ≡ first_line s
      by true e = feed-reached (ltb-true _ _ e)
      by false e = feed-beyond (ltb-false _ _ e)

  pub within-reach : (r : Option Entry) (b l : List ℕ) → Within r 0 (take n s) b l → Within r 0 s b l
  within-reach None b l w = tt
  within-reach (Some r) b l w =
      let f : first_of LINE-FEED s ≡ first_of LINE-FEED (take n s) = by (ltb (first_of LINE-FEED s) n) refl in
      record { block_held = w.block_held; list_held = w.list_held; ends = w.ends ∙ omega arith; inside = omega (arith, w.inside, reached, inside) }
    where
      by : (c : Bool) → ltb (first_of LINE-FEED s) n ≡ c → first_of LINE-FEED s ≡ first_of LINE-FEED (take n s)
      by true d = sym (first_taken LINE-FEED n s (ltb-true _ _ d))
      by false d = absurd (omega (arith, w.ends, w.inside, none-taken LINE-FEED n s (ltb-false _ _ d)))
