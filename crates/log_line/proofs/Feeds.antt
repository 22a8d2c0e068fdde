-- A text and what stands before its line feed: a field before a tab, and what is read from a place on. Assumes nothing.
use Prim.Native.Nat.{ℕ, ◌<◌, ◌≤◌}
use native.Mathlib.Omega.{arith}
use mathlib.Core.Path.{◌≡◌, refl, sym, ap, ◌∙◌}
use mathlib.Core.Logic.{◌≢◌}
use mathlib.Core.Bool.{Bool, true, false}
use mathlib.Core.List.{List}
use lib.ListN.{length, drop, length-drop}
use lib.Seq.{take-take, length-take-le}
use lib.Dec.{ltb}
use borrow.Author.Tests.{eq-eqb, ne_eqb, ltb-true, ltb-false}
use Rattle.rules.specs.Choice.{when}
use Rattle.rules.specs.Log.{TAB, LINE-FEED, first_of, before, digit, Line, Other}
use Rattle.rules.proofs.Ladder.{on, either, when_true, when_false}
use Rattle.rules.proofs.Replaying.{first-inside}
use Rattle.log_line.specs.Rungs.{here}
use Rattle.log_line.proofs.Text.{first-from, before-from, first_taken, none-taken}

-- ---- before the line feed

-- another form there is another form
pub other-here : (f : List ℕ → Line) (s : List ℕ) → f (before LINE-FEED s) ≡ Other → Other ≡ here f s
unfolding here
other-here f s e = on (λ (l : Line). Other ≡ l) _ (λ _. refl) (λ _. sym e)

-- what is read of a text is read from a place on that is not behind the line feed
pub here-from : (f g : List ℕ → Line) (k : ℕ) (s : List ℕ) → k ≤ first_of LINE-FEED s → f (before LINE-FEED s) ≡ g (drop k (before LINE-FEED s))
    → here g (drop k s) ≡ here f s
unfolding here
here-from f g k s h e =
    let z = first-from LINE-FEED k s h in
    let i = first-inside LINE-FEED s in
    let l = length-drop k s in
    either (first_of LINE-FEED s) (length s)
    (λ q.
    let w : first_of LINE-FEED (drop k s) ≡ length (drop k s) = omega arith in
    when_true _ _ _ (eq-eqb _ _ w) ∙ sym (when_true _ _ _ (eq-eqb _ _ q)))
    λ n.
    let w : first_of LINE-FEED (drop k s) ≢ length (drop k s) = λ q. n (omega arith) in
    when_false _ _ _ (ne_eqb _ _ w) ∙ sym (when_false _ _ _ (ne_eqb _ _ n) ∙ e ∙ ap g (before-from LINE-FEED k s h))

-- a line feed is no digit, and no tab
pub feed-none : digit LINE-FEED ≡ 16
unfolding digit when
feed-none = refl

pub tab-other : TAB ≢ LINE-FEED
tab-other e = omega arith

pub before-length : (s : List ℕ) → length (before LINE-FEED s) ≡ first_of LINE-FEED s
before-length s = length-take-le (first_of LINE-FEED s) s (first-inside LINE-FEED s)

-- ---- a field before a tab, in a text and in what stands before its line feed

module _ (s : List ℕ) (h : first_of TAB s < first_of LINE-FEED s) where
  pub tab-kept : first_of TAB (before LINE-FEED s) ≡ first_of TAB s
  tab-kept = first_taken TAB (first_of LINE-FEED s) s h

  pub before-kept : before TAB (before LINE-FEED s) ≡ before TAB s
  before-kept = rw tab-kept (take-take (first_of TAB s) (first_of LINE-FEED s) s (omega arith))

  pub tab-inside : first_of TAB (before LINE-FEED s) ≢ length (before LINE-FEED s)
  tab-inside q = omega (arith, tab-kept, before-length s)

-- by whether the tab stands before the line feed
pub by-tab : (P : Type 0) (s : List ℕ) → (first_of TAB s < first_of LINE-FEED s → P) → (first_of TAB (before LINE-FEED s) ≡ length (before LINE-FEED s) → P) → P
by-tab P s f g = go (ltb (first_of TAB s) (first_of LINE-FEED s)) refl
  where
    go : (b : Bool) → ltb (first_of TAB s) (first_of LINE-FEED s) ≡ b → P
    go true e = f (ltb-true _ _ e)
    go false e = g (none-taken TAB (first_of LINE-FEED s) s (ltb-false _ _ e))

pub tab-none : digit TAB ≡ 16
unfolding digit when
tab-none = refl
