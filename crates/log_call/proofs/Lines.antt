-- Each way out of a line that was read is the rules'. Assumes nothing.
use Prim.Native.Nat.{ℕ}
use mathlib.Core.Path.{◌≡◌, refl, sym, ap, ◌∙◌}
use mathlib.Core.Bool.{Bool, true}
use mathlib.Core.List.{List, []}
use lib.ListN.{length, take}
use lib.Dec.{eqb}
use Rattle.rules.specs.Choice.{when}
use Rattle.rules.specs.Tables.{Tables}
use Rattle.rules.specs.Command.{Call, Command}
use Rattle.rules.specs.Log.{LINE-FEED, first_of, Line, Other, Entry as EntryLine, event_of, entry_of}
use Rattle.rules.specs.Replay.{idle, turn_on, turn, after_line}
use Rattle.rules.proofs.Ladder.{on, eq_is, eq-not, when-of}
use Rattle.log_line.specs.declared.Entry.{Entry}
use Rattle.log_line.specs.Rungs.{first_line}
use Rattle.log_call.proofs.Events.{applied-is}

-- ---- host 0, and the others

module _ (t : Tables) (h : ℕ) (block list : List ℕ) (e : ℕ) where
  pub of-event : h ≡ 0 → turn_on t e (event_of e block list) ≡ turn_on t e (entry_of e h block list)
  unfolding entry_of
  of-event i = ap (turn_on t e) (eq_is _ _ _ _ _ i refl)

  pub of-command : (h ≡ 0 → ⊥) → (u : Tables) → u ≡ after_line t (Command (record { host = h; block = block; parameters = list; buffer = [] }))
      → record { applied = true; tables = u } ≡ turn_on t e (entry_of e h block list)
  unfolding entry_of
  of-command n u i = applied-is t e _ u i ∙ ap (turn_on t e) (eq-not _ _ _ _ _ n refl)

-- ---- a turn is that of the line that the text begins with

pub turn_is : (t : Tables) (e : ℕ) (s : List ℕ) → turn_on t e (first_line s) ≡ turn t e s
unfolding first_line turn turn_on
turn_is t e s = when-of (turn_on t e) _ _ _ ∙ ap (when (eqb (first_of LINE-FEED s) (length s)) (idle t)) (when-of (turn_on t e) _ _ _)

-- a line of another number, whatever it records
other-number : (t : Tables) (e k h : ℕ) (block list : List ℕ) → (k ≡ e → ⊥) → idle t ≡ turn_on t e (entry_of k h block list)
unfolding entry_of event_of turn_on
other-number t e k h block list n =
    let P : Line → Type 0 = λ l. idle t ≡ turn_on t e l in
    let entry : (c : Call) → P (EntryLine k c) = λ c. eq-not _ _ _ _ _ n refl in
    on P _ (λ _. on P _ (λ _. refl) (λ _. on P _ (λ _. entry _) (λ _. on P _ (λ _. entry _) (λ _. on P _ (λ _. entry _) (λ _. refl))))) (λ _. entry _)

-- ---- a line that was read

module _ (s b l : List ℕ) (n : Entry) (is : entry_of n.number n.host (take n.block b) (take n.list l) ≡ first_line s) (t : Tables) (e : ℕ) where
  pub another-number : (n.number ≡ e → ⊥) → idle t ≡ turn t e s
  another-number q = other-number t e n.number n.host _ _ q ∙ ap (turn_on t e) is ∙ turn_is t e s

  pub carried : n.number ≡ e → (a : Bool) (u : Tables) → record { applied = a; tables = u } ≡ turn_on t e (entry_of e n.host (take n.block b) (take n.list l))
      → (x : Bool) → a ≡ x → record { applied = x; tables = u } ≡ turn t e s
  carried j a u c x q =
      ap (λ (y : Bool). record { applied = y; tables = u }) (sym q)
      ∙ c
      ∙ ap (λ (k : ℕ). turn_on t e (entry_of k n.host (take n.block b) (take n.list l))) (sym j)
      ∙ ap (turn_on t e) is
      ∙ turn_is t e s

-- another form
pub another-form : (s : List ℕ) (t : Tables) (e : ℕ) → Other ≡ first_line s → idle t ≡ turn t e s
unfolding turn_on
another-form s t e i = ap (turn_on t e) i ∙ turn_is t e s
