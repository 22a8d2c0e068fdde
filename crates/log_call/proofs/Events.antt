-- A recorded event leaves the tables that the rules say. Assumes nothing.
use Prim.Native.Nat.{ℕ}
use mathlib.Core.Path.{◌≡◌, refl, sym, ap, ◌∙◌}
use mathlib.Core.Bool.{true}
use mathlib.Core.List.{List, []}
use lib.ListN.{length, get_or}
use borrow.Author.Tests.{eq-eqb, ne_eqb}
use Rattle.rules.specs.Choice.{when, all_of}
use Rattle.rules.specs.Bytes.{byte, word}
use Rattle.rules.specs.Tables.{Tables}
use Rattle.rules.specs.Order.{Outcome, outcome}
use Rattle.rules.specs.Command.{Call, Import, Export, Reset, verdict}
use Rattle.rules.specs.Log.{Other, Entry, event_of}
use Rattle.rules.specs.Replay.{answerless, after_line, idle, turn_on}
use Rattle.rules.proofs.Ladder.{differ-is, differ-not, when_true}
use Rattle.log_steps.proofs.Ends.{left_by}
use Rattle.std.specs.Prelude.{Some, None}
use Rattle.events.specs.declared.Event.{Event}
use Rattle.events.specs.declared.Event.TheVariants as event
use Rattle.events.specs.Occurring.{occurring}
use Rattle.log_call.specs.Event.{recorded}

-- ---- the form

module _ (k : ℕ) (block list : List ℕ) (one : length block ≡ 1) where
  pub import-is : get_or block 0 0 ≡ 1 → length list ≡ 4 → event_of k block list ≡ Entry k (Import (word list 0) (word list 2))
  unfolding event_of all_of when byte
  import-is f n = sym (differ-not _ _ _ _ _ one (rw (f, n) refl))

  pub export-is : get_or block 0 0 ≡ 2 → length list ≡ 2 → event_of k block list ≡ Entry k (Export (word list 0))
  unfolding event_of all_of when byte
  export-is f n = sym (differ-not _ _ _ _ _ one (rw (f, n) refl))

  pub reset-is : get_or block 0 0 ≡ 3 → length list ≡ 0 → event_of k block list ≡ Entry k Reset
  unfolding event_of all_of when byte
  reset-is f n = sym (differ-not _ _ _ _ _ one (rw (f, n) refl))

  pub no-import : get_or block 0 0 ≡ 1 → (length list ≡ 4 → ⊥) → event_of k block list ≡ Other
  unfolding event_of all_of when byte
  no-import f n = sym (differ-not _ _ _ _ _ one (rw (f, ne_eqb _ _ n) refl))

  pub no-export : get_or block 0 0 ≡ 2 → (length list ≡ 2 → ⊥) → event_of k block list ≡ Other
  unfolding event_of all_of when byte
  no-export f n = sym (differ-not _ _ _ _ _ one (rw (f, ne_eqb _ _ n) refl))

  pub no-reset : get_or block 0 0 ≡ 3 → (length list ≡ 0 → ⊥) → event_of k block list ≡ Other
  unfolding event_of all_of when byte
  no-reset f n = sym (differ-not _ _ _ _ _ one (rw (f, ne_eqb _ _ n) refl))

  pub no-event : (get_or block 0 0 ≡ 1 → ⊥) → (get_or block 0 0 ≡ 2 → ⊥) → (get_or block 0 0 ≡ 3 → ⊥) → event_of k block list ≡ Other
  unfolding event_of all_of when byte
  no-event x y z = sym (differ-not _ _ _ _ _ one (rw (ne_eqb _ _ x, ne_eqb _ _ y, ne_eqb _ _ z) refl))

-- a block of another length
pub no_block : (k : ℕ) (block list : List ℕ) → (length block ≡ 1 → ⊥) → event_of k block list ≡ Other
unfolding event_of
no_block k block list n = sym (differ-is _ _ _ _ _ n refl)

pub ruleset forms = (import-is, export-is, reset-is, no-import, no-export, no-reset, no-event, no_block)

-- ---- what it does

module _ (t : Tables) (e : ℕ) where
  -- a line of the number that is expected
  pub applied-is : (c : Call) (u : Tables) → u ≡ after_line t c → record { applied = true; tables = u } ≡ turn_on t e (Entry e c)
  unfolding turn_on
  applied-is c u i = ap (λ (x : Tables). record { applied = true; tables = x }) i ∙ sym (when_true _ _ _ (eq-eqb e e refl))

  -- there was none
  pub nothing-done : idle t ≡ turn_on t e (recorded e None)
  unfolding recorded turn_on
  nothing-done = refl

  pub event-done : (o : Outcome) (v : Event) → o ≡ outcome t [] (occurring t v) → record { applied = true; tables = o.tables } ≡ turn_on t e (recorded e (Some v))
  unfolding recorded occurring after_line answerless verdict
  event-done o (event.Import a n) i = applied-is (Import a n) o.tables (left_by t [] _ o i)
  event-done o (event.Export a) i = applied-is (Export a) o.tables (left_by t [] _ o i)
  event-done o event.Reset i = applied-is Reset o.tables (left_by t [] _ o i)
