-- Each call ends as the rules say: refused by number, or with the verdict of what was called. Assumes nothing.
use Prim.Native.Nat.{ℕ}
use mathlib.Core.Path.{◌≡◌, refl, sym, ◌∙◌}
use mathlib.Core.Bool.{Bool, true, false}
use mathlib.Core.List.{List, []}
use lib.ListN.{length}
use Rattle.rules.specs.Bytes.{byte}
use Rattle.rules.specs.Tables.{Tables}
use Rattle.rules.specs.Operation.{decoded, operation}
use Rattle.rules.specs.Order.{Verdict, Number, outcome, fits}
use Rattle.rules.specs.Command.{command, import, export, reset, serve, verdict, buffer_of, judge, block_fits, wanted, parameters_fit, steps, steps_of}
use Rattle.rules.specs.Events.{importing, exporting, resetting, at_port}
use Rattle.rules.specs.Sound.{sound}
use Rattle.rules.proofs.Ladder.{no}
use Rattle.events.specs.declared.Event.{Event}
use Rattle.events.specs.declared.Event.TheVariants.{Import, Export, Reset}
use Rattle.events.specs.Occurring.{occurring}
use Rattle.serving.specs.Happened.{happened}
use Rattle.order.specs.declared.Reply.{Reply}
use Rattle.order.specs.Ending.{ended, bare}
use Rattle.operation.specs.declared.Operation.{Operation}
use Rattle.operation.specs.Meaning.{meaning, Fitting}

-- refused by a house number
pub number-ends : (t : Tables) (b : List ℕ) (n : ℕ) (v : Verdict) (r : Reply) → r ≡ bare n → Number n ≡ v → ended r t b ≡ outcome t b v
unfolding outcome
number-ends t b n v r e f = rw (e, sym f)

-- ---- the operation that was decoded is the block's

module _ (op : Operation) (block : List ℕ) (is : meaning op ≡ decoded (byte block 0)) where
  pub fitting : block_fits block ≡ true → Fitting op block
  unfolding operation
  fitting e = record { decoded = is; fits = e }

  pub fit_is : (parameters : List ℕ) (b : Bool) → b ≡ wanted (meaning op) block (length parameters) → b ≡ parameters_fit block parameters
  unfolding parameters_fit operation
  fit_is parameters b e = rw (← is) e

  pub steps-are : (t : Tables) (h : ℕ) (list buffer : List ℕ) → fits buffer (steps_of (meaning op) t h block list) ≡ fits buffer (steps t h block list)
  unfolding steps operation
  steps-are t h list buffer = rw is refl

-- ---- the entries' statements are those of the verdicts

pub command-is : (t : Tables) (host : ℕ) (block parameters b : List ℕ)
    → outcome t b (judge t (record { host = host; block = block; parameters = parameters; buffer = b })) ≡ command t host block parameters b
unfolding command serve verdict buffer_of
command-is t host block parameters b = refl

import-is : (t : Tables) (a v : ℕ) → outcome t [] (importing t a v) ≡ import t a v
unfolding import serve verdict buffer_of
import-is t a v = refl

export_is : (t : Tables) (a : ℕ) → outcome t [] (exporting t a) ≡ export t a
unfolding export serve verdict buffer_of
export_is t a = refl

reset-is : (t : Tables) → outcome t [] (resetting t) ≡ reset t
unfolding reset serve verdict buffer_of
reset-is t = refl

pub happened-is : (e : Event) (t : Tables) → outcome t [] (occurring t e) ≡ happened e t
unfolding occurring
happened-is (Import a v) t = import-is t a v
happened-is (Export a) t = export_is t a
happened-is Reset t = reset-is t

-- no event comes to tables that are not sound
unsound : (e : Event) (t : Tables) → sound t ≡ false → Number 1 ≡ occurring t e
unfolding occurring importing exporting resetting at_port
unsound (Import a v) t h = no (sound t) (sound t) _ _ _ refl h refl
unsound (Export a) t h = no (sound t) (sound t) _ _ _ refl h refl
unsound Reset t h = no (sound t) (sound t) _ _ _ refl h refl

pub unsound-ends : (e : Event) (t : Tables) (r : Reply) → r ≡ bare 1 → sound t ≡ false → ended r t [] ≡ happened e t
unsound-ends e t r is h = number-ends t [] 1 _ r is (unsound e t h) ∙ happened-is e t
