-- "the volumes present equal those loaded plus imports less exports, read from the history." Assumes nothing.
use Rattle.std.specs.Prelude.{ℕ, ◌+◌, ◌≤◌, ◌≡◌, ◌≢◌, true, List}
use Rattle.rules.specs.Tables.{Tables, places}
use Rattle.rules.specs.Sound.{sound}
use Rattle.rules.specs.Order.{Outcome}
use Rattle.rules.specs.Command.{Call}
use Rattle.rules.specs.Histories.{History, times, imports, exports}

-- how often the volume number w stands in the library
abbrev pub standing : ℕ → Tables → ℕ
standing w t = times w t.elements (places t.elements)

-- loaded before the history: t; present after it: u
abbrev pub Volumes : Type 0
Volumes =
    (t u : Tables) (cs : List Call) (os : List Outcome) (hs : History t cs os u) → sound t ≡ true → (w : ℕ) → w ≢ 0
    → standing w u + exports w hs ≡ standing w t + imports w hs

-- "and, 0 aside, stands at most once"
abbrev pub NeverTwice : Type 0
NeverTwice = (t : Tables) → sound t ≡ true → (w : ℕ) → w ≢ 0 → standing w t ≤ 1
