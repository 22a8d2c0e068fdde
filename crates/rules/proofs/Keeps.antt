-- Every call leaves sound tables sound. Assumes nothing.
use mathlib.Core.Path.{◌≡◌}
use mathlib.Core.Bool.{true}
use Rattle.rules.specs.Tables.{Tables}
use Rattle.rules.specs.Sound.{sound}
use Rattle.rules.specs.Order.{Verdict, Number, Prevented, Done, after}
use Rattle.rules.specs.Command.{Call, Command, Import, Export, Reset, judge, verdict}
use Rattle.rules.specs.Histories.{next}
use Rattle.rules.proofs.Ladder.{on}
use Rattle.rules.proofs.Soundness.{Sound, sound-true, sound-of}
use Rattle.rules.proofs.Keep.{Sounds}
use Rattle.rules.proofs.KeepCommands.{judged-sound}
use Rattle.rules.proofs.KeepEvents.{importing-sound, exporting-sound, resetting-sound}

verdict-sound : (t : Tables) (c : Call) → Sound t → Sounds t (verdict t c)
unfolding verdict judge
verdict-sound t (Command r) s = on (Sounds t) (sound t) (λ _. judged-sound t r s) (λ _. tt)
verdict-sound t (Import a v) s = importing-sound t s a v
verdict-sound t (Export a) s = exporting-sound t s a
verdict-sound t Reset s = resetting-sound t s

after-sound : (t : Tables) (v : Verdict) → Sound t → Sounds t v → Sound (after v t)
unfolding after
after-sound t (Number n) s x = s
after-sound t (Prevented n h) s x = s
after-sound t (Done status bytes cs) s x = x

pub sound-stays : (t : Tables) (c : Call) → sound t ≡ true → sound (next t c) ≡ true
unfolding next
sound-stays t c e = let s = sound-true t e in sound-of _ (after-sound t (verdict t c) s (verdict-sound t c s))
