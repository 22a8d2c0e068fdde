-- `sound_head::hosts_sound`: at the loop's head the hosts before this number are sound. Assumes nothing.
use Rattle.std.proofs.Common.{◌≡◌, ℕ, ◌<◌, ◌≤◌, true}
use Rattle.sound_head.specs.Hosts.{host_sound}
use Rattle.sound_head.proofs.hosts_sound.Given as goal

abbrev pub invariant-loop-number : goal.invariant-loop-number
invariant-loop-number l = (h : ℕ) → 1 ≤ h → h < l.number → host_sound l.head h ≡ true
