-- The ranges by first address: each ends before the next begins. Assumes nothing.
use Rattle.std.specs.Prelude.{List, [], ◌∷◌, map, Bool, true, false, leb}
use Rattle.rules.specs.Choice.{when, all_of}
use Rattle.rules.specs.Roster.{Range}
use Rattle.rules.specs.Sound.{behind, range_sound}

-- each range by itself
unfoldable pub each_sound : List Range → Bool
each_sound rs = all_of (map range_sound rs)

-- one range ends before another begins
unfoldable pub before : Range → Range → Bool
before r s = leb (behind r) s.first

-- each ends before the next begins
unfoldable pub in_line : List Range → Bool
in_line [] = true
in_line (r ∷ []) = true
in_line (r ∷ s ∷ rs) = when (before r s) (in_line (s ∷ rs)) false
