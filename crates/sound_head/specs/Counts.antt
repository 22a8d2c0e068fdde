-- The counts of the four ranges that are handed about. Assumes nothing.
use Rattle.std.specs.Prelude.{List, Bool, get_or}
use Rattle.rules.specs.Roster.{Range}
use Rattle.rules.specs.Sound.{counts_sound}
use Rattle.tables.specs.Ranges.{no_range}

unfoldable pub counts_fit : List Range → Bool
counts_fit rs = counts_sound (get_or rs 0 no_range).count (get_or rs 1 no_range).count (get_or rs 2 no_range).count (get_or rs 3 no_range).count
