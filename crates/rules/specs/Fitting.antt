-- "Wrong cartridge, wrong drive": which drive takes which volume. Assumes nothing.
use Rattle.std.specs.Prelude.{ℕ, ◌-◌, ◌/◌, ◌%◌, ◌^◌, [], ◌∷◌, Bool, not, eqb}
use Rattle.rules.specs.Choice.{any_of, all_of}
use Rattle.rules.specs.Bytes.{byte}
use Rattle.rules.specs.Tables.{Tables, Rest}
use Rattle.rules.specs.Roster.{range, roster, kind_of, drive}
use Rattle.rules.specs.Order.{volume_of}

-- "generation 1 to 8 for each volume": of volume v, the first being volume 1
unfoldable pub generation : Rest → ℕ → ℕ
generation rest v = byte rest.generations (v - 1)

-- "a mask (bit g-1) of those it takes"
unfoldable pub accepts : ℕ → ℕ → Bool
accepts m g = eqb (m / 2 ^ (g - 1) % 2) 1

-- "for each drive a mask": the masks lie in the order of the drives' addresses
unfoldable pub mask_of : Tables → ℕ → ℕ
mask_of t a = byte t.rest.masks (a - (range t.head 3).first)

-- the drive at an address takes a volume
unfoldable pub drive_takes : Tables → ℕ → ℕ → Bool
drive_takes t a v = accepts (mask_of t a) (generation t.rest v)

-- "when a drive can't take a cartridge's generation": the element at an address is a drive, and does not take a volume
unfoldable pub unfit : Tables → ℕ → ℕ → Bool
unfit t a v = all_of (eqb (kind_of (roster t.head) a) drive ∷ not (drive_takes t a v) ∷ [])

-- the drive at an address has no "ill-fitting volume": it is empty, or takes what stands in it
unfoldable pub suited : Tables → ℕ → Bool
suited t a = any_of (eqb (volume_of t a) 0 ∷ drive_takes t a (volume_of t a) ∷ [])
