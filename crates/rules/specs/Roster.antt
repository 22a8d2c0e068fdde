-- The ranges and the roster: "one for each address in the ranges, ascending (the address itself isn't stored)". Assumes nothing.
use Rattle.std.specs.Prelude.{ℕ, zero, suc, ◌+◌, ◌*◌, List, [], ◌∷◌, ◌++◌, eqb, leb}
use Rattle.rules.specs.Choice.{when}
use Rattle.rules.specs.Bytes.{word}

-- the type codes: "1 transport, 2 storage, 3 import/export, 4 drive"
abbrev pub transport : ℕ
transport = 1

abbrev pub storage : ℕ
storage = 2

abbrev pub port : ℕ
port = 3

abbrev pub drive : ℕ
drive = 4

pub record Range : Type 0 where
  pub kind : ℕ
  pub first : ℕ
  pub count : ℕ

-- "Four ranges of 4 bytes": where the k-th stands in the head, from 0
abbrev pub range_at : ℕ → ℕ
range_at k = 4 * k

-- "each first address and count, in the order transport, storage, import/export, drive": the k-th from 0 is of type k + 1
unfoldable pub range : List ℕ → ℕ → Range
range head k = record { kind = suc k; first = word head (range_at k); count = word head (range_at k + 2) }

unfoldable pub ranges : List ℕ → List Range
ranges head = range head 0 ∷ range head 1 ∷ range head 2 ∷ range head 3 ∷ []

-- an element: its type, its address, and its place in the element table
pub record Slot : Type 0 where
  pub kind : ℕ
  pub address : ℕ
  pub place : ℕ

-- n elements of a type from an address and a place on
unfoldable pub slots : ℕ → ℕ → ℕ → ℕ → List Slot
slots k a p zero = []
slots k a p (suc n) = record { kind = k; address = a; place = p } ∷ slots k (suc a) (suc p) n

-- the elements of ranges, one range after the other
unfoldable pub spread : ℕ → List Range → List Slot
spread p [] = []
spread p (r ∷ rs) = slots r.kind r.first p r.count ++ spread (p + r.count) rs

unfoldable pub insert : Range → List Range → List Range
insert r [] = r ∷ []
insert r (s ∷ ss) = when (leb r.first s.first) (r ∷ s ∷ ss) (s ∷ insert r ss)

-- ranges by first address
unfoldable pub sorted : List Range → List Range
sorted [] = []
sorted (r ∷ rs) = insert r (sorted rs)

-- every element, ascending by address
unfoldable pub roster : List ℕ → List Slot
roster head = spread 0 (sorted (ranges head))

-- the type of the element at a place; 0 where there is none
unfoldable pub kind_at : List Slot → ℕ → ℕ
kind_at [] p = 0
kind_at (s ∷ ss) zero = s.kind
kind_at (s ∷ ss) (suc p) = kind_at ss p

-- the place of an address; the number of elements where it is no element's
unfoldable pub place_of : List Slot → ℕ → ℕ
place_of [] a = 0
place_of (s ∷ ss) a = when (eqb s.address a) 0 (suc (place_of ss a))

-- the type of an address; 0 where it is no element's
unfoldable pub kind_of : List Slot → ℕ → ℕ
kind_of [] a = 0
kind_of (s ∷ ss) a = when (eqb s.address a) s.kind (kind_of ss a)

-- the address of the lowest-addressed transport
unfoldable pub first_transport : List Slot → ℕ
first_transport [] = 0
first_transport (s ∷ ss) = when (eqb s.kind transport) s.address (first_transport ss)
