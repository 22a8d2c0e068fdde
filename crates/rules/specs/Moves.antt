-- MOVE and EXCHANGE, from step 5 on. Assumes nothing.
use Rattle.std.specs.Prelude.{ℕ, List, [], ◌∷◌, Bool, not, eqb, leb}
use Rattle.rules.specs.Choice.{when, any_of, all_of, differ}
use Rattle.rules.specs.Bytes.{word}
use Rattle.rules.specs.Tables.{Tables, holder, Change, Fill, Recount}
use Rattle.rules.specs.Roster.{Slot, roster, place_of, kind_of, first_transport, transport, storage}
use Rattle.rules.specs.Order.{Verdict, WrongAddress, SourceEmpty, DestinationFull, IncompatibleMedium, good, refused, conflict, other, held_by_other, volume_of, source_of}
use Rattle.rules.specs.Fitting.{unfit}

-- "the lowest-addressed transport not held by another host" than h, among the elements of a list; `none` where each is held
unfoldable pub open_transport : ℕ → List ℕ → List Slot → ℕ → ℕ
open_transport h elements [] none = none
open_transport h elements (s ∷ ss) none =
    when (all_of (eqb s.kind transport ∷ not (other h (holder elements s.place)) ∷ [])) s.address (open_transport h elements ss none)

-- "Transport 0 now means" that one; "if there is none, 18h at step 6": the first, which another host then holds, stands for them all. "A transport
-- named by its address is as before."
unfoldable pub transport_used : Tables → ℕ → ℕ → ℕ
transport_used t h a = when (eqb a 0) (open_transport h t.elements (roster t.head) (first_transport (roster t.head))) a

-- "any other must be a transport"
unfoldable pub no_transport : Tables → ℕ → Bool
no_transport t a = differ (kind_of (roster t.head) a) transport

-- "Source and destination must be elements and no transport."
unfoldable pub no_place : Tables → ℕ → Bool
no_place t a = leb (kind_of (roster t.head) a) transport

-- "The place left has volume 0, source 0, mark 0"
unfoldable pub leave : Tables → ℕ → Change
leave t a = Fill (place_of (roster t.head) a) 0 0 0

-- "a volume leaving a storage element takes that address; leaving any other, it keeps the source it had, none included"
unfoldable pub shelf_of : Tables → ℕ → ℕ
shelf_of t a = when (eqb (kind_of (roster t.head) a) storage) a (source_of t a)

-- the volume goes with the last shelf that it left; "a place filled by the arm has mark 0"
unfoldable pub carry : Tables → ℕ → ℕ → Change
carry t from to = Fill (place_of (roster t.head) to) (volume_of t from) (shelf_of t from) 0

-- steps 5 to 8 for MOVE, and "The new refusal stands after step 8": the transport used, the source, the destination. "Every move, exchange .. keeps it true": the panel's number is
-- that of the elements as the move leaves them.
unfoldable pub move_of : Tables → ℕ → ℕ → ℕ → ℕ → Verdict
move_of t h arm from to =
    when (any_of (no_transport t arm ∷ no_place t from ∷ no_place t to ∷ [])) (refused h WrongAddress)
    (when (any_of (held_by_other t h arm ∷ held_by_other t h from ∷ held_by_other t h to ∷ [])) (conflict h)
    (when (eqb (volume_of t from) 0) (refused h SourceEmpty)
    (when (differ (volume_of t to) 0) (refused h DestinationFull)
    (when (unfit t to (volume_of t from)) (refused h IncompatibleMedium)
    (good h (leave t from ∷ carry t from to ∷ Recount ∷ []))))))

-- "MOVE: bytes 2-3 transport, 4-5 source, 6-7 destination"
unfoldable pub move : Tables → ℕ → List ℕ → Verdict
move t h block = move_of t h (transport_used t h (word block 2)) (word block 4) (word block 6)

-- the same for EXCHANGE: the transport used, the source, the first and the second destination; "either leg of an exchange that ends in a drive".
-- Both volumes and their sources are read before a place is written; "the source, unless it is the second, is then a place left".
unfoldable pub exchange_of : Tables → ℕ → ℕ → ℕ → ℕ → ℕ → Verdict
exchange_of t h arm from first second =
    when (any_of (no_transport t arm ∷ no_place t from ∷ no_place t first ∷ no_place t second ∷ eqb first from ∷ [])) (refused h WrongAddress)
    (when (any_of (held_by_other t h arm ∷ held_by_other t h from ∷ held_by_other t h first ∷ held_by_other t h second ∷ [])) (conflict h)
    (when (any_of (eqb (volume_of t from) 0 ∷ eqb (volume_of t first) 0 ∷ [])) (refused h SourceEmpty)
    (when (all_of (differ (volume_of t second) 0 ∷ differ second from ∷ [])) (refused h DestinationFull)
    (when (any_of (unfit t first (volume_of t from) ∷ unfit t second (volume_of t first) ∷ [])) (refused h IncompatibleMedium)
    (good h (leave t from ∷ leave t first ∷ carry t first second ∷ carry t from first ∷ Recount ∷ []))))))

-- "EXCHANGE: 4-5 source, 6-7 first destination, 8-9 second"
unfoldable pub exchange : Tables → ℕ → List ℕ → Verdict
exchange t h block = exchange_of t h (transport_used t h (word block 2)) (word block 4) (word block 6) (word block 8)
