-- MOVE and EXCHANGE judged by places, as the code goes, and what each answer means in the rules. Assumes nothing.
use Rattle.std.specs.Prelude.{ℕ, ◌+◌, ◌*◌, ◌-◌, ◌<◌, ◌≤◌, ◌≡◌, List, [], ◌∷◌, Bool, false, not, Result, Ok, Err, length, eqb, leb}
use Rattle.rules.specs.Choice.{when, any_of, all_of, differ}
use Rattle.rules.specs.Bytes.{byte, word}
use Rattle.rules.specs.Tables.{Tables, element_size, most_elements, places, holder, volume, source, panel, empty_shelves, filled, Fill, Recount}
use Rattle.rules.specs.Roster.{Slot, range, roster, kind_of, transport, storage, drive}
use Rattle.rules.specs.Order.{Verdict, good, other}
use Rattle.rules.specs.Moves.{move, exchange}
use Rattle.rules.specs.Fitting.{accepts}
use Rattle.order.specs.declared.Cause.TheVariants.{WrongAddress, SourceEmpty, DestinationFull, IncompatibleMedium}
use Rattle.order.specs.declared.Refusal.{Refusal}
use Rattle.order.specs.declared.Refusal.TheVariants.{For, Conflict}
use Rattle.order.specs.Ending.{verdict}
use Rattle.tables.specs.declared.Range.{Range}
use Rattle.tables.specs.declared.Spot.{Spot}
use Rattle.tables.specs.declared.Types.TheVariants.{Transport}
use Rattle.tables.specs.Ranges.{Runs}
use Rattle.tables.specs.LookUp.{found, on_found, spot_of}
use Rattle.arms.specs.Used.{arm_at}
use Rattle.moves.specs.declared.Asked.{Asked}
use Rattle.moves.specs.declared.Carry.{Carry}
use Rattle.moves.specs.declared.Carry.TheVariants as which
use Rattle.moves.specs.declared.Carriage.{Carriage}
use Rattle.moves.specs.declared.Carriage.TheVariants.{Move, Exchange}

-- of what a command is judged by: the head, the generations, the masks, the elements, its host and its block
abbrev pub asked : {A : Type 0} → (List ℕ → List ℕ → List ℕ → List ℕ → ℕ → List ℕ → A) → Asked → A
asked f a = f a.head.now a.generations.now a.masks.now a.elements.now a.host a.block.now

-- what is judged: what is carried, or why nothing is
abbrev pub Ruling : Type 0
Ruling = Result Carriage Refusal

-- "a volume leaving a storage element takes that address; leaving any other, it keeps the source it had, none included": of the volume at
-- an address, by the type and place there
unfoldable pub shelf_at : List ℕ → ℕ → Spot → ℕ
shelf_at elements a p = when (eqb p.kind storage) a (source elements p.place)

-- ---- what an answer means on the elements as they were: the volumes that it carries come from the addresses of the block

unfoldable pub carries : List ℕ → ℕ → List ℕ → Carriage → Verdict
carries elements h block (Move p q v) =
    good h (Fill p.place 0 0 0 ∷ Fill q.place v (shelf_at elements (word block 4) p) 0 ∷ Recount ∷ [])
carries elements h block (Exchange p q r v w) =
    good h
    (Fill p.place 0 0 0
    ∷ Fill q.place 0 0 0
    ∷ Fill r.place w (shelf_at elements (word block 6) q) 0
    ∷ Fill q.place v (shelf_at elements (word block 4) p) 0
    ∷ Recount
    ∷ [])

unfoldable pub meaning : List ℕ → ℕ → List ℕ → Ruling → Verdict
meaning elements h block (Ok c) = carries elements h block c
meaning elements h block (Err why) = verdict h why

-- the places of what is carried are below n
abbrev pub Within : ℕ → Carriage → Type 0
Within n (Move p q v) = (p.place < n) × (q.place < n)
Within n (Exchange p q r v w) = (p.place < n) × ((q.place < n) × (r.place < n))

-- ---- "The new refusal stands after step 8"

-- the element of a type at an address is a drive, and does not take a volume, by the generations and the masks
unfoldable pub unfit_at : List ℕ → List ℕ → List ℕ → ℕ → ℕ → ℕ → Bool
unfit_at head generations masks kind a v =
    all_of (eqb kind drive ∷ not (accepts (byte masks (a - (range head 3).first)) (byte generations (v - 1))) ∷ [])

abbrev pub incompatible : Ruling
incompatible = Err (For IncompatibleMedium)

-- ---- steps 6 to 8, by places, and that refusal: "for a move or either leg of an exchange that ends in a drive"

unfoldable pub move_at : List ℕ → List ℕ → List ℕ → List ℕ → ℕ → List ℕ → ℕ → Spot → Spot → Ruling
move_at head generations masks elements h block arm p q =
    when (other h (holder elements arm)) (Err Conflict)
    (when (other h (holder elements p.place)) (Err Conflict)
    (when (other h (holder elements q.place)) (Err Conflict)
    (when (eqb (volume elements p.place) 0) (Err (For SourceEmpty))
    (when (differ (volume elements q.place) 0) (Err (For DestinationFull))
    (when (unfit_at head generations masks q.kind (word block 6) (volume elements p.place)) incompatible
    (Ok (Move p q (volume elements p.place))))))))

unfoldable pub exchange_held : List ℕ → ℕ → ℕ → ℕ → ℕ → ℕ → Bool
exchange_held elements h arm p q r =
    any_of (other h (holder elements arm) ∷ other h (holder elements p) ∷ other h (holder elements q) ∷ other h (holder elements r) ∷ [])

-- `same`: the second destination is the source, and may be full
unfoldable pub hinders : List ℕ → ℕ → Bool → Bool
hinders elements r same = when same false (differ (volume elements r) 0)

unfoldable pub exchange_at : List ℕ → List ℕ → List ℕ → List ℕ → ℕ → List ℕ → ℕ → Spot → Spot → Spot → Bool → Ruling
exchange_at head generations masks elements h block arm p q r same =
    when (exchange_held elements h arm p.place q.place r.place) (Err Conflict)
    (when (eqb (volume elements p.place) 0) (Err (For SourceEmpty))
    (when (eqb (volume elements q.place) 0) (Err (For SourceEmpty))
    (when (hinders elements r.place same) (Err (For DestinationFull))
    (when (unfit_at head generations masks q.kind (word block 6) (volume elements p.place)) incompatible
    (when (unfit_at head generations masks r.kind (word block 8) (volume elements q.place)) incompatible
    (Ok (Exchange p q r (volume elements p.place) (volume elements q.place))))))))

-- ---- from step 5 on

abbrev pub wrong : Ruling
wrong = Err (For WrongAddress)

-- "Source and destination must be elements and no transport": type and place of an address, and what is judged by them
unfoldable pub on_place : List Slot → ℕ → (Spot → Ruling) → Ruling
on_place ss a f = when (leb (kind_of ss a) transport) wrong (f (spot_of ss a))

-- the two places of a move
unfoldable pub move_spots : List Slot → List ℕ → List ℕ → List ℕ → List ℕ → ℕ → List ℕ → ℕ → Ruling
move_spots ss head generations masks elements h block arm =
    on_place ss (word block 4) (λ p. on_place ss (word block 6) (λ q. move_at head generations masks elements h block arm p q))

-- the three places of an exchange
unfoldable pub exchange_spots : List Slot → List ℕ → List ℕ → List ℕ → List ℕ → ℕ → List ℕ → ℕ → Ruling
exchange_spots ss head generations masks elements h block arm =
    on_place ss (word block 4)
    (λ p. on_place ss (word block 6)
    (λ q. on_place ss (word block 8)
    (λ r. when (eqb (word block 6) (word block 4)) wrong
    (exchange_at head generations masks elements h block arm p q r (eqb (word block 8) (word block 4))))))

-- of a move, or of an exchange
unfoldable pub spots : Carry → List Slot → List ℕ → List ℕ → List ℕ → List ℕ → ℕ → List ℕ → ℕ → Ruling
spots which.Move = move_spots
spots which.Exchange = exchange_spots

unfoldable pub judged_by : Carry → List Slot → List ℕ → List ℕ → List ℕ → List ℕ → ℕ → List ℕ → Ruling
judged_by carry ss head generations masks elements h block =
    on_found (found Transport ss (arm_at ss elements h (word block 2))) (spots carry ss head generations masks elements h block) wrong

-- what the rules say of it
unfoldable pub carry_verdict : Carry → Tables → ℕ → List ℕ → Verdict
carry_verdict which.Move t h block = move t h block
carry_verdict which.Exchange t h block = exchange t h block

-- ---- carried out

-- a volume from one place to another, with a source
unfoldable pub shifted : List ℕ → ℕ → ℕ → ℕ → ℕ → List ℕ
shifted elements p q v s = filled (filled elements p 0 0 0) q v s 0

unfoldable pub carried : List ℕ → List ℕ → Spot → Spot → ℕ → List ℕ
carried elements block p q v = shifted elements p.place q.place v (shelf_at elements (word block 4) p)

unfoldable pub swapped : List ℕ → List ℕ → Spot → Spot → Spot → ℕ → ℕ → List ℕ
swapped elements block p q r v w =
    filled (shifted (filled elements p.place 0 0 0) q.place r.place w (shelf_at elements (word block 6) q)) q.place v
    (shelf_at elements (word block 4) p) 0

-- ---- "how many storage elements are empty", by adding and taking away

-- 1 for a shelf, 0 for an element of another type
abbrev pub shelf : ℕ → ℕ
shelf kind = when (eqb kind storage) 1 0

-- of n empty shelves one more where one was left, one fewer where one was filled
abbrev pub Tally : List Slot → List ℕ → ℕ → Spot → Spot → Type 0
Tally ss elements n left filled = empty_shelves ss elements + shelf filled.kind ≡ n + shelf left.kind

-- once it is carried; the first destination of an exchange is full before and after
abbrev pub Tallies : List Slot → List ℕ → List ℕ → ℕ → Carriage → Type 0
Tallies ss elements block n (Move p q v) = Tally ss (carried elements block p q v) n p q
Tallies ss elements block n (Exchange p q r v w) = Tally ss (swapped elements block p q r v w) n p r

-- what carrying it out stands on
pub record Able (head elements block : List ℕ) (carriage : Carriage) : Type 0 where
  pub few : panel head ≤ most_elements
  pub within : Within (places elements) carriage
  pub tallies : Tallies (roster head) elements block (panel head) carriage

-- what moves need of sound tables
pub record Ready (runs : List Range) (head elements : List ℕ) : Type 0 where
  pub runs-are : Runs runs head
  pub records : length elements ≡ element_size * length (roster head)
  pub few : length (roster head) ≤ most_elements
  pub panel-true : panel head ≡ empty_shelves (roster head) elements
