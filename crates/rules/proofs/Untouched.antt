-- Demand 1: what a call that is refused, by number or by status, leaves as it was; what every call leaves of the answer buffer; which
-- calls return bytes. Assumes nothing.
use Prim.Native.Nat.{ℕ, ◌+◌, ◌<◌, ◌≤◌}
use native.Mathlib.Omega.{arith}
use mathlib.Core.Path.{◌≡◌, refl, ap, ◌∙◌}
use mathlib.Core.Logic.{◌≢◌}
use mathlib.Core.Bool.{Bool, true, false}
use mathlib.Core.List.{List, [], ◌∷◌}
use lib.ListN.{length}
use lib.Dec.{leb}
use borrow.Author.Tests.{leb-true}
use Rattle.rules.specs.Choice.{when}
use Rattle.rules.specs.Bytes.{byte, put}
use Rattle.rules.specs.Tables.{Tables, host_at, Change, OfHead, OfElements, OfSearch, Recount, in_head, change, changes}
use Rattle.rules.specs.Sound.{sound}
use Rattle.rules.specs.Order.{Verdict, Number, Prevented, Done, Outcome, GOOD, CHECK-CONDITION, RESERVATION-CONFLICT, Cause, InvalidOperation, outcome, fits, good, check, refused, conflict}
use Rattle.rules.specs.Operation.{Operation, TestUnitReady, RequestSense, Reserve, Release, PreventAllow, MoveMedium, ExchangeMedium, ReadElementStatus, ModeSense, SendVolumeTag, RequestVolumeElementAddress, Unknown, operation}
use Rattle.rules.specs.Moves.{move, exchange}
use Rattle.rules.specs.Holds.{reserve, release, prevent}
use Rattle.rules.specs.Sense.{request_sense}
use Rattle.rules.specs.Listing.{read_status}
use Rattle.rules.specs.Search.{send_tag, request_address}
use Rattle.rules.specs.Mode.{mode_sense}
use Rattle.rules.specs.Events.{at_port, done, importing, exporting, resetting}
use Rattle.rules.specs.Command.{Request, Call, Command, Import, Export, Reset, act, steps, after_numbers, judged, judge, verdict, buffer_of, serve}
use Rattle.rules.proofs.Ladder.{on, either}
use Rattle.rules.proofs.Walks.{Refusals, telling, refused-by, steps-by, move-by, exchange-by, reserve-by, release-by, tag-by}
use Rattle.rules.proofs.Writes.{put-length, byte_put}
use Rattle.rules.proofs.Local.{Local, OfHost, leaves, leaves-length, sense-local, attention-local}

-- ---- refused by number: no change is carried

pub record Untouched (t : Tables) (buffer : List ℕ) (o : Outcome) : Type 0 where
  pub tables-is : o.tables ≡ t
  pub buffer-is : o.buffer ≡ buffer
  pub status-is : o.status ≡ 0
  pub count-is : o.count ≡ 0

pub number-untouched : (t : Tables) (buffer : List ℕ) (v : Verdict) → (outcome t buffer v).number ≢ 0 → Untouched t buffer (outcome t buffer v)
unfolding outcome
number-untouched t buffer (Number n) z = record { tables-is = refl; buffer-is = refl; status-is = refl; count-is = refl }
number-untouched t buffer (Prevented n h) z = record { tables-is = refl; buffer-is = refl; status-is = refl; count-is = refl }
number-untouched t buffer (Done s bytes cs) z = absurd (z refl)

-- "Number 7 also returns how many hosts prevent removal and the lowest such host; else both are 0."
pub preventers-none : (t : Tables) (buffer : List ℕ) (v : Verdict) → (outcome t buffer v).number ≢ 7
    → ((outcome t buffer v).preventers ≡ 0) × ((outcome t buffer v).lowest ≡ 0)
unfolding outcome
preventers-none t buffer (Number n) z = (refl, refl)
preventers-none t buffer (Prevented n h) z = absurd (z refl)
preventers-none t buffer (Done s bytes cs) z = (refl, refl)

-- ---- the answer buffer: what is past the count, and its length

pub buffer-past : (t : Tables) (buffer : List ℕ) (v : Verdict) (j : ℕ) → (outcome t buffer v).count ≤ j → byte (outcome t buffer v).buffer j ≡ byte buffer j
unfolding outcome
buffer-past t buffer (Number n) j l = refl
buffer-past t buffer (Prevented n h) j l = refl
buffer-past t buffer (Done s bytes cs) j l = byte_put buffer 0 j bytes (λ k m. omega arith)

pub buffer-length : (t : Tables) (buffer : List ℕ) (v : Verdict) → length (outcome t buffer v).buffer ≡ length buffer
unfolding outcome
buffer-length t buffer (Number n) = refl
buffer-length t buffer (Prevented n h) = refl
buffer-length t buffer (Done s bytes cs) = put-length buffer 0 bytes

-- ---- refused by status: the changes are within the host's own bytes

abbrev pub Own : ℕ → Change → Type 0
Own h (OfHead c) = Local (OfHost h) (in_head c)
Own h (OfElements c) = ⊥
Own h (OfSearch c) = ⊥
Own h Recount = ⊥

abbrev pub AllOwn : ℕ → List Change → Type 0
AllOwn h [] = Unit {0}
AllOwn h (c ∷ cs) = Own h c × AllOwn h cs

-- byte j is none of host h's
abbrev pub OffHost : ℕ → ℕ → Type 0
OffHost h j = host_at h ≤ j → j < host_at (1 + h) → ⊥

pub record OwnAlone (h : ℕ) (t u : Tables) : Type 0 where
  pub elements-is : u.elements ≡ t.elements
  pub rest-is : u.rest ≡ t.rest
  pub head-length : length u.head ≡ length t.head
  pub head-else : (j : ℕ) → OffHost h j → byte u.head j ≡ byte t.head j

own_alone : (h : ℕ) (c : Change) (t : Tables) → Own h c → OwnAlone h t (change c t)
unfolding change
own_alone h (OfHead c) t l =
    record {
      elements-is = refl;
      rest-is = refl;
      head-length = leaves-length (OfHost h) (in_head c) l t.head;
      head-else = λ j d. leaves (OfHost h) (in_head c) l j (λ (a, b). d a b) t.head;
    }
own_alone h (OfElements c) t e = absurd e
own_alone h (OfSearch c) t e = absurd e
own_alone h Recount t e = absurd e

all-own-alone : (h : ℕ) (cs : List Change) (t : Tables) → AllOwn h cs → OwnAlone h t (changes cs t)
unfolding changes
all-own-alone h [] t e = record { elements-is = refl; rest-is = refl; head-length = refl; head-else = λ j d. refl }
all-own-alone h (c ∷ cs) t (e, es) =
    let a = own_alone h c t e in
    let b = all-own-alone h cs (change c t) es in
    record {
      elements-is = b.elements-is ∙ a.elements-is;
      rest-is = b.rest-is ∙ a.rest-is;
      head-length = b.head-length ∙ a.head-length;
      head-else = λ j d. b.head-else j d ∙ a.head-else j d;
    }

-- ---- which verdicts a command of host h ends with: Q says with which numbers it may be refused, `reads` whether it may return bytes

record Modest (reads : Bool) (h status : ℕ) (bytes : List ℕ) (cs : List Change) : Type 0 where
  three : status ≢ GOOD → status ≢ CHECK-CONDITION → status ≡ RESERVATION-CONFLICT
  own : status ≢ GOOD → AllOwn h cs
  none : status ≢ GOOD → bytes ≡ []
  silent : reads ≡ false → bytes ≡ []

abbrev Ends : (ℕ → Type 0) → Bool → ℕ → Verdict → Type 0
Ends Q reads h (Number n) = Q n
Ends Q reads h (Prevented n g) = Q 7
Ends Q reads h (Done status bytes cs) = Modest reads h status bytes cs

module _ (Q : ℕ → Type 0) (reads : Bool) (h : ℕ) where
  ends-when : (b : Bool) (x y : Verdict) → Ends Q reads h x → Ends Q reads h y → Ends Q reads h (when b x y)
  unfolding when
  ends-when true x y e f = e
  ends-when false x y e f = f

  ends-check : (k a q : ℕ) → Ends Q reads h (check h k a q)
  unfolding check
  ends-check k a q = record { three = λ _ n. absurd (n refl); own = λ _. (sense-local h _ _ _, tt); none = λ _. refl; silent = λ _. refl }

  ends-conflict : Ends Q reads h (conflict h)
  unfolding conflict
  ends-conflict = record { three = λ _ _. refl; own = λ _. (sense-local h _ _ _, tt); none = λ _. refl; silent = λ _. refl }

  ends-good : (cs : List Change) → Ends Q reads h (good h cs)
  unfolding good
  ends-good cs = record { three = λ n _. absurd (n refl); own = λ z. absurd (z refl); none = λ _. refl; silent = λ _. refl }

  ends-refusals : (t : Tables) → Refusals (Ends Q reads h) t h
  unfolding telling
  ends-refusals t =
      record {
        refuses = refused-by (Ends Q reads h) h (ends-check 5);
        conflicts = ends-conflict;
        tells = record { three = λ _ n. absurd (n refl); own = λ _. (sense-local h _ _ _, (attention-local h _ _, tt)); none = λ _. refl; silent = λ _. refl };
      }

module _ (Q : ℕ → Type 0) (reads : Bool) (t : Tables) (h : ℕ) (block : List ℕ) where
  ends-move : Ends Q reads h (move t h block)
  unfolding move
  ends-move = move-by (Ends Q reads h) t h (ends-refusals Q reads h t) _ _ _ (λ _. ends-good Q reads h _)

  ends-exchange : Ends Q reads h (exchange t h block)
  unfolding exchange
  ends-exchange = exchange-by (Ends Q reads h) t h (ends-refusals Q reads h t) _ _ _ _ (λ _. ends-good Q reads h _)

  ends-reserve : (list : List ℕ) → Ends Q reads h (reserve t h block list)
  ends-reserve list =
      reserve-by (Ends Q reads h) t h (ends-refusals Q reads h t) block list (λ _. ends-good Q reads h _) (ends-good Q reads h _)

  ends-release : Ends Q reads h (release t h block)
  ends-release = release-by (Ends Q reads h) t h block (ends-good Q reads h _) (ends-good Q reads h _)

  ends-tag : (list : List ℕ) → Ends Q reads h (send_tag t h block list)
  ends-tag list = tag-by (Ends Q reads h) t h (ends-refusals Q reads h t) block list (λ _. ends-good Q reads h _)

  ends-prevent : Ends Q reads h (prevent t h block)
  unfolding prevent
  ends-prevent = ends-good Q reads h _

-- those that return bytes
module _ (Q : ℕ → Type 0) (t : Tables) (h : ℕ) (block : List ℕ) where
  ends-bytes : (bytes : List ℕ) (cs : List Change) → Ends Q true h (Done GOOD bytes cs)
  ends-bytes bytes cs = record { three = λ n _. absurd (n refl); own = λ z. absurd (z refl); none = λ z. absurd (z refl); silent = λ e. cc }

  ends-sense : Ends Q true h (request_sense t h block)
  unfolding request_sense
  ends-sense = ends-when Q true h _ _ _ (ends-bytes _ _) (ends-bytes _ _)

  ends-listing : Ends Q true h (read_status t h block)
  unfolding read_status
  ends-listing = ends-bytes _ _

  ends_found : Ends Q true h (request_address t h block)
  unfolding request_address
  ends_found = ends-bytes _ _

  ends-mode : Ends Q true h (mode_sense t h block)
  unfolding mode_sense
  ends-mode = ends-bytes _ _

-- "Only REQUEST SENSE and READ ELEMENT STATUS with GOOD return bytes", and MODE SENSE and REQUEST VOLUME ELEMENT ADDRESS since they are known
abbrev pub reads : Operation → Bool
reads TestUnitReady = false
reads RequestSense = true
reads Reserve = false
reads Release = false
reads PreventAllow = false
reads MoveMedium = false
reads ExchangeMedium = false
reads ReadElementStatus = true
reads ModeSense = true
reads SendVolumeTag = false
reads RequestVolumeElementAddress = true
reads Unknown = false

abbrev pub reading : List ℕ → Bool
reading block = reads (operation block)

module _ (Q : ℕ → Type 0) where
  ends-act : (op : Operation) (t : Tables) (h : ℕ) (block list : List ℕ) → Ends Q (reads op) h (act op t h block list)
  unfolding act
  ends-act TestUnitReady t h block list = ends-good Q false h []
  ends-act RequestSense t h block list = ends-sense Q t h block
  ends-act Reserve t h block list = ends-reserve Q false t h block list
  ends-act Release t h block list = ends-release Q false t h block
  ends-act PreventAllow t h block list = ends-prevent Q false t h block
  ends-act MoveMedium t h block list = ends-move Q false t h block
  ends-act ExchangeMedium t h block list = ends-exchange Q false t h block
  ends-act ReadElementStatus t h block list = ends-listing Q t h block
  ends-act ModeSense t h block list = ends-mode Q t h block
  ends-act SendVolumeTag t h block list = ends-tag Q false t h block list
  ends-act RequestVolumeElementAddress t h block list = ends_found Q t h block
  ends-act Unknown t h block list = (ends-refusals Q false h t).refuses InvalidOperation

  ends-steps : (t : Tables) (h : ℕ) (block list : List ℕ) → Ends Q (reading block) h (steps t h block list)
  unfolding steps
  ends-steps t h block list =
      steps-by (Ends Q (reading block) h) t h (ends-refusals Q (reading block) h t) (operation block) block list
      (λ _. ends-act (operation block) t h block list)

  ends-fits : (reads : Bool) (h : ℕ) (buffer : List ℕ) (v : Verdict) → Q 5 → Ends Q reads h v → Ends Q reads h (fits buffer v)
  unfolding fits
  ends-fits reads h buffer (Number n) q e = e
  ends-fits reads h buffer (Prevented n g) q e = e
  ends-fits reads h buffer (Done s bytes cs) q e = ends-when Q reads h _ _ _ e q

  command-ends : (t : Tables) (r : Request) → (sound t ≡ false → Q 1) → Q 2 → Q 3 → Q 4 → Q 5
      → Ends Q (reading r.block) r.host (verdict t (Command r))
  unfolding verdict judge judged after_numbers
  command-ends t r q₁ q₂ q₃ q₄ q₅ =
      let b = reading r.block in
      let h = r.host in
      on (Ends Q b h) (sound t)
      (λ _.
      ends-when Q b h _ _ _
      (ends-when Q b h _ _ _ (ends-when Q b h _ _ _ (ends-fits b h r.buffer _ q₅ (ends-steps t h r.block r.parameters)) q₄) q₃) q₂)
      q₁

-- ---- events end with GOOD and no bytes

abbrev Silent : (ℕ → Type 0) → Verdict → Type 0
Silent Q (Number n) = Q n
Silent Q (Prevented n h) = Q 7
Silent Q (Done status bytes cs) = (status ≡ GOOD) × (bytes ≡ [])

-- the calls that are no commands
abbrev pub Event : Call → Type 0
Event (Command r) = ⊥
Event (Import a v) = Unit {0}
Event (Export a) = Unit {0}
Event Reset = Unit {0}

module _ (Q : ℕ → Type 0) where
  silent-when : (b : Bool) (x y : Verdict) → Silent Q x → Silent Q y → Silent Q (when b x y)
  unfolding when
  silent-when true x y e f = e
  silent-when false x y e f = f

  silent-done : (cs : List Change) → Silent Q (done cs)
  unfolding done
  silent-done cs = (refl, refl)

  silent-port : (t : Tables) (a : ℕ) (v : Verdict) → (sound t ≡ false → Q 1) → Q 6 → Q 7 → Silent Q v → Silent Q (at_port t a v)
  unfolding at_port
  silent-port t a v q₁ q₆ q₇ e = on (Silent Q) (sound t) (λ _. silent-when _ _ _ q₆ (silent-when _ _ _ q₇ e)) q₁

  event-silent : (t : Tables) (c : Call) → Event c → (sound t ≡ false → Q 1) → Q 6 → Q 7 → Q 8 → Q 9 → Silent Q (verdict t c)
  unfolding verdict importing exporting resetting
  event-silent t (Command r) e q₁ q₆ q₇ q₈ q₉ = absurd e
  event-silent t (Import a v) e q₁ q₆ q₇ q₈ q₉ = silent-port t a _ q₁ q₆ q₇ (silent-when _ _ _ q₈ (silent-when _ _ _ q₉ (silent-done _)))
  event-silent t (Export a) e q₁ q₆ q₇ q₈ q₉ = silent-port t a _ q₁ q₆ q₇ (silent-when _ _ _ q₈ (silent-done _))
  event-silent t Reset e q₁ q₆ q₇ q₈ q₉ = on (Silent Q) (sound t) (λ _. silent-done _) q₁

  silent-outcome : (t : Tables) (buffer : List ℕ) (v : Verdict) → Silent Q v → ((outcome t buffer v).status ≡ 0) × ((outcome t buffer v).count ≡ 0)
  unfolding outcome
  silent-outcome t buffer (Number n) e = (refl, refl)
  silent-outcome t buffer (Prevented n h) e = (refl, refl)
  silent-outcome t buffer (Done s bytes cs) (e, f) = (e, ap length f)

-- whatever the number
Any : ℕ → Type 0
Any n = Unit {0}

-- "status and count are then 0, as they are for events"
pub event-quiet : (t : Tables) (c : Call) → Event c → ((serve t c).status ≡ 0) × ((serve t c).count ≡ 0)
unfolding serve Any
event-quiet t c e = silent-outcome Any t (buffer_of c) (verdict t c) (event-silent Any t c e (λ _. tt) tt tt tt tt)

-- ---- refused by status

pub record OwnHost (h : ℕ) (t : Tables) (buffer : List ℕ) (o : Outcome) : Type 0 where
  pub elements-is : o.tables.elements ≡ t.elements
  pub rest-is : o.tables.rest ≡ t.rest
  pub head-length : length o.tables.head ≡ length t.head
  pub head-else : (j : ℕ) → OffHost h j → byte o.tables.head j ≡ byte t.head j
  pub count-is : o.count ≡ 0
  pub buffer-is : o.buffer ≡ buffer

command-any : (t : Tables) (r : Request) → Ends Any (reading r.block) r.host (verdict t (Command r))
unfolding Any
command-any t r = command-ends Any t r (λ _. tt) tt tt tt tt

status-outcome : (reads : Bool) (h : ℕ) (t : Tables) (buffer : List ℕ) (v : Verdict) → Ends Any reads h v → (outcome t buffer v).status ≢ GOOD
    → OwnHost h t buffer (outcome t buffer v)
unfolding outcome
status-outcome reads h t buffer (Number n) e z = absurd (z refl)
status-outcome reads h t buffer (Prevented n g) e z = absurd (z refl)
status-outcome reads h t buffer (Done s bytes cs) e z =
    let a = all-own-alone h cs t (e.own z) in
    let none = e.none z in
    record {
      elements-is = a.elements-is;
      rest-is = a.rest-is;
      head-length = a.head-length;
      head-else = a.head-else;
      count-is = ap length none;
      buffer-is = unfold put in rw none;
    }

pub status-own : (t : Tables) (r : Request) → (serve t (Command r)).status ≢ GOOD → OwnHost r.host t r.buffer (serve t (Command r))
unfolding serve buffer_of
status-own t r z = status-outcome (reading r.block) r.host t r.buffer _ (command-any t r) z

-- ---- there are three statuses

three-outcome : (reads : Bool) (h : ℕ) (t : Tables) (buffer : List ℕ) (v : Verdict) → Ends Any reads h v → (outcome t buffer v).status ≢ GOOD
    → (outcome t buffer v).status ≢ CHECK-CONDITION → (outcome t buffer v).status ≡ RESERVATION-CONFLICT
unfolding outcome
three-outcome reads h t buffer (Number n) e z = absurd (z refl)
three-outcome reads h t buffer (Prevented n g) e z = absurd (z refl)
three-outcome reads h t buffer (Done s bytes cs) e z = e.three z

pub status-three : (t : Tables) (r : Request) → (serve t (Command r)).status ≢ GOOD → (serve t (Command r)).status ≢ CHECK-CONDITION
    → (serve t (Command r)).status ≡ RESERVATION-CONFLICT
unfolding serve buffer_of
status-three t r = three-outcome (reading r.block) r.host t r.buffer _ (command-any t r)

-- ---- bytes are returned with GOOD, by the four commands that read

count-outcome : (reads : Bool) (h : ℕ) (t : Tables) (buffer : List ℕ) (v : Verdict) → Ends Any reads h v → (outcome t buffer v).count ≢ 0
    → ((outcome t buffer v).status ≡ GOOD) × (reads ≡ true)
unfolding outcome
count-outcome reads h t buffer (Number n) e z = absurd (z refl)
count-outcome reads h t buffer (Prevented n g) e z = absurd (z refl)
count-outcome reads h t buffer (Done s bytes cs) e z = (either s GOOD (λ i. i) (λ n. absurd (z (ap length (e.none n)))), go reads e.silent)
  where
    go : (b : Bool) → (b ≡ false → bytes ≡ []) → b ≡ true
    go true f = refl
    go false f = absurd (z (ap length (f refl)))

pub count-reads : (t : Tables) (r : Request) → (serve t (Command r)).count ≢ 0 → ((serve t (Command r)).status ≡ GOOD) × (reading r.block ≡ true)
unfolding serve buffer_of
count-reads t r z = count-outcome (reading r.block) r.host t r.buffer _ (command-any t r) z

-- ---- the steps end with a status, never with a number, and return no bytes but with GOOD

abbrev pub Stepped : Verdict → Type 0
Stepped (Number n) = ⊥
Stepped (Prevented n h) = ⊥
Stepped (Done status bytes cs) = status ≢ GOOD → bytes ≡ []

stepped : (reads : Bool) (h : ℕ) (v : Verdict) → Ends (λ _. ⊥) reads h v → Stepped v
stepped reads h (Number n) e = e
stepped reads h (Prevented n g) e = e
stepped reads h (Done s bytes cs) e = e.none

pub steps-end : (t : Tables) (h : ℕ) (block list : List ℕ) → Stepped (steps t h block list)
steps-end t h block list = stepped (reading block) h (steps t h block list) (ends-steps (λ _. ⊥) t h block list)

-- ---- what is returned fits the buffer

abbrev Fitting : List ℕ → Verdict → Type 0
Fitting buffer (Number n) = Unit {0}
Fitting buffer (Prevented n h) = Unit {0}
Fitting buffer (Done status bytes cs) = length bytes ≤ length buffer

fits-fitting : (buffer : List ℕ) (v : Verdict) → Fitting buffer (fits buffer v)
unfolding fits
fits-fitting buffer (Number n) = tt
fits-fitting buffer (Prevented n h) = tt
fits-fitting buffer (Done s bytes cs) = on (Fitting buffer) (leb (length bytes) (length buffer)) (λ e. leb-true _ _ e) (λ _. tt)

command-fitting : (t : Tables) (r : Request) → Fitting r.buffer (verdict t (Command r))
unfolding verdict judge judged after_numbers
command-fitting t r =
    let F : Verdict → Type 0 = Fitting r.buffer in
    on F _ (λ _. on F _ (λ _. on F _ (λ _. on F _ (λ _. fits-fitting r.buffer _) (λ _. tt)) (λ _. tt)) (λ _. tt)) (λ _. tt)

fitting-outcome : (t : Tables) (buffer : List ℕ) (v : Verdict) → Fitting buffer v → (outcome t buffer v).count ≤ length buffer
unfolding outcome
fitting-outcome t buffer (Number n) e = omega arith
fitting-outcome t buffer (Prevented n h) e = omega arith
fitting-outcome t buffer (Done s bytes cs) e = e

pub count_fits : (t : Tables) (r : Request) → (serve t (Command r)).count ≤ length r.buffer
unfolding serve buffer_of
count_fits t r = fitting-outcome t r.buffer _ (command-fitting t r)

-- ---- house number 5 does not arise where no bytes are returned

fits-silent : (h : ℕ) (buffer : List ℕ) (v : Verdict) → Ends (λ _. Unit {0}) false h v → fits buffer v ≡ v
unfolding fits when
fits-silent h buffer (Number n) e = refl
fits-silent h buffer (Prevented n g) e = refl
fits-silent h buffer (Done s bytes cs) e = rw (e.silent refl) (rw (lib.Dec.leb-zero (length buffer)) refl)

module _ (t : Tables) (h : ℕ) (block buffer : List ℕ) where
  pub good-fits : (cs : List Change) → fits buffer (good h cs) ≡ good h cs
  good-fits cs = fits-silent h buffer _ (ends-good _ false h cs)

  pub move-fits : fits buffer (move t h block) ≡ move t h block
  move-fits = fits-silent h buffer _ (ends-move _ false t h block)

  pub exchange-fits : fits buffer (exchange t h block) ≡ exchange t h block
  exchange-fits = fits-silent h buffer _ (ends-exchange _ false t h block)

  pub reserve-fits : (list : List ℕ) → fits buffer (reserve t h block list) ≡ reserve t h block list
  reserve-fits list = fits-silent h buffer _ (ends-reserve _ false t h block list)

  pub release-fits : fits buffer (release t h block) ≡ release t h block
  release-fits = fits-silent h buffer _ (ends-release _ false t h block)

  pub prevent-fits : fits buffer (prevent t h block) ≡ prevent t h block
  prevent-fits = fits-silent h buffer _ (ends-prevent _ false t h block)

  pub tag_fits : (list : List ℕ) → fits buffer (send_tag t h block list) ≡ send_tag t h block list
  tag_fits list = fits-silent h buffer _ (ends-tag _ false t h block list)

  pub conflict-fits : fits buffer (conflict h) ≡ conflict h
  conflict-fits = fits-silent h buffer _ (ends-conflict _ false h)

  pub refused-fits : (c : Cause) → fits buffer (refused h c) ≡ refused h c
  refused-fits c = fits-silent h buffer _ ((ends-refusals _ false h t).refuses c)
