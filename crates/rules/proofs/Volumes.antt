-- "the volumes present equal those loaded plus imports less exports, read from the history"; and no number stands twice. Assumes nothing.
use Prim.Native.Nat.{ℕ, ◌+◌, ◌<◌, ◌≤◌}
use native.Mathlib.Omega.{arith}
use mathlib.Core.Path.{◌≡◌, refl, sym, ap, ◌∙◌}
use mathlib.Core.Logic.{◌≢◌}
use mathlib.Core.Bool.{Bool, true, false}
use mathlib.Core.List.{List, [], ◌∷◌}
use lib.Dec.{eqb}
use borrow.Author.Tests.{eqb-false, leb-false, ne_eqb}
use Rattle.rules.specs.Choice.{when, all_of, differ}
use Rattle.rules.specs.Tables.{Tables, places, Announce, Fill, Recount, in_elements, change, changes}
use Rattle.rules.specs.Roster.{Slot, roster, place_of}
use Rattle.rules.specs.Sound.{sound}
use Rattle.rules.specs.Order.{Verdict, Number, Prevented, Done, Outcome, outcome, after, good, volume_of}
use Rattle.rules.specs.Moves.{no_place, leave, shelf_of, carry}
use Rattle.rules.specs.Events.{at_port, done, importing, exporting, resetting}
use Rattle.rules.specs.Command.{Request, Call, Command, Import, Export, Reset, verdict, buffer_of, serve}
use Rattle.rules.specs.Histories.{next, History, begun, called, one, times, imported, exported, imports, exports}
use Rattle.rules.proofs.Ladder.{on, either, when_true, when_false, all_cons, all_nil, ne-differ, differ-false, never}
use Rattle.rules.proofs.Walks.{Moving, Exchanging}
use Rattle.rules.proofs.Stills.{still-length, still-alone, Numbered, Stilled, command-by, port-by, reset_by}
use Rattle.rules.proofs.Places.{place_in, place-apart}
use Rattle.rules.proofs.ElementFields.{volume-alone}
use Rattle.rules.proofs.Soundness.{Sound, sound-true, places_is}
use Rattle.rules.proofs.KeepMoves.{Stands, stands_of}
use Rattle.rules.proofs.Counts.{times-once, standing, total-same, left-count, put_count, moved-count, exchanged-count}
use Rattle.rules.proofs.Sequences.{leaves-next, next-sound}

-- ---- a verdict's changes bring `came` and take `went` of volume w

abbrev Balance : ℕ → Tables → ℕ → ℕ → Verdict → Type 0
Balance w t came went (Number n) = n ≢ 0
Balance w t came went (Prevented n h) = Unit {0}
Balance w t came went (Done status bytes cs) = standing w (changes cs t).elements + went ≡ standing w t.elements + came

module _ (w : ℕ) (t : Tables) where
  balance-numbered : (came went : ℕ) → Numbered (Balance w t came went)
  balance-numbered came went = record { by_number = λ n d. d; by-prevention = λ n h. tt }

  abbrev Even : Verdict → Type 0
  Even = Balance w t 0 0

  -- changes that fill no element keep every volume
  even-still : Stilled Even
  even-still status bytes cs a =
      let alone = still-alone cs t a in
      let e = total-same w t.elements _ (still-length cs t a) (λ q. volume-alone _ _ alone q) in omega arith

-- ---- MOVE and EXCHANGE

module _ (w : ℕ) (z : w ≢ 0) (t : Tables) (s : Sound t) (h : ℕ) where
  stands : (a : ℕ) → no_place t a ≡ false → Stands (roster t.head) a
  unfolding no_place
  stands a e = stands_of (roster t.head) a (leb-false _ _ e)

  -- the place of an address that stands lies in the table
  inside : (a : ℕ) → Stands (roster t.head) a → place_of (roster t.head) a < places t.elements
  inside a x = rw (places_is t s) x.inside

  even-move : (from to : ℕ) → Moving t from to → Even w t (good h (leave t from ∷ carry t from to ∷ Recount ∷ []))
  unfolding good leave carry volume_of changes change in_elements
  even-move from to x =
      let m = moved-count w z t.elements _ _ (shelf_of t from) (inside from (stands from x.from-stands)) (inside to (stands to x.to-stands))
      (differ-false _ _ x.to-empty) in
      omega arith

  even-exchange : (from first second : ℕ) → Exchanging t from first second
      → Even w t (good h (leave t from ∷ leave t first ∷ carry t first second ∷ carry t from first ∷ Recount ∷ []))
  unfolding good leave carry volume_of changes change in_elements
  even-exchange from first second e =
      let x = stands from e.from-stands in
      let y = stands first e.first-stands in
      let k = stands second e.second-stands in
      let n : first ≢ from = eqb-false _ _ e.apart in
      let v : volume_of t first ≢ 0 = eqb-false _ _ e.first-full in
      let d = e.second_empty in
      let apart : second ≢ first = λ i. v (rw i at (vacant d (λ j. n (sym i ∙ j)))) in
      let m = exchanged-count w z t.elements (place_of ss from) (place_of ss first) (place_of ss second) (shelf_of t first) (shelf_of t from)
      (inside from x) (inside first y) (inside second k)
      (place-apart ss first from n x.is_known) (place-apart ss second first apart y.is_known)
      (λ i. vacant d (λ j. i (ap (place_of ss) j))) in
      omega arith
    where
      ss : List Slot
      ss = roster t.head

      -- the second destination is empty, or it is the source
      vacant : all_of (differ (volume_of t second) 0 ∷ differ second from ∷ []) ≡ false → second ≢ from → volume_of t second ≡ 0
      vacant d n =
          either (volume_of t second) 0 (λ e. e)
          (λ v. absurd (never (sym d ∙ all_cons _ _ (ne-differ _ 0 v) (all_cons _ _ (ne-differ second from n) all_nil))))

even-command : (w : ℕ) → w ≢ 0 → (t : Tables) → Sound t → (r : Request) → Even w t (verdict t (Command r))
even-command w z t s r =
    command-by (Even w t) (balance-numbered w t 0 0) (even-still w t) t r
    (record { moves = even-move w z t s r.host; exchanges = even-exchange w z t s r.host })

-- ---- the events

module _ (w : ℕ) (z : w ≢ 0) (t : Tables) (s : Sound t) where
  balance-port : (came went a : ℕ) (v : Verdict) → (place_of (roster t.head) a < places t.elements → Balance w t came went v)
      → Balance w t came went (at_port t a v)
  balance-port came went a v f =
      port-by (Balance w t came went) (balance-numbered w t came went) t a v (λ k. f (rw (places_is t s) (place_in (roster t.head) a (omega arith))))

  balance-import : (a v : ℕ) → Balance w t (one v w) 0 (importing t a v)
  unfolding importing
  balance-import a v =
      balance-port (one v w) 0 a _
      (λ i. on (Balance w t (one v w) 0) _ (λ _. omega arith)
      (λ e. on (Balance w t (one v w) 0) _ (λ _. omega arith) (λ _. filled_in i (differ-false _ _ e))))
    where
      filled_in : place_of (roster t.head) a < places t.elements → volume_of t a ≡ 0
          → Balance w t (one v w) 0 (done (Fill (place_of (roster t.head) a) v 0 1 ∷ Announce 0x28 0x01 ∷ []))
      filled_in i e =
          unfold done volume_of changes change in_elements in
          let c = put_count w z t.elements _ v 0 1 i e in omega arith

  balance-export : (a : ℕ) → Balance w t 0 (one (volume_of t a) w) (exporting t a)
  unfolding exporting
  balance-export a =
      balance-port 0 (one (volume_of t a) w) a _ (λ i. on (Balance w t 0 (one (volume_of t a) w)) _ (λ _. omega arith) (λ _. emptied i))
    where
      emptied : place_of (roster t.head) a < places t.elements
          → Balance w t 0 (one (volume_of t a) w) (done (Fill (place_of (roster t.head) a) 0 0 0 ∷ Announce 0x28 0x01 ∷ []))
      emptied i =
          unfold done volume_of changes change in_elements in
          let c = left-count w z t.elements _ i in omega arith

  even-reset : Even w t (resetting t)
  even-reset = reset_by (Even w t) (balance-numbered w t 0 0) (even-still w t) t

-- ---- a call, and a history

module _ (w : ℕ) (t : Tables) (buffer : List ℕ) where
  -- with number 0 so many came and went, else none
  balanced : (came went : ℕ) (v : Verdict) → Balance w t came went v
      → standing w (after v t).elements + when (eqb (outcome t buffer v).number 0) went 0
      ≡ standing w t.elements + when (eqb (outcome t buffer v).number 0) came 0
  unfolding outcome after
  balanced came went (Number n) b =
      let x = when_false (eqb n 0) went 0 (ne_eqb n 0 b) in
      let y = when_false (eqb n 0) came 0 (ne_eqb n 0 b) in
      omega arith
  balanced came went (Prevented n h) b =
      let x = when_false (eqb 7 0) went 0 refl in
      let y = when_false (eqb 7 0) came 0 refl in
      omega arith
  balanced came went (Done status bytes cs) b =
      let x = when_true (eqb 0 0) went 0 refl in
      let y = when_true (eqb 0 0) came 0 refl in
      omega arith

nothing-either-way : (b : Bool) → ◌≡◌ {A = ℕ} (when b 0 0) 0
nothing-either-way b = on (λ (n : ℕ). n ≡ 0) b (λ _. refl) (λ _. refl)

next-volumes : (w : ℕ) → w ≢ 0 → (t : Tables) → Sound t → (c : Call)
    → standing w (next t c).elements + exported w t c (serve t c) ≡ standing w t.elements + imported w t c (serve t c)
unfolding next serve imported exported
next-volumes w z t s (Command r) =
    let v = verdict t (Command r) in
    omega (arith, balanced w t r.buffer 0 0 v (even-command w z t s r), nothing-either-way (eqb (outcome t r.buffer v).number 0))
next-volumes w z t s (Import a x) =
    let v = verdict t (Import a x) in
    let b : Balance w t (one x w) 0 v = unfold verdict in balance-import w z t s a x in
    omega (arith, balanced w t (buffer_of (Import a x)) (one x w) 0 v b, nothing-either-way (eqb (outcome t (buffer_of (Import a x)) v).number 0))
next-volumes w z t s (Export a) =
    let v = verdict t (Export a) in
    let b : Balance w t 0 (one (volume_of t a) w) v = unfold verdict in balance-export w z t s a in
    omega (arith, balanced w t (buffer_of (Export a)) 0 (one (volume_of t a) w) v b, nothing-either-way (eqb (outcome t (buffer_of (Export a)) v).number 0))
next-volumes w z t s Reset =
    let v = verdict t Reset in
    let b : Even w t v = unfold verdict in even-reset w z t s in
    omega (arith, balanced w t (buffer_of Reset) 0 0 v b, nothing-either-way (eqb (outcome t (buffer_of Reset) v).number 0))

-- with its outcome, as a history has it
call-volumes : (w : ℕ) → w ≢ 0 → (t : Tables) (c : Call) (o : Outcome) → o ≡ serve t c → sound t ≡ true
    → standing w o.tables.elements + exported w t c o ≡ standing w t.elements + imported w t c o
call-volumes w z t c o e s =
    let same : standing w (serve t c).tables.elements ≡ standing w (next t c).elements = ap (λ (u : Tables). standing w u.elements) (leaves-next t c) in
    rw e (omega (arith, same, next-volumes w z t (sound-true t s) c))

pub history-volumes : (w : ℕ) → w ≢ 0 → {t u : Tables} {cs : List Call} {os : List Outcome} (hs : History t cs os u) → sound t ≡ true
    → times w u.elements (places u.elements) + exports w hs ≡ times w t.elements (places t.elements) + imports w hs
unfolding imports exports
history-volumes w z begun s = refl
history-volumes w z (called {t = t} {c = c} {o = o} e hs) s =
    let a = call-volumes w z t c o e s in
    let b = history-volumes w z hs (next-sound t c o e s) in
    omega arith

-- "and, 0 aside, stands at most once"
pub volume-once : (w : ℕ) → w ≢ 0 → (t : Tables) → sound t ≡ true → times w t.elements (places t.elements) ≤ 1
volume-once w z t e =
    let s = sound-true t e in
    times-once w t.elements (places t.elements)
    (λ p q l k i j. s.elements-fit.distinct p q (rw (places_is t s) at l) k (λ x. z (sym i ∙ x)) (j ∙ sym i))
