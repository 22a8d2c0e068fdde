-- Each of the commands leaves sound tables sound. Assumes nothing.
use Prim.Native.Nat.{ℕ, zero, suc, ◌<◌, ◌≤◌}
use native.Mathlib.Omega.{arith}
use mathlib.Core.Path.{◌≡◌, refl, sym, ap}
use mathlib.Core.Logic.{◌≢◌}
use mathlib.Core.Bool.{true, false}
use mathlib.Core.List.{List, [], ◌∷◌}
use lib.ListN.{length}
use lib.Dec.{eqb}
use borrow.Author.Tests.{eqb-true, eqb-false, leb-false}
use Rattle.rules.specs.Choice.{when, any_from}
use Rattle.rules.specs.Bytes.{byte, word}
use Rattle.rules.specs.Tables.{Tables, lent, hosts, unit_at, places, volumes, unit, attention, attentionq, volume, holder, sensed, NewSense, Change, Recount, Sense, Attention, HoldUnit, Prevent, Hold, Free, Under, Every, Seek, GoOn, in_head, in_elements, in_search, change, changes}
use Rattle.rules.specs.Roster.{Slot, range, roster, place_of}
use Rattle.rules.specs.Sound.{within}
use Rattle.rules.specs.Operation.{Operation, TestUnitReady, RequestSense, Reserve, Release, PreventAllow, MoveMedium, ExchangeMedium, ReadElementStatus, ModeSense, SendVolumeTag, RequestVolumeElementAddress, Unknown, operation}
use Rattle.rules.specs.Order.{Verdict, Number, Prevented, Done, InvalidOperation, fits, good, check, conflict, other, volume_of, source_of}
use Rattle.rules.specs.Moves.{no_place, leave, shelf_of, carry, move, exchange}
use Rattle.rules.specs.Holds.{holds_from, granted, release_unit, release, prevent, descriptors}
use Rattle.rules.specs.Sense.{request_sense}
use Rattle.rules.specs.Listing.{read_status}
use Rattle.rules.specs.Search.{search_for, send_tag, request_address}
use Rattle.rules.specs.Mode.{mode_sense}
use Rattle.rules.specs.Form.{fault}
use Rattle.rules.specs.Command.{Request, act, steps, after_numbers, judged}
use Rattle.rules.proofs.Ladder.{on, either, any-nowhere, all_cons, all_nil, ne-differ}
use Rattle.rules.proofs.Walks.{Refusals, Passed, Moving, Exchanging, telling, refused-by, steps-shown-by, move-by, exchange-by, reserve-by, release-by, tag-by}
use Rattle.rules.proofs.Places.{roster-same}
use Rattle.rules.proofs.HeadFields.{sensed-else}
use Rattle.rules.proofs.Soundness.{SenseFits, ShelfOrNone, HoldFits, ElementsFit, DrivesFit, Sound, places_is, within_low, within-high}
use Rattle.rules.proofs.Keep.{head-change-fits, elements-fitting, recounted-sound, change-sound, Sounds}
use Rattle.rules.proofs.KeepSearch.{search-length, search-begun, search-gone-on}
use Rattle.rules.proofs.KeepMoves.{Stands, stands_of, moved-fits, exchanged-fits, moved-suits, exchanged-suits}

-- held by another: not by nobody, not by the host itself
pub other-of : (h o : ℕ) → o ≢ 0 → o ≢ h → other h o ≡ true
unfolding other
other-of h o n m = all_cons _ _ (ne-differ o 0 n) (all_cons _ _ (ne-differ o h m) all_nil)

pub other-false : (h o : ℕ) → other h o ≡ false → o ≢ 0 → o ≡ h
other-false h o e n =
    either o h (λ i. i) (λ m. let x = other-of h o n m in let y : ◌≡◌ {A = ℕ} 0 1 = cc in absurd (omega arith))

pub no-sense : SenseFits 0 0 0
no-sense = omega arith

some-sense : (k a q : ℕ) → 1 ≤ k → k ≤ 15 → SenseFits k a q
some-sense k a q l m = record { small = m; none-asc = λ z. absurd (omega arith); none-ascq = λ z. absurd (omega arith) }

-- ---- the commands of host h

module _ (t : Tables) (s : Sound t) (h : ℕ) (l : 1 ≤ h) (m : h ≤ hosts) where
  check_sound : (k a q : ℕ) → 1 ≤ k → k ≤ 15 → Sounds t (check h k a q)
  unfolding check changes
  check_sound k a q x y = change-sound (Sense h k a q) t (l, m, some-sense k a q x y) s

  cleared : Sound (change (Sense h 0 0 0) t)
  cleared = change-sound (Sense h 0 0 0) t (l, m, no-sense) s

  refusals-sound : Refusals (Sounds t) t h
  unfolding conflict telling changes
  refusals-sound =
      record {
        refuses = refused-by (Sounds t) h (λ a q. check_sound 5 a q (omega arith) (omega arith));
        conflicts = cleared;
        tells =
            change-sound (Attention h 0 0) _ (l, m, omega arith)
            (change-sound (Sense h 6 (attention t.head h) (attentionq t.head h)) t (l, m, some-sense 6 _ _ (omega arith) (omega arith)) s);
      }

  -- ---- TEST UNIT READY, REQUEST SENSE, READ ELEMENT STATUS, PREVENT ALLOW

  ready-sound : Sounds t (good h [])
  unfolding good changes
  ready-sound = cleared

  request_sense-sound : (block : List ℕ) → Sounds t (request_sense t h block)
  unfolding request_sense changes
  request_sense-sound block = on (Sounds t) _ (λ _. change-sound (Attention h 0 0) t (l, m, omega arith) s) (λ _. cleared)

  read_status-sound : (block : List ℕ) → Sounds t (read_status t h block)
  unfolding read_status changes
  read_status-sound block = cleared

  mode_sense-sound : (block : List ℕ) → Sounds t (mode_sense t h block)
  unfolding mode_sense changes
  mode_sense-sound block = cleared

  prevent-sound : (block : List ℕ) → Sounds t (prevent t h block)
  unfolding prevent good changes
  prevent-sound block = change-sound (Prevent _) _ tt cleared

  -- ---- SEND VOLUME TAG and REQUEST VOLUME ELEMENT ADDRESS: the search changes

  send_tag-sound : (block list : List ℕ) → eqb (fault SendVolumeTag t.head block list) 0 ≡ true → Sounds t (send_tag t h block list)
  send_tag-sound block list f =
      tag-by (Sounds t) t h refusals-sound block list
      (λ e. unfold good changes in change-sound (Seek (search_for block list)) _ (unfold change in_search in search-begun t.rest.search block list (search-length _ s.rest-fits.search-fits) e t.head f) cleared)

  request_address-sound : (block : List ℕ) → Sounds t (request_address t h block)
  unfolding request_address changes
  request_address-sound block = change-sound (GoOn _) _ (unfold change in_search in search-gone-on t s block) cleared

  -- ---- MOVE and EXCHANGE: the elements change, the host's sense is cleared, and the empty shelves are counted again

  stood : (es : List ℕ) → ElementsFit (roster t.head) (unit t.head) (volumes t.rest.tags) es
      → DrivesFit (lent t.head es t.rest) (range t.head 3) → Sound (change Recount (lent (sensed t.head h 0 0 0) es t.rest))
  unfolding in_head
  stood es f d =
      recounted-sound _ (head-change-fits (NewSense h 0 0 0) (lent t.head es t.rest) (l, m, no-sense) (elements-fitting t es s f d))

  stands : (a : ℕ) → no_place t a ≡ false → Stands (roster t.head) a
  unfolding no_place
  stands a e = stands_of (roster t.head) a (leb-false _ _ e)

  full : (a : ℕ) → eqb (volume_of t a) 0 ≡ false → volume t.elements (place_of (roster t.head) a) ≢ 0
  unfolding volume_of
  full a e = eqb-false _ _ e

  -- the source that is carried: the shelf left, or the source that stood there
  carried : (a : ℕ) → no_place t a ≡ false → ShelfOrNone (roster t.head) (shelf_of t a)
  unfolding shelf_of source_of
  carried a e =
      on (ShelfOrNone (roster t.head)) _ (λ k _. eqb-true _ _ k) (λ _. (s.elements-fit.stocks _ (stands a e).inside).source-shelf)

  move-sound : (block : List ℕ) → Sounds t (move t h block)
  unfolding move
  move-sound block = move-by (Sounds t) t h refusals-sound _ _ _ moved
    where
      from : ℕ
      from = word block 4

      to : ℕ
      to = word block 6

      moved : Moving t from to → Sounds t (good h (leave t from ∷ carry t from to ∷ Recount ∷ []))
      moved x =
          unfold good leave carry volume_of changes change in_head in_elements in
          stood _
          (moved-fits _ _ _ t.elements from to _ s.elements-fit (stands from x.from-stands) (stands to x.to-stands)
          (carried from x.from-stands) (full from x.from-full))
          (moved-suits t s from to _ _ (stands from x.from-stands) (stands to x.to-stands) (unfold volume_of in x.to-fit))

  exchange-sound : (block : List ℕ) → Sounds t (exchange t h block)
  unfolding exchange
  exchange-sound block = exchange-by (Sounds t) t h refusals-sound _ _ _ _ exchanged
    where
      from : ℕ
      from = word block 4

      first : ℕ
      first = word block 6

      second : ℕ
      second = word block 8

      exchanged : Exchanging t from first second → Sounds t (good h (leave t from ∷ leave t first ∷ carry t first second ∷ carry t from first ∷ Recount ∷ []))
      exchanged x =
          unfold good leave carry volume_of changes change in_head in_elements in
          stood _
          (exchanged-fits _ _ _ t.elements from first second _ _ s.elements-fit (stands from x.from-stands) (stands first x.first-stands)
          (stands second x.second-stands) (carried first x.first-stands) (carried from x.from-stands) (full from x.from-full) (full first x.first-full) (eqb-false _ _ x.apart))
          (exchanged-suits t s from first second _ _ _ _ (stands from x.from-stands) (stands first x.first-stands) (stands second x.second-stands)
          (unfold volume_of in x.first-fit) (unfold volume_of in x.second-fit))

  -- ---- RESERVE and RELEASE

  unit-cleared : unit (change (Sense h 0 0 0) t).head ≡ unit t.head
  unfolding unit change in_head
  unit-cleared = sensed-else t.head h 0 0 0 unit_at (λ n i. omega arith)

  roster-cleared : roster (change (Sense h 0 0 0) t).head ≡ roster t.head
  unfolding change in_head
  roster-cleared = roster-same t.head _ (λ j i. sensed-else t.head h 0 0 0 j (λ n x. omega arith))

  own-fits : other h (unit t.head) ≡ false → (i : ℕ) → HoldFits (unit t.head) h i
  own-fits e i = record { small = m; none-id = λ z. absurd (omega arith); unit-own = λ n _. sym (other-false h (unit t.head) e n) }

-- the n descriptors from k on are held
holds-sound : (ss : List Slot) (h i : ℕ) (list : List ℕ) (n k : ℕ) (t : Tables) → Sound t → HoldFits (unit t.head) h i
    → Sound (changes (holds_from ss h i list n k) t)
unfolding holds_from changes change in_head
holds-sound ss h i list zero k t s f = s
holds-sound ss h i list (suc n) k t s f = holds-sound ss h i list n (suc k) _ (change-sound (Hold _ _ h i) t f s) f

module _ (t : Tables) (s : Sound t) (h : ℕ) (l : 1 ≤ h) (m : h ≤ hosts) where
  -- no other host holds an element: this host may hold the unit
  unit-sound : any_from (λ p. other h (holder t.elements p)) (places t.elements) 0 ≡ false → Sounds t (good h (HoldUnit h ∷ []))
  unfolding good changes
  unit-sound e = change-sound (HoldUnit h) _ (m, own) (cleared t s h l m)
    where
      held : (p : ℕ) → p < length (roster t.head) → holder t.elements p ≢ 0 → holder t.elements p ≡ h
      held p i n =
          other-false h _ (any-nowhere (λ p. other h (holder t.elements p)) (places t.elements) 0 e p (omega arith) (omega (arith, places_is t s))) n

      own : (p : ℕ) → p < length (roster (change (Sense h 0 0 0) t).head) → h ≢ 0 → holder (change (Sense h 0 0 0) t).elements p ≢ 0
          → holder (change (Sense h 0 0 0) t).elements p ≡ h
      own p i _ n = unfold change in_elements in held p (omega (arith, ap length (roster-cleared t s h l m))) n

  granted-sound : (i : ℕ) (list : List ℕ) → other h (unit t.head) ≡ false → Sounds t (good h (granted (roster t.head) h i list))
  unfolding good granted changes
  granted-sound i list e =
      holds-sound (roster t.head) h i list (descriptors list) 0 _ (change-sound (Free (Under h i)) _ tt (cleared t s h l m)) fit
    where
      fit : HoldFits (unit (change (Free (Under h i)) (change (Sense h 0 0 0) t)).head) h i
      fit = unfold change in_head in rw (unit-cleared t s h l m) (own-fits t s h l m e i)

  release-sound : (block : List ℕ) → Sounds t (release t h block)
  unfolding good release_unit
  release-sound block =
      release-by (Sounds t) t h block unit-freed (unfold changes in change-sound (Free (Under h (byte block 2))) _ tt (cleared t s h l m))
    where
      unit-freed : Sounds t (Done 0 [] (Sense h 0 0 0 ∷ when (eqb (unit t.head) h) (HoldUnit 0 ∷ Free (Every h) ∷ []) (Free (Every h) ∷ [])))
      unit-freed =
          unfold changes in
          on (λ (cs : List Change). Sound (changes cs (change (Sense h 0 0 0) t))) _
          (λ _. change-sound (Free (Every h)) _ tt (change-sound (HoldUnit 0) _ (omega arith, λ p i n. absurd (n refl)) (cleared t s h l m)))
          (λ _. change-sound (Free (Every h)) _ tt (cleared t s h l m))

  act-sound : (op : Operation) (block list : List ℕ) → Passed op t h → eqb (fault op t.head block list) 0 ≡ true → Sounds t (act op t h block list)
  unfolding act
  act-sound TestUnitReady block list e f = ready-sound t s h l m
  act-sound RequestSense block list e f = request_sense-sound t s h l m block
  act-sound Reserve block list e f =
      reserve-by (Sounds t) t h (refusals-sound t s h l m) block list unit-sound (granted-sound (byte block 2) list e)
  act-sound Release block list e f = release-sound block
  act-sound PreventAllow block list e f = prevent-sound t s h l m block
  act-sound MoveMedium block list e f = move-sound t s h l m block
  act-sound ExchangeMedium block list e f = exchange-sound t s h l m block
  act-sound ReadElementStatus block list e f = read_status-sound t s h l m block
  act-sound ModeSense block list e f = mode_sense-sound t s h l m block
  act-sound SendVolumeTag block list e f = send_tag-sound t s h l m block list f
  act-sound RequestVolumeElementAddress block list e f = request_address-sound t s h l m block
  act-sound Unknown block list e f = (refusals-sound t s h l m).refuses InvalidOperation

  steps-sound : (block parameters : List ℕ) → Sounds t (steps t h block parameters)
  unfolding steps
  steps-sound block parameters =
      steps-shown-by (Sounds t) t h (refusals-sound t s h l m) (operation block) block parameters (act-sound (operation block) block parameters)

fits-sound : (t : Tables) (buffer : List ℕ) (v : Verdict) → Sounds t v → Sounds t (fits buffer v)
unfolding fits
fits-sound t buffer (Number n) x = tt
fits-sound t buffer (Prevented n h) x = tt
fits-sound t buffer (Done status bytes cs) x = on (Sounds t) _ (λ _. x) (λ _. tt)

pub judged-sound : (t : Tables) (r : Request) → Sound t → Sounds t (judged t r)
unfolding judged after_numbers
judged-sound t r s =
    on (Sounds t) (within 1 hosts r.host)
    (λ e. on (Sounds t) _
    (λ _. on (Sounds t) _
    (λ _. fits-sound t r.buffer _ (steps-sound t s r.host (within_low 1 hosts _ e) (within-high 1 hosts _ e) r.block r.parameters)) (λ _. tt))
    (λ _. tt))
    (λ _. tt)
