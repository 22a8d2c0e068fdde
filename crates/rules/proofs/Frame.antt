-- The changes of a command of demand 3 are its host's and its addresses', and the panel's number at their end: they leave what another host's
-- command reads, and change places with another's. Assumes nothing.
use Prim.Native.Nat.{ℕ, ◌+◌, ◌<◌, ◌≤◌}
use native.Mathlib.Omega.{arith}
use mathlib.Core.Path.{◌≡◌, refl, sym, ap, ◌∙◌}
use mathlib.Core.Logic.{◌≢◌}
use mathlib.Core.Bool.{true, false}
use mathlib.Core.List.Memᴰ
use mathlib.Core.List.{List, [], ◌∷◌, ◌++◌, Memᴰ}
use borrow.Author.Tests.{leb-false}
use Rattle.rules.specs.Bytes.{byte}
use Rattle.rules.specs.Tables.{Tables, lent, hosts, unit_at, element_at, element_size, unit, holder, Change, OfHead, OfElements, OfSearch, Recount, NewStock, Fill, Sense, Attention, in_head, in_elements, change, changes}
use Rattle.rules.specs.Roster.{Slot, roster, place_of, kind_of, transport}
use Rattle.rules.specs.Sound.{within}
use Rattle.rules.specs.Order.{Verdict, Number, Prevented, Done, after, fits, good, check, conflict, other, held_by_other}
use Rattle.rules.specs.Moves.{open_transport, no_place, leave, carry, move_of, move, exchange_of, exchange}
use Rattle.rules.specs.Sense.{request_sense}
use Rattle.rules.specs.Operation.{Operation, TestUnitReady, RequestSense, Reserve, Release, PreventAllow, MoveMedium, ExchangeMedium, ReadElementStatus, ModeSense, SendVolumeTag, RequestVolumeElementAddress, Unknown, operation}
use Rattle.rules.specs.Command.{Request, act, steps, block_fits, after_numbers, judged}
use Rattle.rules.specs.Histories.{named, named_by, mixes, joins, Disjoint}
use Rattle.rules.proofs.Ladder.{on, when_true, never}
use Rattle.rules.proofs.Walks.{Refusals, telling, refused-by, steps-by, move-by, exchange-by}
use Rattle.rules.proofs.Local.{Local, OfHost, OfStock, leaves, local-comm, local-more, sense-local, attention-local, stock-local}
use Rattle.rules.proofs.Places.{range_same, place-apart, roster-same}
use Rattle.rules.proofs.Soundness.{within_low, within-high}
use Rattle.rules.proofs.Untouched.{AllOwn}
use Rattle.rules.proofs.Panel.{shown-else}
use Rattle.rules.proofs.Recounts.{recount-twice, recount-elements, recount-past}
use Rattle.rules.proofs.Same.{Same, here, there}

-- ---- what is a command's own: its host's bytes of the head, and what stands in the elements of the addresses N

abbrev pub OfAddresses : List Slot → List ℕ → ℕ → Type 0
OfAddresses ss N j = (a : ℕ) × Memᴰ a N × (kind_of ss a ≢ 0) × OfStock (place_of ss a) j

abbrev pub Mine : List Slot → ℕ → List ℕ → Change → Type 0
Mine ss h N (OfHead c) = Local (OfHost h) (in_head c)
Mine ss h N (OfElements c) = Local (OfAddresses ss N) (in_elements c)
Mine ss h N (OfSearch c) = ⊥
Mine ss h N Recount = ⊥

abbrev pub AllMine : List Slot → ℕ → List ℕ → List Change → Type 0
AllMine ss h N [] = Unit {0}
AllMine ss h N (c ∷ cs) = Mine ss h N c × AllMine ss h N cs

-- the host's bytes of the head alone, as AllOwn has them
own-mine : (ss : List Slot) (h : ℕ) (N : List ℕ) (cs : List Change) → AllOwn h cs → AllMine ss h N cs
own-mine ss h N [] m = tt
own-mine ss h N (OfHead c ∷ cs) (m, ms) = (m, own-mine ss h N cs ms)
own-mine ss h N (OfElements c ∷ cs) (m, ms) = absurd m
own-mine ss h N (OfSearch c ∷ cs) (m, ms) = absurd m
own-mine ss h N (Recount ∷ cs) (m, ms) = absurd m

-- the changes that a command carries out: of the host's bytes alone, or of all that is its own and then the panel's number
pub data Carried (ss : List Slot) (h : ℕ) (N : List ℕ) : List Change → Type 0 where
  alone : {cs : List Change} → AllOwn h cs → Carried ss h N cs
  counted : (cs : List Change) → AllMine ss h N cs → Carried ss h N (cs ++ (Recount ∷ []))

abbrev pub Keeps : List Slot → ℕ → List ℕ → Verdict → Type 0
Keeps ss h N (Number n) = Unit {0}
Keeps ss h N (Prevented n g) = Unit {0}
Keeps ss h N (Done status bytes cs) = (1 ≤ h) × (h ≤ hosts) × Carried ss h N cs

-- the count behind the others
changes-last : (cs : List Change) (t : Tables) → changes (cs ++ (Recount ∷ [])) t ≡ change Recount (changes cs t)
unfolding changes
changes-last [] t = refl
changes-last (c ∷ cs) t = changes-last cs (change c t)

-- ---- a change of another host's leaves what this one reads

-- a write in the head behind the unit holder, clear of host h's bytes
head-same : (h : ℕ) (T N : List ℕ) (t : Tables) (head' : List ℕ)
    → ((j : ℕ) → j ≤ unit_at → byte head' j ≡ byte t.head j)
    → (h ≤ hosts → (j : ℕ) → OfHost h j → byte head' j ≡ byte t.head j)
    → Same h T N t (lent head' t.elements t.rest)
unfolding unit held_by_other
head-same h T N t head' front own =
    let r : roster head' ≡ roster t.head = roster-same t.head head' (λ j l. front j (omega arith)) in
    record {
      roster-is = sym r;
      drives-are = sym (range_same t.head head' (λ j l. front j (omega arith)) 3 (omega arith));
      rest-is = refl;
      unit-is = ap (other h) (sym (front unit_at (omega arith)));
      own_is = λ k j i. sym (own k j i);
      open_is = rw r refl;
      held-is = λ a m. rw r;
      record_is = λ a m j l. rw r;
    }

-- "since its commands change no reservation": where every holder is as it was, the same transport is open
open-same : (h : ℕ) (es fs : List ℕ) → ((p : ℕ) → byte fs (element_at p + 4) ≡ byte es (element_at p + 4)) → (ss : List Slot) (a : ℕ)
    → open_transport h es ss a ≡ open_transport h fs ss a
unfolding open_transport holder
open-same h es fs same [] a = refl
open-same h es fs same (s ∷ ss) a = cc (open-same h es fs same ss a, same s.place)

-- a write of the elements that leaves every holder, and the records of the addresses N
elements_same : (h : ℕ) (T N : List ℕ) (t : Tables) (es : List ℕ)
    → ((p : ℕ) → byte es (element_at p + 4) ≡ byte t.elements (element_at p + 4))
    → ((a : ℕ) → Memᴰ a N → (j : ℕ) → j < element_size
    → byte es (element_at (place_of (roster t.head) a) + j) ≡ byte t.elements (element_at (place_of (roster t.head) a) + j))
    → Same h T N t (lent t.head es t.rest)
unfolding held_by_other holder
elements_same h T N t es holders records =
    record {
      roster-is = refl;
      drives-are = refl;
      rest-is = refl;
      unit-is = refl;
      own_is = λ k j i. refl;
      open_is = open-same h t.elements es holders (roster t.head) _;
      held-is = λ a x. ap (other h) (sym (holders _));
      record_is = λ a x j l. sym (records a x j l);
    }

change-same : (ss : List Slot) (h g : ℕ) (T N M : List ℕ) → h ≢ g → Disjoint N M → 1 ≤ g → (c : Change) (t : Tables) → roster t.head ≡ ss
    → Mine ss g M c → Same h T N t (change c t)
unfolding change
change-same ss h g T N M n d o (OfHead c) t e l =
    head-same h T N t _
    (λ j i. leaves (OfHost g) (in_head c) l j (λ x. omega arith) t.head)
    (λ k j i. leaves (OfHost g) (in_head c) l j (λ x. omega arith) t.head)
change-same ss h g T N M n d o (OfElements c) t e l =
    elements_same h T N t _
    (λ p. leaves (OfAddresses ss M) (in_elements c) l _ (λ (b, y, k, x). omega arith) t.elements)
    (λ a m j i. leaves (OfAddresses ss M) (in_elements c) l _
    (λ (b, y, k, x).
    let w : place_of ss a ≢ place_of ss b = place-apart ss a b (λ q. d a m (Memᴰ.cast q y)) k in
    let r : place_of (roster t.head) a ≡ place_of ss a = ap (λ (zs : List Slot). place_of zs a) e in
    omega arith)
    t.elements)
change-same ss h g T N M n d o (OfSearch c) t e l = absurd l
change-same ss h g T N M n d o Recount t e l = absurd l

-- the panel's bytes are no host's
recount-same : (h : ℕ) (T N : List ℕ) (t : Tables) → Same h T N t (change Recount t)
unfolding change
recount-same h T N t = head-same h T N t _ (λ j i. shown-else t.head _ j (λ m x. omega arith)) (λ k j i. shown-else t.head _ j (λ m x. omega arith))

pub same_refl : (h : ℕ) (T N : List ℕ) (t : Tables) → Same h T N t t
same_refl h T N t =
    record {
      roster-is = refl;
      drives-are = refl;
      rest-is = refl;
      unit-is = refl;
      own_is = λ k j i. refl;
      open_is = refl;
      held-is = λ a m. refl;
      record_is = λ a m j l. refl;
    }

pub same-trans : {h : ℕ} {T N : List ℕ} {t u w : Tables} → Same h T N t u → Same h T N u w → Same h T N t w
same-trans a b =
    record {
      roster-is = a.roster-is ∙ b.roster-is;
      drives-are = a.drives-are ∙ b.drives-are;
      rest-is = a.rest-is ∙ b.rest-is;
      unit-is = a.unit-is ∙ b.unit-is;
      own_is = λ k j i. a.own_is k j i ∙ b.own_is k j i;
      open_is = a.open_is ∙ b.open_is;
      held-is = λ x m. a.held-is x m ∙ b.held-is x m;
      record_is = λ x m j l. a.record_is x m j l ∙ b.record_is x m j l;
    }

changes-same : (ss : List Slot) (h g : ℕ) (T N M : List ℕ) → h ≢ g → Disjoint N M → 1 ≤ g → (cs : List Change) (t : Tables) → roster t.head ≡ ss
    → AllMine ss g M cs → Same h T N t (changes cs t)
unfolding changes
changes-same ss h g T N M n d o [] t e m = same_refl h T N t
changes-same ss h g T N M n d o (c ∷ cs) t e (m, ms) =
    let s : Same h T N t (change c t) = change-same ss h g T N M n d o c t e m in
    same-trans s (changes-same ss h g T N M n d o cs (change c t) (sym s.roster-is ∙ e) ms)

carried_same : (h g : ℕ) (T N M : List ℕ) → h ≢ g → Disjoint N M → 1 ≤ g → (t : Tables) {cs : List Change}
    → Carried (roster t.head) g M cs → Same h T N t (changes cs t)
carried_same h g T N M n d o t (alone {cs = cs} m) = changes-same (roster t.head) h g T N M n d o cs t refl (own-mine (roster t.head) g M cs m)
carried_same h g T N M n d o t (counted cs m) =
    rw (changes-last cs t)
    (same-trans (changes-same (roster t.head) h g T N M n d o cs t refl m) (recount-same h T N (changes cs t)))

pub after_same : (h g : ℕ) (T N M : List ℕ) → h ≢ g → Disjoint N M → (v : Verdict) (t : Tables)
    → Keeps (roster t.head) g M v → Same h T N t (after v t)
unfolding after
after_same h g T N M n d (Number k) t m = same_refl h T N t
after_same h g T N M n d (Prevented k f) t m = same_refl h T N t
after_same h g T N M n d (Done s bytes cs) t (o, k, m) = carried_same h g T N M n d o t m

-- ---- two hosts' changes change places

change-comm : (ss : List Slot) (h g : ℕ) (N M : List ℕ) → h ≢ g → Disjoint N M → (c d : Change)
    → Mine ss h N c → Mine ss g M d → (t : Tables) → change c (change d t) ≡ change d (change c t)
unfolding change
change-comm ss h g N M n a (OfHead c) (OfHead d) l m t =
    ap (λ (head : List ℕ). lent head t.elements t.rest)
    (local-comm (OfHost h) (OfHost g) (λ j x y. omega arith) (in_head c) (in_head d) l m t.head)
change-comm ss h g N M n a (OfHead c) (OfElements d) l m t = refl
change-comm ss h g N M n a (OfHead c) (OfSearch d) l m t = elim m [ ]
change-comm ss h g N M n a (OfHead c) Recount l m t = absurd m
change-comm ss h g N M n a (OfElements c) (OfHead d) l m t = refl
change-comm ss h g N M n a (OfElements c) (OfElements d) l m t =
    ap (λ (es : List ℕ). lent t.head es t.rest)
    (local-comm (OfAddresses ss N) (OfAddresses ss M)
    (λ j (b, y, k, x) (b', y', k', x').
    let w : place_of ss b ≢ place_of ss b' = place-apart ss b b' (λ q. a b y (Memᴰ.cast q y')) k' in
    omega arith)
    (in_elements c) (in_elements d) l m t.elements)
change-comm ss h g N M n a (OfElements c) (OfSearch d) l m t = elim m [ ]
change-comm ss h g N M n a (OfElements c) Recount l m t = absurd m
change-comm ss h g N M n a (OfSearch c) d l m t = elim l [ ]
change-comm ss h g N M n a Recount d l m t = absurd l

changes-past : (ss : List Slot) (h g : ℕ) (N M : List ℕ) → h ≢ g → Disjoint N M → (c : Change) (ds : List Change)
    → Mine ss h N c → AllMine ss g M ds → (t : Tables) → change c (changes ds t) ≡ changes ds (change c t)
unfolding changes
changes-past ss h g N M n a c [] m ms t = refl
changes-past ss h g N M n a c (d ∷ ds) m (m', ms) t =
    changes-past ss h g N M n a c ds m ms (change d t) ∙ ap (changes ds) (change-comm ss h g N M n a c d m m' t)

changes-comm : (ss : List Slot) (h g : ℕ) (N M : List ℕ) → h ≢ g → Disjoint N M → (cs ds : List Change)
    → AllMine ss h N cs → AllMine ss g M ds → (t : Tables) → changes cs (changes ds t) ≡ changes ds (changes cs t)
unfolding changes
changes-comm ss h g N M n a [] ds ms ms' t = refl
changes-comm ss h g N M n a (c ∷ cs) ds (m, ms) ms' t =
    ap (changes cs) (changes-past ss h g N M n a c ds m ms' t) ∙ changes-comm ss h g N M n a cs ds ms ms' (change c t)

-- ---- and so they do with the panel's number, which is that of the elements as they end

-- a count before the host's changes and one behind them: the first is nothing
recount-again : (ss : List Slot) (h : ℕ) (N : List ℕ) → 1 ≤ h → h ≤ hosts → (c : Change) → Mine ss h N c → (t : Tables)
    → change Recount (change c (change Recount t)) ≡ change Recount (change c t)
recount-again ss h N o k (OfHead c) l t = ap (change Recount) (recount-past h o k c l t) ∙ recount-twice (change (OfHead c) t)
recount-again ss h N o k (OfElements c) l t = recount-elements c t
recount-again ss h N o k (OfSearch c) l t = elim l [ ]
recount-again ss h N o k Recount l t = absurd l

recounts-again : (ss : List Slot) (h : ℕ) (N : List ℕ) → 1 ≤ h → h ≤ hosts → (cs : List Change) → AllMine ss h N cs → (t : Tables)
    → change Recount (changes cs (change Recount t)) ≡ change Recount (changes cs t)
unfolding changes
recounts-again ss h N o k [] m t = recount-twice t
recounts-again ss h N o k (c ∷ cs) (m, ms) t =
    sym (recounts-again ss h N o k cs ms (change c (change Recount t)))
    ∙ ap (λ (u : Tables). change Recount (changes cs u)) (recount-again ss h N o k c m t)
    ∙ recounts-again ss h N o k cs ms (change c t)

-- a host's own changes, on either side of a count
own-past : (h : ℕ) → 1 ≤ h → h ≤ hosts → (cs : List Change) → AllOwn h cs → (t : Tables)
    → changes cs (change Recount t) ≡ change Recount (changes cs t)
unfolding changes
own-past h o k [] m t = refl
own-past h o k (OfHead c ∷ cs) (m, ms) t = ap (changes cs) (recount-past h o k c m t) ∙ own-past h o k cs ms (change (OfHead c) t)
own-past h o k (OfElements c ∷ cs) (m, ms) t = absurd m
own-past h o k (OfSearch c ∷ cs) (m, ms) t = absurd m
own-past h o k (Recount ∷ cs) (m, ms) t = absurd m

module _ (ss : List Slot) (h g : ℕ) (N M : List ℕ) (n : h ≢ g) (a : Disjoint N M) (o : 1 ≤ h) (k : h ≤ hosts) where
  -- one host's changes of its own bytes, another's that end with a count
  own-comm : (cs ds : List Change) → AllOwn h cs → AllMine ss g M ds → (t : Tables)
      → changes cs (changes (ds ++ (Recount ∷ [])) t) ≡ changes (ds ++ (Recount ∷ [])) (changes cs t)
  own-comm cs ds m ms t =
      ap (changes cs) (changes-last ds t)
      ∙ own-past h o k cs m (changes ds t)
      ∙ ap (change Recount) (changes-comm ss h g N M n a cs ds (own-mine ss h N cs m) ms t)
      ∙ sym (changes-last ds (changes cs t))

  -- both end with a count: what is left is the count of the elements as both have changed them
  counted-comm : (cs ds : List Change) → AllMine ss h N cs → AllMine ss g M ds → 1 ≤ g → g ≤ hosts → (t : Tables)
      → changes (cs ++ (Recount ∷ [])) (changes (ds ++ (Recount ∷ [])) t) ≡ changes (ds ++ (Recount ∷ [])) (changes (cs ++ (Recount ∷ [])) t)
  counted-comm cs ds m ms o' k' t =
      rw (changes-last cs (changes (ds ++ (Recount ∷ [])) t), changes-last ds t, changes-last ds (changes (cs ++ (Recount ∷ [])) t), changes-last cs t)
      (recounts-again ss h N o k cs m (changes ds t)
      ∙ ap (change Recount) (changes-comm ss h g N M n a cs ds m ms t)
      ∙ sym (recounts-again ss g M o' k' ds ms (changes cs t)))

carried-comm : (ss : List Slot) (h g : ℕ) (N M : List ℕ) → h ≢ g → Disjoint N M → 1 ≤ h → h ≤ hosts → 1 ≤ g → g ≤ hosts → {cs ds : List Change}
    → Carried ss h N cs → Carried ss g M ds → (t : Tables) → changes cs (changes ds t) ≡ changes ds (changes cs t)
carried-comm ss h g N M n a o k o' k' (alone {cs = cs} m) (alone {cs = ds} ms) t =
    changes-comm ss h g N M n a cs ds (own-mine ss h N cs m) (own-mine ss g M ds ms) t
carried-comm ss h g N M n a o k o' k' (alone {cs = cs} m) (counted ds ms) t = own-comm ss h g N M n a o k cs ds m ms t
carried-comm ss h g N M n a o k o' k' (counted cs m) (alone {cs = ds} ms) t =
    sym (own-comm ss g h M N (λ e. n (sym e)) (λ b x y. a b y x) o' k' ds cs ms m t)
carried-comm ss h g N M n a o k o' k' (counted cs m) (counted ds ms) t = counted-comm ss h g N M n a o k cs ds m ms o' k' t

pub after-comm : (ss : List Slot) (h g : ℕ) (N M : List ℕ) → h ≢ g → Disjoint N M → (v w : Verdict)
    → Keeps ss h N v → Keeps ss g M w → (t : Tables) → after v (after w t) ≡ after w (after v t)
unfolding after
after-comm ss h g N M n a (Number k) w m m' t = refl
after-comm ss h g N M n a (Prevented k f) w m m' t = refl
after-comm ss h g N M n a (Done s b cs) (Number l) m m' t = refl
after-comm ss h g N M n a (Done s b cs) (Prevented l f) m m' t = refl
after-comm ss h g N M n a (Done s b cs) (Done s' b' ds) (o, k, m) (o', k', m') t = carried-comm ss h g N M n a o k o' k' m m' t

-- ---- a verdict's changes are its host's and its addresses'

module _ (t : Tables) (h : ℕ) (N : List ℕ) (o : 1 ≤ h) (k : h ≤ hosts) where
  Kept : Verdict → Type 0
  Kept v = Keeps (roster t.head) h N v

  -- the host's sense cleared
  cleared : Carried (roster t.head) h N (Sense h 0 0 0 ∷ [])
  cleared = alone {cs = Sense h 0 0 0 ∷ []} (sense-local h 0 0 0, tt)

  kept-refusals : Refusals Kept t h
  unfolding Kept check conflict telling
  kept-refusals =
      record {
        refuses = refused-by Kept h (λ a q. (o, k, alone (sense-local h 5 a q, tt)));
        conflicts = (o, k, cleared);
        tells = (o, k, alone {cs = Sense h 6 _ _ ∷ Attention h 0 0 ∷ []} (sense-local h 6 _ _, (attention-local h 0 0, tt)));
      }

  kept-ready : Kept (good h [])
  unfolding Kept good
  kept-ready = (o, k, cleared)

  kept-good : (cs : List Change) → AllMine (roster t.head) h N cs → Kept (good h (cs ++ (Recount ∷ [])))
  unfolding Kept good
  kept-good cs m = (o, k, counted (Sense h 0 0 0 ∷ cs) (sense-local h 0 0 0, m))

  kept-sense : (block : List ℕ) → Kept (request_sense t h block)
  unfolding request_sense Kept
  kept-sense block = on Kept _ (λ _. (o, k, alone (attention-local h 0 0, tt))) (λ _. (o, k, cleared))

  -- an element at an address that stands may be filled
  stands-mine : (a v s m : ℕ) → Memᴰ a N → no_place t a ≡ false → Mine (roster t.head) h N (Fill (place_of (roster t.head) a) v s m)
  unfolding no_place
  stands-mine a v s m i e =
      let k : kind_of (roster t.head) a ≢ 0 = omega (arith, leb-false (kind_of (roster t.head) a) transport e) in
      local-more (OfStock (place_of (roster t.head) a)) (OfAddresses (roster t.head) N) (in_elements (NewStock _ v s m)) (λ j x. (a, i, k, x))
      (stock-local (place_of (roster t.head) a) v s m)

  leave-mine : (a : ℕ) → Memᴰ a N → no_place t a ≡ false → Mine (roster t.head) h N (leave t a)
  unfolding leave
  leave-mine a m e = stands-mine a 0 0 0 m e

  carry-mine : (a b : ℕ) → Memᴰ b N → no_place t b ≡ false → Mine (roster t.head) h N (carry t a b)
  unfolding carry
  carry-mine a b m e = stands-mine b _ _ 0 m e

  kept_move : (arm from to : ℕ) → Memᴰ from N → Memᴰ to N → Kept (move_of t h arm from to)
  kept_move arm from to m₁ m₂ =
      move-by Kept t h kept-refusals arm from to
      (λ x. kept-good (leave t from ∷ carry t from to ∷ []) (leave-mine from m₁ x.from-stands, (carry-mine from to m₂ x.to-stands, tt)))

  kept-exchange : (arm from first second : ℕ) → Memᴰ from N → Memᴰ first N → Memᴰ second N
      → Kept (exchange_of t h arm from first second)
  kept-exchange arm from first second m₁ m₂ m₃ =
      exchange-by Kept t h kept-refusals arm from first second
      (λ x. kept-good (leave t from ∷ leave t first ∷ carry t first second ∷ carry t from first ∷ []) (
        leave-mine from m₁ x.from-stands,
        (leave-mine first m₂ x.first-stands, (carry-mine first second m₃ x.second-stands, (carry-mine from first m₂ x.first-stands, tt))),
      ))

  kept-fits : (buffer : List ℕ) (v : Verdict) → Kept v → Kept (fits buffer v)
  unfolding fits Kept
  kept-fits buffer (Number n) m = tt
  kept-fits buffer (Prevented n g) m = tt
  kept-fits buffer (Done s bytes cs) m = on Kept _ (λ _. m) (λ _. tt)

act-kept : (op : Operation) (t : Tables) (h : ℕ) (block list : List ℕ) → 1 ≤ h → h ≤ hosts → joins op ≡ true
    → Keeps (roster t.head) h (named_by op block) (act op t h block list)
unfolding Kept act joins named_by move exchange
act-kept TestUnitReady t h block list o k m = kept-ready t h [] o k
act-kept RequestSense t h block list o k m = kept-sense t h [] o k block
act-kept Reserve t h block list o k m = absurd (never m)
act-kept Release t h block list o k m = absurd (never m)
act-kept PreventAllow t h block list o k m = absurd (never m)
act-kept MoveMedium t h block list o k m = kept_move t h _ o k _ _ _ (here _ _) (there (here _ _))
act-kept ExchangeMedium t h block list o k m = kept-exchange t h _ o k _ _ _ _ (here _ _) (there (here _ _)) (there (there (here _ _)))
act-kept ReadElementStatus t h block list o k m = absurd (never m)
act-kept ModeSense t h block list o k m = absurd (never m)
act-kept SendVolumeTag t h block list o k m = absurd (never m)
act-kept RequestVolumeElementAddress t h block list o k m = absurd (never m)
act-kept Unknown t h block list o k m = absurd (never m)

steps-kept : (t : Tables) (h : ℕ) (block list : List ℕ) → 1 ≤ h → h ≤ hosts → mixes block ≡ true → block_fits block ≡ true
    → Keeps (roster t.head) h (named block) (steps t h block list)
unfolding Kept steps mixes named
steps-kept t h block list o k m f =
    let N = named_by (operation block) block in
    rw (when_true (block_fits block) N [] f)
    (steps-by (Kept t h N o k) t h (kept-refusals t h N o k) (operation block) block list (λ _. act-kept (operation block) t h block list o k m))

pub judged-kept : (t : Tables) (r : Request) → mixes r.block ≡ true → Keeps (roster t.head) r.host (named r.block) (judged t r)
unfolding judged after_numbers Kept
judged-kept t r m =
    let K : Verdict → Type 0 = λ v. Keeps (roster t.head) r.host (named r.block) v in
    on K (within 1 hosts r.host)
    (λ e.
    let o = within_low 1 hosts r.host e in
    let k = within-high 1 hosts r.host e in
    on K _
    (λ f. on K _ (λ _. kept-fits t r.host (named r.block) o k r.buffer _ (steps-kept t r.host r.block r.parameters o k m f)) (λ _. tt))
    (λ _. tt))
    (λ _. tt)
