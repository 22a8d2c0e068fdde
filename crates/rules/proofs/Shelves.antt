-- "the last storage element that held it": after any history of calls a source is what the moves of its volume tell. Assumes nothing.
use Prim.Native.Nat.{ℕ, zero, suc, ◌+◌, ◌<◌, ◌≤◌}
use native.Mathlib.Omega.{arith}
use mathlib.Core.Path.{◌≡◌, refl, sym, ap, ◌∙◌}
use mathlib.Core.Logic.{◌≢◌}
use mathlib.Core.Bool.{Bool, true, false}
use mathlib.Core.List.{List, [], ◌∷◌}
use lib.ListN.{length, get_or-eq_default}
use lib.Dec.{eqb, ltb}
use borrow.Author.Tests.{eqb-true, eqb-false, eq-eqb, ne_eqb, leb-false, ltb-true, ltb-false}
use Rattle.rules.specs.Choice.{when}
use Rattle.rules.specs.Bytes.{byte, word}
use Rattle.rules.specs.Tables.{Tables, element_size, element_at, places, volume, source, filled, Announce, Fill, Recount, in_elements, change, changes}
use Rattle.rules.specs.Roster.{Slot, roster, place_of, kind_of, transport, storage, port}
use Rattle.rules.specs.Order.{Verdict, Number, Prevented, Done, Outcome, outcome, good, volume_of, source_of}
use Rattle.rules.specs.Moves.{no_place, leave, shelf_of, carry}
use Rattle.rules.specs.Sound.{sound}
use Rattle.rules.specs.Events.{present, wrong_volume, done, importing, exporting}
use Rattle.rules.specs.Command.{Call, Command, Import, Export, Reset, verdict, serve}
use Rattle.rules.specs.Histories.{History, begun, called, one, imported}
use Rattle.rules.specs.Shelves.{vacated, shelf_after, last_shelf, beside, source_in}
use Rattle.rules.proofs.Ladder.{on, either, when_true, when_false, all_first, all_rest, all_cons, all_nil, any-first, any-rest, any-nowhere, differ-true, differ-false, ne-differ, never}
use Rattle.rules.proofs.Walks.{Moving, Exchanging}
use Rattle.rules.proofs.Stills.{still-alone, Numbered, Stilled, command-by, port-by, reset_by}
use Rattle.rules.proofs.Places.{place_in, place-apart, Placed, roster-placed}
use Rattle.rules.proofs.ElementFields.{filled-length, volume-else, source-else, filled-volume, filled-source, volume-alone, source-alone}
use Rattle.rules.proofs.Soundness.{Sound, sound-true, volumes-apart, places_is}
use Rattle.rules.proofs.Counts.{one_same, one-else}
use Rattle.rules.proofs.Sequences.{next-sound}

-- what does not hold is false
unheld : (b : Bool) → (b ≡ true → ⊥) → b ≡ false
unheld true f = absurd (f refl)
unheld false f = refl

-- ---- what a walk over the roster finds of the volume w

module _ (w : ℕ) (es fs : List ℕ) where
  -- an element that w did not leave
  passed : (x : Slot) (xs : List Slot) (s : ℕ) → (volume es x.place ≡ w → volume fs x.place ≡ w)
      → vacated w es fs (x ∷ xs) s ≡ vacated w es fs xs s
  unfolding vacated
  passed x xs s k =
      on (λ (y : ℕ). y ≡ vacated w es fs xs s) _
      (λ b. let b₁ = all_rest _ _ b in absurd (differ-true _ _ (all_first _ _ (all_rest _ _ b₁)) (k (eqb-true _ _ (all_first _ _ b₁))))) (λ _. refl)

  -- one that it left
  left_here : (x : Slot) (xs : List Slot) (s : ℕ) → volume es x.place ≡ w → volume fs x.place ≢ w
      → vacated w es fs (x ∷ xs) s ≡ when (eqb x.kind storage) x.address (vacated w es fs xs s)
  unfolding vacated
  left_here x xs s before behind =
      on (λ (y : ℕ). y ≡ when (eqb x.kind storage) x.address (vacated w es fs xs s)) _ (λ b. sym (when_true _ _ _ (all_first _ _ b)))
      (λ b. sym (when_false _ _ _ (unheld _
      (λ c. never (sym b ∙ all_cons _ _ c (all_cons _ _ (eq-eqb _ _ before) (all_cons _ _ (ne-differ _ _ behind) all_nil)))))))

  -- it left none
  left-none : (n : ℕ) (ss : List Slot) (s : ℕ) → Placed n ss
      → ((q : ℕ) → n ≤ q → volume es q ≡ w → volume fs q ≡ w) → vacated w es fs ss s ≡ s
  unfolding vacated
  left-none n [] s h k = refl
  left-none n (x ∷ xs) s (e, h) k = passed x xs s (k x.place (omega arith)) ∙ left-none (suc n) xs s h (λ q l. k q (omega arith))

  -- it left the place p of the address a, and stood nowhere else
  module _ (p : ℕ) (before : volume es p ≡ w) (behind : volume fs p ≢ w) (only : (q : ℕ) → volume es q ≡ w → q ≡ p) where
    left_one : (n : ℕ) (ss : List Slot) (a s : ℕ) → Placed n ss → kind_of ss a ≢ 0 → p ≡ n + place_of ss a
        → vacated w es fs ss s ≡ when (eqb (kind_of ss a) storage) a s
    unfolding kind_of place_of when
    left_one n [] a s h k e = absurd (k refl)
    left_one n (x ∷ xs) a s (i, h) k e = go (left_one (suc n) xs a s h) (eqb x.address a) refl k e
      where
        go : (kind_of xs a ≢ 0 → p ≡ suc n + place_of xs a → vacated w es fs xs s ≡ when (eqb (kind_of xs a) storage) a s)
            → (b : Bool) → eqb x.address a ≡ b → when b x.kind (kind_of xs a) ≢ 0 → p ≡ n + when b 0 (suc (place_of xs a))
            → vacated w es fs (x ∷ xs) s ≡ when (eqb (when b x.kind (kind_of xs a)) storage) a s
        go ih true t k e =
            let j : x.place ≡ p = omega arith in
            left_here x xs s (ap (volume es) j ∙ before) (λ v. behind (sym (ap (volume fs) j) ∙ v))
            ∙ cc (eqb-true x.address a t, left-none (suc n) xs s h (λ q l v. absurd (omega (arith, only q v))))
        go ih false t k e = passed x xs s (λ v. absurd (omega (arith, only x.place v))) ∙ ih k (omega arith)

-- ---- what stands beside a volume

-- wherever the volume w stands, s is its source
abbrev Beside : ℕ → List ℕ → ℕ → Type 0
Beside w es s = (p : ℕ) → volume es p ≡ w → source es p ≡ s

-- behind the last byte no volume stands
volume-past : (es : List ℕ) (p : ℕ) → length es ≤ element_at p → volume es p ≡ 0
unfolding volume word byte
volume-past es p l =
    let a = get_or-eq_default es 0 {n = element_at p} l in
    let b = get_or-eq_default es 0 {n = element_at p + 1} (omega arith) in
    omega (arith, a, b)

beside_at : (w : ℕ) (es : List ℕ) (p : ℕ) → ((q : ℕ) → volume es q ≡ w → q ≡ p) → volume es p ≡ w
    → (n : ℕ) → p < n → source es p ≡ beside w es n
unfolding beside
beside_at w es p only i zero l = absurd (omega arith)
beside_at w es p only i (suc n) l =
    on (λ (y : ℕ). source es p ≡ y) (eqb (volume es n) w) (λ b. ap (source es) (sym (only n (eqb-true _ _ b))))
    (λ b.
    let d : n ≢ p = λ e. eqb-false _ _ b (ap (volume es) e ∙ i) in
    beside_at w es p only i n (omega arith))

module _ (w : ℕ) (z : w ≢ 0) (t : Tables) (s : Sound t) where
  within-table : (p : ℕ) → volume t.elements p ≡ w → p < length (roster t.head)
  within-table p i = go (ltb p (length (roster t.head))) refl
    where
      go : (b : Bool) → ltb p (length (roster t.head)) ≡ b → p < length (roster t.head)
      go true e = ltb-true _ _ e
      go false e =
          let l : length (roster t.head) ≤ p = ltb-false _ _ e in
          absurd (z (sym i ∙ volume-past t.elements p (omega (arith, s.elements-fit.length-is))))

  -- "stands at most once"
  one_place : (p q : ℕ) → volume t.elements p ≡ w → volume t.elements q ≡ w → q ≡ p
  one_place p q i j =
      either q p (λ e. e)
      (λ n. absurd (volumes-apart _ _ _ t.elements s.elements-fit q p (within-table q j) (within-table p i) n (λ v. z (sym j ∙ v)) (j ∙ sym i)))

  beside_first : Beside w t.elements (source_in w t)
  unfolding source_in
  beside_first p i =
      beside_at w t.elements p (λ q j. one_place p q i j) i (places t.elements) (omega (arith, within-table p i, places_is t s))

-- ---- how the volume w came to stand at a place p of the elements fs, in one call on tables t that brings `came` of it in

data Way (w came : ℕ) (t : Tables) (fs : List ℕ) (p : ℕ) : Type 0 where
  -- it stood there
  stayed : came ≢ 1 → volume t.elements p ≡ w → source fs p ≡ source t.elements p → Way w came t fs p
  -- it left the element of an address
  carried : (from : ℕ) → came ≢ 1 → kind_of (roster t.head) from ≢ 0 → volume_of t from ≡ w → volume fs (place_of (roster t.head) from) ≢ w
      → source fs p ≡ shelf_of t from → Way w came t fs p
  -- it was brought in
  arrived : came ≡ 1 → source fs p ≡ 0 → Way w came t fs p

module _ (w : ℕ) (z : w ≢ 0) (t : Tables) (s : Sound t) (shelf : ℕ) (b : Beside w t.elements shelf) where
  told : (came : ℕ) (fs : List ℕ) (p : ℕ) → volume fs p ≡ w → Way w came t fs p
      → source fs p ≡ when (eqb came 1) 0 (vacated w t.elements fs (roster t.head) shelf)
  unfolding shelf_of volume_of source_of
  told came fs p v (stayed n i e) =
      e ∙ b p i
      ∙ sym
      (when_false _ _ _ (ne_eqb came 1 n)
      ∙ left-none w t.elements fs 0 (roster t.head) shelf (roster-placed t.head) (λ q _ j. ap (volume fs) (one_place w z t s p q i j) ∙ v))
  told came fs p v (carried from n k i j e) =
      let ss : List Slot = roster t.head in
      let q : ℕ = place_of ss from in
      e ∙ ap (when (eqb (kind_of ss from) storage) from) (b q i)
      ∙ sym
      (when_false _ _ _ (ne_eqb came 1 n)
      ∙ left_one w t.elements fs q i j (λ r x. one_place w z t s q r i x) 0 ss from shelf (roster-placed t.head) k (omega arith))
  told came fs p v (arrived n e) = e ∙ sym (when_true _ _ _ (eq-eqb came 1 n))

-- ---- a verdict's changes: `came` of the volume w come in, and every place where it stands then has its way

abbrev Ways : ℕ → Tables → ℕ → Verdict → Type 0
Ways w t came (Number n) = n ≢ 0
Ways w t came (Prevented n h) = Unit {0}
Ways w t came (Done status bytes cs) = (p : ℕ) → volume (changes cs t).elements p ≡ w → Way w came t (changes cs t).elements p

module _ (w : ℕ) (t : Tables) where
  ways-numbered : (came : ℕ) → Numbered (Ways w t came)
  ways-numbered came = record { by_number = λ n d. d; by-prevention = λ n h. tt }

  ways-still : Stilled (Ways w t 0)
  ways-still status bytes cs a p v =
      let alone = still-alone cs t a in
      stayed (omega arith) (sym (volume-alone _ _ alone p) ∙ v) (source-alone _ _ alone p)

-- a place of a table with one place filled: that place, or another
at-filled : {P : Type 0} (es : List ℕ) (p v s m q : ℕ) → element_at p + element_size ≤ length es
    → (q ≡ p → volume (filled es p v s m) q ≡ v → source (filled es p v s m) q ≡ s → P)
    → (q ≢ p → volume (filled es p v s m) q ≡ volume es q → source (filled es p v s m) q ≡ source es q → P) → P
at-filled es p v s m q l f g =
    either q p (λ e. f e (rw e (filled-volume es p v s m l)) (rw e (filled-source es p v s m l)))
    (λ n. g n (volume-else es p v s m q n) (source-else es p v s m q n))

module _ (w : ℕ) (z : w ≢ 0) (t : Tables) (s : Sound t) where
  -- the place of an address that stands lies in a table as long
  long : (fs : List ℕ) → length fs ≡ length t.elements → (a : ℕ) → kind_of (roster t.head) a ≢ 0
      → element_at (place_of (roster t.head) a) + element_size ≤ length fs
  long fs e a k = omega (arith, place_in (roster t.head) a k, s.elements-fit.length-is)

  known : (a : ℕ) → no_place t a ≡ false → kind_of (roster t.head) a ≢ 0
  unfolding no_place
  known a e = let l : transport < kind_of (roster t.head) a = leb-false _ _ e in omega arith

  -- ---- MOVE and EXCHANGE

  move-ways : (h from to : ℕ) → Moving t from to → Ways w t 0 (good h (leave t from ∷ carry t from to ∷ Recount ∷ []))
  unfolding good leave carry volume_of changes change in_elements
  move-ways h from to x = λ p v.
      let es : List ℕ = t.elements in
      let pf : ℕ = place_of (roster t.head) from in
      let pt : ℕ = place_of (roster t.head) to in
      let es₁ : List ℕ = filled es pf 0 0 0 in
      let k = known from x.from-stands in
      let l = long es refl from k in
      at-filled es₁ pt (volume es pf) (shelf_of t from) 0 p (long es₁ (filled-length es pf 0 0 0) to (known to x.to-stands))
      (λ e i j.
      let f : volume es pf ≡ w = sym i ∙ v in
      let apart : pf ≢ pt = λ d. z (sym f ∙ ap (volume es) d ∙ differ-false _ _ x.to-empty) in
      carried from (omega arith) k f (λ g. z (sym g ∙ volume-else es₁ pt _ _ 0 pf apart ∙ filled-volume es pf 0 0 0 l)) j)
      (λ n i j. at-filled es pf 0 0 0 p l (λ _ y _. absurd (z (sym v ∙ i ∙ y))) (λ _ y o. stayed (omega arith) (sym y ∙ sym i ∙ v) (j ∙ o)))

  exchange-ways : (h from first second : ℕ) → Exchanging t from first second
      → Ways w t 0 (good h (leave t from ∷ leave t first ∷ carry t first second ∷ carry t from first ∷ Recount ∷ []))
  unfolding good leave carry volume_of changes change in_elements
  exchange-ways h from first second x = λ p v.
      at-filled es₃ p₁ (volume es pf) (shelf_of t from) 0 p l₃
      (λ _ i j. let f = sym i ∙ v in carried from (omega arith) k f (from-left f) j)
      (λ n i j. at-filled es₂ p₂ (volume es p₁) (shelf_of t first) 0 p l₂
      (λ _ y o. let f = sym y ∙ sym i ∙ v in carried first (omega arith) k₁ f (first-left f) (j ∙ o))
      (λ _ y o. at-filled es pf 0 0 0 p l
      (λ _ a _. absurd (z (sym v ∙ i ∙ y ∙ volume-else es₁ p₁ 0 0 0 p n ∙ a)))
      (λ _ a b. stayed (omega arith) (sym (i ∙ y ∙ volume-else es₁ p₁ 0 0 0 p n ∙ a) ∙ v) (j ∙ o ∙ source-else es₁ p₁ 0 0 0 p n ∙ b))))
    where
      es : List ℕ
      es = t.elements

      pf : ℕ
      pf = place_of (roster t.head) from

      p₁ : ℕ
      p₁ = place_of (roster t.head) first

      p₂ : ℕ
      p₂ = place_of (roster t.head) second

      es₁ : List ℕ
      es₁ = filled es pf 0 0 0

      es₂ : List ℕ
      es₂ = filled es₁ p₁ 0 0 0

      es₃ : List ℕ
      es₃ = filled es₂ p₂ (volume es p₁) (shelf_of t first) 0

      fs : List ℕ
      fs = filled es₃ p₁ (volume es pf) (shelf_of t from) 0

      k : kind_of (roster t.head) from ≢ 0
      k = known from x.from-stands

      k₁ : kind_of (roster t.head) first ≢ 0
      k₁ = known first x.first-stands

      l : element_at pf + element_size ≤ length es
      l = long es refl from k

      long₂ : length es₂ ≡ length es
      long₂ = filled-length es₁ p₁ 0 0 0 ∙ filled-length es pf 0 0 0

      l₂ : element_at p₂ + element_size ≤ length es₂
      l₂ = long es₂ long₂ second (known second x.second-stands)

      l₃ : element_at p₁ + element_size ≤ length es₃
      l₃ = long es₃ (filled-length es₂ p₂ _ _ 0 ∙ long₂) first k₁

      apart : pf ≢ p₁
      apart e = place-apart (roster t.head) first from (eqb-false _ _ x.apart) k (sym e)

      -- the source keeps nothing, or the first destination's volume
      from-left : volume es pf ≡ w → volume fs pf ≢ w
      from-left f g =
          let e = sym (volume-else es₃ p₁ _ _ 0 pf apart) ∙ g in
          at-filled es₂ p₂ (volume es p₁) (shelf_of t first) 0 pf l₂ (λ _ y _. apart (one_place w z t s p₁ pf (sym y ∙ e) f))
          (λ _ y _. z (sym e ∙ y ∙ volume-else es₁ p₁ 0 0 0 pf apart ∙ filled-volume es pf 0 0 0 l))

      first-left : volume es p₁ ≡ w → volume fs p₁ ≢ w
      first-left f g = apart (one_place w z t s p₁ pf f (sym (filled-volume es₃ p₁ (volume es pf) _ 0 l₃) ∙ g))

  -- ---- the events

  import-ways : (a v : ℕ) → Ways w t (one v w) (importing t a v)
  unfolding importing
  import-ways a v =
      let W : Verdict → Type 0 = Ways w t (one v w) in
      port-by W (ways-numbered w t (one v w)) t a _ (λ k. on W _ (λ _. omega arith) (λ _. on W _ (λ _. omega arith) (λ e. came k e)))
    where
      came : kind_of (roster t.head) a ≡ port → wrong_volume t v ≡ false
          → Ways w t (one v w) (done (Fill (place_of (roster t.head) a) v 0 1 ∷ Announce 0x28 0x01 ∷ []))
      came k e =
          unfold done changes change in_elements wrong_volume present in
          λ p x. at-filled t.elements (place_of (roster t.head) a) v 0 1 p (long t.elements refl a (omega arith))
          (λ _ i j. arrived (one_same v w (sym i ∙ x)) j)
          (λ _ i j.
          let f : volume t.elements p ≡ w = sym i ∙ x in
          let absent =
          any-nowhere (λ q. eqb (volume t.elements q) v) (places t.elements) 0 (any-first _ _ (any-rest _ _ (any-rest _ _ e))) p (omega arith)
          (omega (arith, within-table w z t s p f, places_is t s)) in
          let none = one-else v w (λ d. eqb-false _ _ absent (f ∙ sym d)) in
          stayed (omega arith) f j)

  export-ways : (a : ℕ) → Ways w t 0 (exporting t a)
  unfolding exporting
  export-ways a =
      let W : Verdict → Type 0 = Ways w t 0 in
      port-by W (ways-numbered w t 0) t a _ (λ k. on W _ (λ _. omega arith) (λ _. gone k))
    where
      gone : kind_of (roster t.head) a ≡ port → Ways w t 0 (done (Fill (place_of (roster t.head) a) 0 0 0 ∷ Announce 0x28 0x01 ∷ []))
      gone k =
          unfold done changes change in_elements in
          λ p x. at-filled t.elements (place_of (roster t.head) a) 0 0 0 p (long t.elements refl a (omega arith))
          (λ _ i _. absurd (z (sym x ∙ i))) (λ _ i j. stayed (omega arith) (sym i ∙ x) j)

-- ---- a call, and a history

module _ (w : ℕ) (z : w ≢ 0) where
  module _ (t : Tables) (s : Sound t) (shelf : ℕ) (b : Beside w t.elements shelf) where
    -- with number 0 so many came, else none
    verdict-shelf : (came : ℕ) (buffer : List ℕ) (v : Verdict) → Ways w t came v → (n : ℕ) → n ≡ when (eqb (outcome t buffer v).number 0) came 0
        → Beside w (outcome t buffer v).tables.elements
        (when (eqb n 1) 0 (vacated w t.elements (outcome t buffer v).tables.elements (roster t.head) shelf))
    unfolding outcome
    verdict-shelf came buffer (Number k) x n e p v =
        let none = when_false _ came 0 (ne_eqb k 0 x) in
        told w z t s shelf b n t.elements p v (stayed (omega arith) v refl)
    verdict-shelf came buffer (Prevented k h) x n e p v =
        let none = when_false (eqb 7 0) came 0 refl in
        told w z t s shelf b n t.elements p v (stayed (omega arith) v refl)
    verdict-shelf came buffer (Done status bytes cs) x n e p v =
        let all : n ≡ came = e ∙ when_true (eqb 0 0) came 0 refl in
        told w z t s shelf b n (changes cs t).elements p v (rw all (x p v))

    -- none comes in
    quiet-shelf : (buffer : List ℕ) (v : Verdict) → Ways w t 0 v
        → Beside w (outcome t buffer v).tables.elements
        (when (eqb 0 1) 0 (vacated w t.elements (outcome t buffer v).tables.elements (roster t.head) shelf))
    quiet-shelf buffer v x = verdict-shelf 0 buffer v x 0 (on (λ (n : ℕ). 0 ≡ n) _ (λ _. refl) (λ _. refl))

    next-shelf : (c : Call) → Beside w (serve t c).tables.elements (shelf_after w t c (serve t c) shelf)
    unfolding shelf_after imported serve verdict
    next-shelf (Command r) =
        quiet-shelf _ _
        (command-by (Ways w t 0) (ways-numbered w t 0) (ways-still w t) t r
        (record { moves = move-ways w z t s r.host; exchanges = exchange-ways w z t s r.host }))
    next-shelf (Import a v) = verdict-shelf (one v w) _ _ (import-ways w z t s a v) _ refl
    next-shelf (Export a) = quiet-shelf _ _ (export-ways w z t s a)
    next-shelf Reset = quiet-shelf _ _ (reset_by (Ways w t 0) (ways-numbered w t 0) (ways-still w t) t)

  history-shelf : {t u : Tables} {cs : List Call} {os : List Outcome} (hs : History t cs os u) → sound t ≡ true
      → (shelf : ℕ) → Beside w t.elements shelf → Beside w u.elements (last_shelf w hs shelf)
  unfolding last_shelf
  history-shelf begun s shelf b = b
  history-shelf (called {t = t} {c = c} {o = o} e hs) s shelf b =
      history-shelf hs (next-sound t c o e s) _ (rw e (next-shelf t (sound-true t s) shelf b c))

pub history-source : {t u : Tables} {cs : List Call} {os : List Outcome} (hs : History t cs os u) → sound t ≡ true
    → (p : ℕ) → volume u.elements p ≢ 0
    → source u.elements p ≡ last_shelf (volume u.elements p) hs (source_in (volume u.elements p) t)
history-source {t} {u} hs s p z =
    let w = volume u.elements p in
    history-shelf w z hs s (source_in w t) (beside_first w z t (sound-true t s)) p refl
