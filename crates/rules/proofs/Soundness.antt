-- What the test of sound tables says, as plain facts, and back. Assumes nothing.
use Prim.Native.Nat.{ℕ, zero, suc, ◌+◌, ◌*◌, ◌<◌, ◌≤◌}
use native.Mathlib.Omega.{arith}
use mathlib.Core.Path.{◌≡◌, refl, sym}
use mathlib.Core.Logic.{◌≢◌}
use mathlib.Core.Bool.{Bool, true, false}
use mathlib.Core.List.{List, [], ◌∷◌}
use lib.ListN.{length, get_or}
use lib.Dec.{eqb, leb, ltb}
use borrow.Author.Tests.{eqb-true, eqb-false, leb-true, ltb-true, ltb-false, eq-eqb, le-leb}
use Rattle.rules.specs.Choice.{when, all_of, differ, below}
use Rattle.rules.specs.Bytes.{byte}
use Rattle.rules.specs.Tables.{Tables, Rest, searching, head_size, element_size, tag_size, hosts, places, volumes, unit, key, asc, ascq, attention, attentionq, volume, source, holder, id, mark, zero_byte, panel, empty_shelves, most_generations}
use Rattle.rules.specs.Roster.{Slot, Range, range, ranges, roster, kind_at, kind_of, transport, storage, port}
use Rattle.rules.specs.Sound.{within, counts_sound, behind, range_sound, no_overlap, clear, ranges_sound, transport_empty, source_sound, mark_sound, stock_sound, hold_sound, once, sense_sound, attention_sound, head_sound, labels_sound, generations_sound, search_sound, rest_sound, elements_sound, sound, panel_sound, drives_sound}
use Rattle.rules.specs.Fitting.{suited}
use Rattle.rules.proofs.Ladder.{either, if-true, if-of, unless-true, unless-of, any-cases, any-by-first, any-by-rest, any-nil, all_first, all_rest, all_cons, all_nil, differ-true, ne-differ, below_at, below_of}

-- ---- small tests

pub within_low : (low high n : ℕ) → within low high n ≡ true → low ≤ n
unfolding within
within_low low high n e = leb-true low n (all_first _ _ e)

pub within-high : (low high n : ℕ) → within low high n ≡ true → n ≤ high
unfolding within
within-high low high n e = leb-true n high (all_first _ _ (all_rest _ _ e))

pub within_of : (low high n : ℕ) → low ≤ n → n ≤ high → within low high n ≡ true
unfolding within
within_of low high n l h = all_cons _ _ (le-leb low n l) (all_cons _ _ (le-leb n high h) all_nil)

both_of : (a b c d : ℕ) → a ≡ b → c ≡ d → all_of (eqb a b ∷ eqb c d ∷ []) ≡ true
both_of a b c d e f = all_cons _ _ (eq-eqb a b e) (all_cons _ _ (eq-eqb c d f) all_nil)

-- ---- a host's five bytes

pub record SenseFits (k a q : ℕ) : Type 0 where
  pub small : k ≤ 15
  pub none-asc : k ≡ 0 → a ≡ 0
  pub none-ascq : k ≡ 0 → q ≡ 0

pub sense-true : (k a q : ℕ) → sense_sound k a q ≡ true → SenseFits k a q
unfolding sense_sound
sense-true k a q e =
    let codes : k ≡ 0 → all_of (eqb a 0 ∷ eqb q 0 ∷ []) ≡ true = if-true k 0 _ (all_first _ _ (all_rest _ _ e)) in
    record {
      small = leb-true k 15 (all_first _ _ e);
      none-asc = λ z. eqb-true a 0 (all_first _ _ (codes z));
      none-ascq = λ z. eqb-true q 0 (all_first _ _ (all_rest _ _ (codes z)));
    }

pub sense-of : (k a q : ℕ) → SenseFits k a q → sense_sound k a q ≡ true
unfolding sense_sound
sense-of k a q f =
    all_cons _ _ (le-leb k 15 f.small) (all_cons _ _ (if-of k 0 _ (λ z. both_of a 0 q 0 (f.none-asc z) (f.none-ascq z))) all_nil)

pub record AttentionFits (a q : ℕ) : Type 0 where
  pub which : a ≢ 0 → a ≢ 0x28 → a ≡ 0x29
  pub none : a ≡ 0 → q ≡ 0
  pub changed : a ≡ 0x28 → q ≡ 0x01
  pub restarted : a ≡ 0x29 → q ≡ 0x00

pub attention-true : (a q : ℕ) → attention_sound a q ≡ true → AttentionFits a q
unfolding attention_sound
attention-true a q e =
    any-cases _ _ e (one 0 0 (λ x y. omega arith))
    λ d. any-cases _ _ d (one 0x28 0x01 (λ x y. omega arith))
    λ c. any-cases _ _ c (one 0x29 0x00 (λ x y. omega arith)) λ b. absurd (any-nil b)
  where
    one : (x y : ℕ) → (a ≡ x → q ≡ y → AttentionFits a q) → all_of (eqb a x ∷ eqb q y ∷ []) ≡ true → AttentionFits a q
    one x y f e = f (eqb-true a x (all_first _ _ e)) (eqb-true q y (all_first _ _ (all_rest _ _ e)))

pub attention-of : (a q : ℕ) → AttentionFits a q → attention_sound a q ≡ true
unfolding attention_sound
attention-of a q f =
    either a 0 (λ z. any-by-first _ _ (both_of a 0 q 0 z (f.none z)))
    λ n. either a 0x28 (λ z. any-by-rest _ _ (any-by-first _ _ (both_of a 0x28 q 0x01 z (f.changed z))))
    λ m. any-by-rest _ _ (any-by-rest _ _ (any-by-first _ _ (both_of a 0x29 q 0x00 (f.which n m) (f.restarted (f.which n m)))))

-- ---- an element's eight bytes

-- a source: "only a storage address or 0"
abbrev pub ShelfOrNone : List Slot → ℕ → Type 0
ShelfOrNone ss s = s ≢ 0 → kind_of ss s ≡ storage

-- what stands in an element of a type, where top is the last volume number
pub record StockFits (top : ℕ) (ss : List Slot) (kind v s m : ℕ) : Type 0 where
  pub small : v ≤ top
  pub transport-empty : kind ≡ transport → v ≡ 0
  pub source-full : s ≢ 0 → v ≢ 0
  pub source-shelf : ShelfOrNone ss s
  pub mark-one : m ≢ 0 → m ≡ 1
  pub mark-port : m ≢ 0 → kind ≡ port
  pub mark-full : m ≢ 0 → v ≢ 0

pub stock-true : (top : ℕ) (ss : List Slot) (kind v s m : ℕ) → stock_sound top ss kind v s m ≡ true → StockFits top ss kind v s m
unfolding stock_sound transport_empty source_sound mark_sound
stock-true top ss kind v s m e =
    let rest = all_rest _ _ (all_rest _ _ e) in
    let sourced : s ≢ 0 → all_of (differ v 0 ∷ eqb (kind_of ss s) storage ∷ []) ≡ true = unless-true s 0 _ (all_first _ _ rest) in
    let marked : m ≢ 0 → all_of (eqb m 1 ∷ eqb kind port ∷ differ v 0 ∷ []) ≡ true = unless-true m 0 _ (all_first _ _ (all_rest _ _ rest)) in
    record {
      small = leb-true v top (all_first _ _ e);
      transport-empty = λ k. eqb-true v 0 (if-true kind transport _ (all_first _ _ (all_rest _ _ e)) k);
      source-full = λ n. differ-true v 0 (all_first _ _ (sourced n));
      source-shelf = λ n. eqb-true (kind_of ss s) storage (all_first _ _ (all_rest _ _ (sourced n)));
      mark-one = λ n. eqb-true m 1 (all_first _ _ (marked n));
      mark-port = λ n. eqb-true kind port (all_first _ _ (all_rest _ _ (marked n)));
      mark-full = λ n. differ-true v 0 (all_first _ _ (all_rest _ _ (all_rest _ _ (marked n))));
    }

pub stock-of : (top : ℕ) (ss : List Slot) (kind v s m : ℕ) → StockFits top ss kind v s m → stock_sound top ss kind v s m ≡ true
unfolding stock_sound transport_empty source_sound mark_sound
stock-of top ss kind v s m f =
    all_cons _ _ (le-leb v top f.small)
    (all_cons _ _ (if-of kind transport _ (λ k. eq-eqb v 0 (f.transport-empty k)))
    (all_cons _ _ (unless-of s 0 _ (λ n. all_cons _ _ (ne-differ v 0 (f.source-full n)) (all_cons _ _ (eq-eqb _ storage (f.source-shelf n)) all_nil)))
    (all_cons _ _
    (unless-of m 0 _
    (λ n.
    all_cons _ _ (eq-eqb m 1 (f.mark-one n))
    (all_cons _ _ (eq-eqb kind port (f.mark-port n)) (all_cons _ _ (ne-differ v 0 (f.mark-full n)) all_nil))))
    all_nil)))

-- who holds an element under which id, where u holds the unit
pub record HoldFits (u h i : ℕ) : Type 0 where
  pub small : h ≤ hosts
  pub none-id : h ≡ 0 → i ≡ 0
  pub unit-own : u ≢ 0 → h ≢ 0 → h ≡ u

pub hold-true : (u h i : ℕ) → hold_sound u h i ≡ true → HoldFits u h i
unfolding hold_sound
hold-true u h i e =
    record {
      small = leb-true h hosts (all_first _ _ e);
      none-id = λ z. eqb-true i 0 (if-true h 0 _ (all_first _ _ (all_rest _ _ e)) z);
      unit-own = λ n m.
          any-cases _ _ (all_first _ _ (all_rest _ _ (all_rest _ _ e))) (λ z. absurd (n (eqb-true u 0 z)))
          λ d. any-cases _ _ d (λ z. absurd (m (eqb-true h 0 z))) λ c. any-cases _ _ c (λ z. eqb-true h u z) λ b. absurd (any-nil b);
    }

pub hold-of : (u h i : ℕ) → HoldFits u h i → hold_sound u h i ≡ true
unfolding hold_sound
hold-of u h i f =
    all_cons _ _ (le-leb h hosts f.small)
    (all_cons _ _ (if-of h 0 _ (λ z. eq-eqb i 0 (f.none-id z)))
    (all_cons _ _
    (either u 0 (λ z. any-by-first _ _ (eq-eqb u 0 z))
    λ n. either h 0 (λ z. any-by-rest _ _ (any-by-first _ _ (eq-eqb h 0 z)))
    λ m. any-by-rest _ _ (any-by-rest _ _ (any-by-first _ _ (eq-eqb h u (f.unit-own n m)))))
    all_nil))

-- ---- the ranges

pub record RangeFits (r : Range) : Type 0 where
  pub none : r.count ≡ 0 → r.first ≡ 0
  pub low : r.count ≢ 0 → 1 ≤ r.first
  pub high : r.count ≢ 0 → behind r ≤ 65536

pub range-true : (r : Range) → range_sound r ≡ true → RangeFits r
unfolding range_sound when
range-true r e = go (eqb r.count 0) refl e
  where
    go : (b : Bool) → eqb r.count 0 ≡ b → when b (eqb r.first 0) (all_of (leb 1 r.first ∷ leb (behind r) 65536 ∷ [])) ≡ true → RangeFits r
    go true z d = let c = eqb-true _ _ z in record { none = λ _. eqb-true _ _ d; low = λ n. absurd (n c); high = λ n. absurd (n c) }
    go false z d =
        record {
          none = λ c. absurd (eqb-false _ _ z c);
          low = λ _. leb-true _ _ (all_first _ _ d);
          high = λ _. leb-true _ _ (all_first _ _ (all_rest _ _ d));
        }

-- the ranges of a list, by their index: each is sound, and each two apart
clear_at : (r d : Range) (ss : List Range) → clear r ss ≡ true → (k : ℕ) → k < length ss → no_overlap r (get_or ss k d) ≡ true
unfolding clear when
clear_at r d [] e k h = absurd (omega arith)
clear_at r d (s ∷ ss) e zero h = go (no_overlap r s) e
  where
    go : (b : Bool) → when b (clear r ss) false ≡ true → b ≡ true
    go true _ = refl
    go false e = e
clear_at r d (s ∷ ss) e (suc k) h = clear_at r d ss (go (no_overlap r s) e) k (omega arith)
  where
    go : (b : Bool) → when b (clear r ss) false ≡ true → clear r ss ≡ true
    go true e = e
    go false e = cc

clear_of : (r d : Range) (ss : List Range) → ((k : ℕ) → k < length ss → no_overlap r (get_or ss k d) ≡ true) → clear r ss ≡ true
unfolding clear when
clear_of r d [] f = refl
clear_of r d (s ∷ ss) f = rw (f 0 (omega arith)) (clear_of r d ss (λ k h. f (suc k) (omega arith)))

ranges-at : (d : Range) (rs : List Range) → ranges_sound rs ≡ true → (k : ℕ) → k < length rs → range_sound (get_or rs k d) ≡ true
unfolding ranges_sound
ranges-at d [] e k h = absurd (omega arith)
ranges-at d (r ∷ rs) e zero h = all_first _ _ e
ranges-at d (r ∷ rs) e (suc k) h = ranges-at d rs (all_first _ _ (all_rest _ _ (all_rest _ _ e))) k (omega arith)

ranges-pair : (d : Range) (rs : List Range) → ranges_sound rs ≡ true → (j k : ℕ) → j < k → k < length rs → no_overlap (get_or rs j d) (get_or rs k d) ≡ true
unfolding ranges_sound
ranges-pair d [] e j k l h = absurd (omega arith)
ranges-pair d (r ∷ rs) e j zero l h = absurd (omega arith)
ranges-pair d (r ∷ rs) e zero (suc k) l h = clear_at r d rs (all_first _ _ (all_rest _ _ e)) k (omega arith)
ranges-pair d (r ∷ rs) e (suc j) (suc k) l h = ranges-pair d rs (all_first _ _ (all_rest _ _ (all_rest _ _ e))) j k (omega arith) (omega arith)

ranges-of : (d : Range) (rs : List Range) → ((k : ℕ) → k < length rs → range_sound (get_or rs k d) ≡ true)
    → ((j k : ℕ) → j < k → k < length rs → no_overlap (get_or rs j d) (get_or rs k d) ≡ true) → ranges_sound rs ≡ true
unfolding ranges_sound
ranges-of d [] f g = refl
ranges-of d (r ∷ rs) f g =
    all_cons _ _ (f 0 (omega arith))
    (all_cons _ _ (clear_of r d rs (λ k h. g 0 (suc k) (omega arith) (omega arith)))
    (all_cons _ _ (ranges-of d rs (λ k h. f (suc k) (omega arith)) (λ j k l h. g (suc j) (suc k) (omega arith) (omega arith))) all_nil))

ranges-get : (head : List ℕ) (k : ℕ) → k < 4 → get_or (ranges head) k (range head 0) ≡ range head k
unfolding ranges
ranges-get head zero h = refl
ranges-get head (suc zero) h = refl
ranges-get head (suc (suc zero)) h = refl
ranges-get head (suc (suc (suc zero))) h = refl
ranges-get head (suc (suc (suc (suc k)))) h = absurd (omega arith)

ranges-four : (head : List ℕ) → length (ranges head) ≡ 4
unfolding ranges
ranges-four head = refl

-- ---- the head

pub record HeadFits (head : List ℕ) : Type 0 where
  pub length-is : length head ≡ head_size
  pub elements-some : 1 ≤ (range head 0).count + (range head 1).count + (range head 2).count + (range head 3).count
  pub elements-most : (range head 0).count + (range head 1).count + (range head 2).count + (range head 3).count ≤ 512
  pub transports-some : 1 ≤ (range head 0).count
  pub transports-most : (range head 0).count ≤ 127
  pub homes-some : 1 ≤ (range head 1).count + (range head 2).count
  pub range-sound : (k : ℕ) → k < 4 → range_sound (range head k) ≡ true
  pub ranges_apart : (j k : ℕ) → j < k → k < 4 → no_overlap (range head j) (range head k) ≡ true
  pub unit-small : unit head ≤ hosts
  pub senses : (h : ℕ) → 1 ≤ h → h ≤ hosts → SenseFits (key head h) (asc head h) (ascq head h)
  pub attentions : (h : ℕ) → 1 ≤ h → h ≤ hosts → AttentionFits (attention head h) (attentionq head h)

-- tests of the hosts 1 to 8
host-at : (f : ℕ → Bool) → below hosts (λ i. f (suc i)) ≡ true → (h : ℕ) → 1 ≤ h → h ≤ hosts → f h ≡ true
host-at f e zero l m = absurd (omega arith)
host-at f e (suc i) l m = below_at hosts (λ i. f (suc i)) e i (omega arith)

host-of : (f : ℕ → Bool) → ((h : ℕ) → 1 ≤ h → h ≤ hosts → f h ≡ true) → below hosts (λ i. f (suc i)) ≡ true
host-of f g = below_of hosts (λ i. f (suc i)) (λ i h. g (suc i) (omega arith) (omega arith))

pub head-true : (head : List ℕ) → head_sound head ≡ true → HeadFits head
unfolding head_sound counts_sound
head-true head e =
    let e₁ = all_rest _ _ e in
    let e₂ = all_rest _ _ e₁ in
    let e₃ = all_rest _ _ e₂ in
    let e₄ = all_rest _ _ e₃ in
    let counts = all_first _ _ e₁ in
    let four = ranges-four head in
    let d = range head 0 in
    let all : ranges_sound (ranges head) ≡ true = all_first _ _ e₂ in
    record {
      length-is = eqb-true _ _ (all_first _ _ e);
      elements-some = within_low _ _ _ (all_first _ _ counts);
      elements-most = within-high _ _ _ (all_first _ _ counts);
      transports-some = within_low _ _ _ (all_first _ _ (all_rest _ _ counts));
      transports-most = within-high _ _ _ (all_first _ _ (all_rest _ _ counts));
      homes-some = leb-true _ _ (all_first _ _ (all_rest _ _ (all_rest _ _ counts)));
      range-sound = λ k h. rw (ranges-get head k h) at (ranges-at d (ranges head) all k (omega arith));
      ranges_apart = λ j k l h.
          rw (ranges-get head j (omega arith), ranges-get head k h) at (ranges-pair d (ranges head) all j k l (omega arith));
      unit-small = leb-true _ _ (all_first _ _ e₃);
      senses = λ h l m. sense-true _ _ _ (host-at (λ h. sense_sound (key head h) (asc head h) (ascq head h)) (all_first _ _ e₄) h l m);
      attentions = λ h l m. attention-true _ _ (host-at (λ h. attention_sound (attention head h) (attentionq head h)) (all_first _ _ (all_rest _ _ e₄)) h l m);
    }

pub head-ranges : (head : List ℕ) → HeadFits head → ranges_sound (ranges head) ≡ true
head-ranges head f =
    let four = ranges-four head in
    ranges-of (range head 0) (ranges head) (λ k h. rw (ranges-get head k (omega arith)) (f.range-sound k (omega arith)))
    (λ j k l h. rw (ranges-get head j (omega arith), ranges-get head k (omega arith)) (f.ranges_apart j k l (omega arith)))

pub head_of : (head : List ℕ) → HeadFits head → head_sound head ≡ true
unfolding head_sound counts_sound
head_of head f =
    let four = ranges-four head in
    all_cons _ _ (eq-eqb _ _ f.length-is)
    (all_cons _ _
    (all_cons _ _ (within_of _ _ _ f.elements-some f.elements-most)
    (all_cons _ _ (within_of _ _ _ f.transports-some f.transports-most) (all_cons _ _ (le-leb _ _ f.homes-some) all_nil)))
    (all_cons _ _
    (head-ranges head f)
    (all_cons _ _ (le-leb _ _ f.unit-small)
    (all_cons _ _ (host-of (λ h. sense_sound (key head h) (asc head h) (ascq head h)) (λ h l m. sense-of _ _ _ (f.senses h l m)))
    (all_cons _ _ (host-of (λ h. attention_sound (attention head h) (attentionq head h)) (λ h l m. attention-of _ _ (f.attentions h l m))) all_nil)))))

-- ---- the labels: V is `volumes tags`

pub record LabelsFit (tags blank : List ℕ) : Type 0 where
  pub volumes-most : volumes tags ≤ 512
  pub tags-length : length tags ≡ tag_size * volumes tags
  pub blank-length : length blank ≡ tag_size

pub labels-true : (tags blank : List ℕ) → labels_sound tags blank ≡ true → LabelsFit tags blank
unfolding labels_sound
labels-true tags blank e =
    record {
      volumes-most = leb-true _ _ (all_first _ _ e);
      tags-length = eqb-true _ _ (all_first _ _ (all_rest _ _ e));
      blank-length = eqb-true _ _ (all_first _ _ (all_rest _ _ (all_rest _ _ e)));
    }

pub labels-of : (tags blank : List ℕ) → LabelsFit tags blank → labels_sound tags blank ≡ true
unfolding labels_sound
labels-of tags blank f =
    all_cons _ _ (le-leb _ _ f.volumes-most)
    (all_cons _ _ (eq-eqb _ _ f.tags-length) (all_cons _ _ (eq-eqb _ _ f.blank-length) all_nil))

-- ---- the generations of V volumes

pub record GenerationsFit (top : ℕ) (generations : List ℕ) : Type 0 where
  pub length-is : length generations ≡ top
  pub each_in : (i : ℕ) → i < top → within 1 most_generations (byte generations i) ≡ true

generations-true : (top : ℕ) (generations : List ℕ) → generations_sound top generations ≡ true → GenerationsFit top generations
unfolding generations_sound
generations-true top generations e =
    record {
      length-is = eqb-true _ _ (all_first _ _ e);
      each_in = below_at top (λ i. within 1 most_generations (byte generations i)) (all_first _ _ (all_rest _ _ e));
    }

generations-of : (top : ℕ) (generations : List ℕ) → GenerationsFit top generations → generations_sound top generations ≡ true
unfolding generations_sound
generations-of top generations f = all_cons _ _ (eq-eqb _ _ f.length-is) (all_cons _ _ (below_of top _ f.each_in) all_nil)

-- ---- the tables beside the head and the elements

pub record RestFits (r : Rest) : Type 0 where
  pub labels-fit : LabelsFit r.tags r.blank
  pub generations-fit : GenerationsFit (volumes r.tags) r.generations
  pub search-fits : search_sound r.search ≡ true

pub rest-true : (r : Rest) → rest_sound r ≡ true → RestFits r
unfolding rest_sound
rest-true r e =
    let e₁ = all_rest _ _ e in
    record {
      labels-fit = labels-true _ _ (all_first _ _ e);
      generations-fit = generations-true _ _ (all_first _ _ e₁);
      search-fits = all_first _ _ (all_rest _ _ e₁);
    }

pub rest_of : (r : Rest) → RestFits r → rest_sound r ≡ true
unfolding rest_sound
rest_of r f = all_cons _ _ (labels-of _ _ f.labels-fit) (all_cons _ _ (generations-of _ _ f.generations-fit) (all_cons _ _ f.search-fits all_nil))

-- with another search
pub rest-searched : (r : Rest) (search : List ℕ) → RestFits r → search_sound search ≡ true → RestFits (searching r search)
rest-searched r search f e = record { labels-fit = f.labels-fit; generations-fit = f.generations-fit; search-fits = e }

-- ---- the elements, where u holds the unit and top is the last volume number

pub record ElementsFit (ss : List Slot) (u top : ℕ) (es : List ℕ) : Type 0 where
  pub length-is : length es ≡ element_size * length ss
  pub stocks : (p : ℕ) → p < length ss → StockFits top ss (kind_at ss p) (volume es p) (source es p) (mark es p)
  pub holds : (p : ℕ) → p < length ss → HoldFits u (holder es p) (id es p)
  pub zeros : (p : ℕ) → p < length ss → zero_byte es p ≡ 0
  pub distinct : (p q : ℕ) → p < length ss → q < p → volume es p ≢ 0 → volume es q ≢ volume es p

pub once-true : (es : List ℕ) (p : ℕ) → once es p ≡ true → volume es p ≢ 0 → (q : ℕ) → q < p → volume es q ≢ volume es p
unfolding once
once-true es p e n q l =
    differ-true _ _ (below_at p (λ q. differ (volume es q) (volume es p)) (unless-true (volume es p) 0 _ e n) q l)

pub once-of : (es : List ℕ) (p : ℕ) → (volume es p ≢ 0 → (q : ℕ) → q < p → volume es q ≢ volume es p) → once es p ≡ true
unfolding once
once-of es p f = unless-of (volume es p) 0 _ (λ n. below_of p _ (λ q l. ne-differ _ _ (f n q l)))

pub elements-true : (ss : List Slot) (u top : ℕ) (es : List ℕ) → elements_sound ss u top es ≡ true → ElementsFit ss u top es
unfolding elements_sound
elements-true ss u top es e =
    let n = length ss in
    let e₁ = all_rest _ _ e in
    let e₂ = all_rest _ _ e₁ in
    let e₃ = all_rest _ _ e₂ in
    let e₄ = all_rest _ _ e₃ in
    record {
      length-is = eqb-true _ _ (all_first _ _ e);
      stocks = λ p h.
          stock-true top ss _ _ _ _ (below_at n (λ p. stock_sound top ss (kind_at ss p) (volume es p) (source es p) (mark es p)) (all_first _ _ e₁) p h);
      holds = λ p h. hold-true u _ _ (below_at n (λ p. hold_sound u (holder es p) (id es p)) (all_first _ _ e₂) p h);
      zeros = λ p h. eqb-true _ _ (below_at n (λ p. eqb (zero_byte es p) 0) (all_first _ _ e₃) p h);
      distinct = λ p q h l z. once-true es p (below_at n (once es) (all_first _ _ e₄) p h) z q l;
    }

pub elements-of : (ss : List Slot) (u top : ℕ) (es : List ℕ) → ElementsFit ss u top es → elements_sound ss u top es ≡ true
unfolding elements_sound
elements-of ss u top es f =
    let n = length ss in
    all_cons _ _ (eq-eqb _ _ f.length-is)
    (all_cons _ _ (below_of n _ (λ p h. stock-of top ss _ _ _ _ (f.stocks p h)))
    (all_cons _ _ (below_of n _ (λ p h. hold-of u _ _ (f.holds p h)))
    (all_cons _ _ (below_of n _ (λ p h. eq-eqb _ _ (f.zeros p h)))
    (all_cons _ _ (below_of n _ (λ p h. once-of es p (λ z q l. f.distinct p q h l z))) all_nil))))

-- no two places have the same volume
pub volumes-apart : (ss : List Slot) (u top : ℕ) (es : List ℕ) → ElementsFit ss u top es → (p q : ℕ) → p < length ss → q < length ss
    → p ≢ q → volume es p ≢ 0 → volume es p ≢ volume es q
volumes-apart ss u top es f p q i j n z e = go (ltb q p) refl
  where
    go : (b : Bool) → ltb q p ≡ b → ⊥
    go true x = f.distinct p q i (ltb-true q p x) z (sym e)
    go false x = let y = ltb-false q p x in f.distinct q p j (omega arith) (omega arith) e

-- ---- the drives

pub record DrivesFit (t : Tables) (drives : Range) : Type 0 where
  pub masks-length : length t.rest.masks ≡ drives.count
  pub each-suited : (k : ℕ) → k < drives.count → suited t (drives.first + k) ≡ true

pub drives-true : (t : Tables) (drives : Range) → drives_sound t drives ≡ true → DrivesFit t drives
unfolding drives_sound
drives-true t drives e =
    record {
      masks-length = eqb-true _ _ (all_first _ _ e);
      each-suited = below_at drives.count (λ k. suited t (drives.first + k)) (all_first _ _ (all_rest _ _ e));
    }

drives-of : (t : Tables) (drives : Range) → DrivesFit t drives → drives_sound t drives ≡ true
unfolding drives_sound
drives-of t drives f = all_cons _ _ (eq-eqb _ _ f.masks-length) (all_cons _ _ (below_of drives.count _ f.each-suited) all_nil)

-- ---- the whole

pub record Sound (t : Tables) : Type 0 where
  pub head-fits : HeadFits t.head
  pub rest-fits : RestFits t.rest
  pub elements-fit : ElementsFit (roster t.head) (unit t.head) (volumes t.rest.tags) t.elements
  pub panel-true : panel t.head ≡ empty_shelves (roster t.head) t.elements
  pub drives-fit : DrivesFit t (range t.head 3)

pub sound-true : (t : Tables) → sound t ≡ true → Sound t
unfolding sound panel_sound
sound-true t e =
    let e₁ = all_rest _ _ e in
    let e₂ = all_rest _ _ e₁ in
    let e₃ = all_rest _ _ e₂ in
    record {
      head-fits = head-true _ (all_first _ _ e);
      rest-fits = rest-true _ (all_first _ _ e₁);
      elements-fit = elements-true _ _ _ _ (all_first _ _ e₂);
      panel-true = eqb-true _ _ (all_first _ _ e₃);
      drives-fit = drives-true t _ (all_first _ _ (all_rest _ _ e₃));
    }

pub sound-of : (t : Tables) → Sound t → sound t ≡ true
unfolding sound panel_sound
sound-of t s =
    all_cons _ _ (head_of _ s.head-fits)
    (all_cons _ _ (rest_of _ s.rest-fits)
    (all_cons _ _ (elements-of _ _ _ _ s.elements-fit)
    (all_cons _ _ (eq-eqb _ _ s.panel-true) (all_cons _ _ (drives-of t _ s.drives-fit) all_nil))))

-- ---- how many elements

pub elements-length : (t : Tables) → Sound t → length t.elements ≡ element_size * length (roster t.head)
elements-length t s = s.elements-fit.length-is

pub places_is : (t : Tables) → Sound t → places t.elements ≡ length (roster t.head)
unfolding places
places_is t s = omega (arith, elements-length t s)
