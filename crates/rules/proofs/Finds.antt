-- A search goes on: what it tells rises, what is told and what is then left is all that there was, and with room for one descriptor each call tells one.
-- Assumes nothing.
use Prim.Native.Nat.{ℕ, zero, suc, ◌+◌, ◌*◌, ◌-◌, ◌≤◌, ◌<◌}
use native.Mathlib.Omega.{arith}
use mathlib.Core.Path.{◌≡◌, refl, sym, ap, ◌∙◌}
use mathlib.Core.Bool.{Bool, true, false}
use mathlib.Core.List.{List, [], ◌∷◌, ◌++◌, map}
use lib.ListN.{length, take, drop, length-append, length-take}
use lib.Seq.{take-take, length-take-le}
use lib.Dec.{eqb, leb, T}
use borrow.Author.Tests.{leb-true, le-leb, lt-leb}
use Rattle.rules.specs.Choice.{when, all_of, any_of, differ}
use Rattle.rules.specs.Bytes.{byte, word, three, put}
use Rattle.rules.specs.Tables.{Tables, searching, hosts, tag_size, search_size, template_size, search_type_at, action_at, least_at, greatest_at, next_at, next_address, action, search_type, least, greatest, volume, Sense, GoOn, in_head, in_search, change, changes}
use Rattle.rules.specs.Roster.{Slot, Range, ranges, sorted, roster}
use Rattle.rules.specs.Sound.{sound}
use Rattle.rules.specs.Listing.{with_tags, type_code, keep, of_type, at_or_above, chosen, chosen_of, label, front, four_zeros, descriptor, page_header, page, pages, pages_of, joined, fitting, wholes}
use Rattle.rules.specs.Search.{found, found_by, told_by, behind_all, volume_matches, label_matches, in_range, agrees_from}
use Rattle.rules.proofs.Ladder.{on, never, when_true, when_false, all_first, all_rest}
use Rattle.rules.proofs.Ascending.{Rising, rising-lower, roster-rises, ranges-sound}
use Rattle.rules.proofs.Header.{rising-keep, rising-take, chosen-rises, descriptors-found}
use Rattle.rules.proofs.Places.{roster-same}
use Rattle.rules.proofs.HeadFields.{sensed-else}
use Rattle.rules.proofs.Soundness.{sound-true}
use Rattle.rules.proofs.KeepSearch.{search-length, gone-next, gone-else}

-- ---- what is found rises from the next address on

-- elements kept by a test that only those from b on pass
rising-from : (a b : ℕ) (f : Slot → Bool) (ss : List Slot) → ((s : Slot) → f s ≡ true → b ≤ s.address) → Rising a ss → Rising b (keep f ss)
unfolding keep
rising-from a b f [] l r = tt
rising-from a b f (s ∷ ss) l r =
    on (Rising b) (f s) (λ e. (l s e, rising-keep (suc s.address) f ss r.1)) (λ e. rising-from (suc s.address) b f ss l r.1)

found_from : (t : Tables) (s : Slot) → found t s ≡ true → next_address t.rest.search ≤ s.address
unfolding found at_or_above
found_from t s e = leb-true _ _ (all_first _ _ (all_rest _ _ (all_rest _ _ e)))

-- the matches that may still be told
abbrev pub matches : Tables → List Slot
matches t = keep (found t) (roster t.head)

matches-rise : (t : Tables) → sound t ≡ true → Rising (next_address t.rest.search) (matches t)
matches-rise t e = rising-from 0 _ (found t) (roster t.head) (found_from t) (roster-rises t.head (ranges-sound t e))

pub told-rises : (t : Tables) (block : List ℕ) → sound t ≡ true → Rising (next_address t.rest.search) (told_by t block)
unfolding told_by found_by
told-rises t block e =
    rising-take _ (wholes (word block 7 - 8) (pages_of (with_tags block) t (chosen_of (matches t) block))) (chosen_of (matches t) block)
    (chosen-rises _ (matches t) block (matches-rise t e))

-- ---- pieces returned whole

wholes-most : (room : ℕ) (ps : List (List ℕ)) → wholes room ps ≤ length ps
unfolding wholes
wholes-most room [] = omega arith
wholes-most room (p ∷ ps) =
    let i = wholes-most (room - length p) ps in
    on (λ (n : ℕ). n ≤ suc (length ps)) (leb (length p) room) (λ _. omega arith) (λ _. omega arith)

pub fitting-whole : (room : ℕ) (ps : List (List ℕ)) → fitting room ps ≡ joined (take (wholes room ps) ps)
unfolding fitting wholes joined
fitting-whole room [] = refl
fitting-whole room (p ∷ ps) = go (leb (length p) room) (fitting-whole (room - length p) ps)
  where
    go : (b : Bool) → fitting (room - length p) ps ≡ joined (take (wholes (room - length p) ps) ps)
        → when b (p ++ fitting (room - length p) ps) [] ≡ joined (take (when b (suc (wholes (room - length p) ps)) 0) (p ∷ ps))
    go true i = unfold when in ap (λ (x : List ℕ). p ++ x) i
    go false i = unfold when in refl

pub told-count : (t : Tables) (block : List ℕ) → length (told_by t block) ≡ wholes (word block 7 - 8) (pages_of (with_tags block) t (found_by t block))
unfolding told_by
told-count t block =
    let ps = pages_of (with_tags block) t (found_by t block) in
    length-take-le (wholes (word block 7 - 8) ps) (found_by t block) (omega (arith, wholes-most (word block 7 - 8) ps, descriptors-found (with_tags block) t block))

-- ---- how long a piece is

-- each piece has at least one byte, and at most 60
abbrev Sized : List (List ℕ) → Type 0
Sized [] = T true
Sized (p ∷ ps) = ((1 ≤ length p) × (length p ≤ 60)) × Sized ps

sized-append : (ps qs : List (List ℕ)) → Sized ps → Sized qs → Sized (ps ++ qs)
sized-append [] qs x y = y
sized-append (p ∷ ps) qs x y = (x.0, sized-append ps qs x.1 y)

module _ (tagged : Bool) (t : Tables) (b : length t.rest.blank ≡ tag_size) where
  label-short : (v : ℕ) → length (label t.rest.tags t.rest.blank v) ≤ 36
  unfolding label
  label-short v =
      on (λ (xs : List ℕ). length xs ≤ 36) (eqb v 0) (λ _. omega arith) (λ _. omega (arith, length-take tag_size (drop (tag_size * (v - 1)) t.rest.tags)))

  descriptor-sized : (s : Slot) → (1 ≤ length (descriptor tagged t s)) × (length (descriptor tagged t s) ≤ 52)
  unfolding descriptor front
  descriptor-sized s =
      let v = volume t.elements s.place in
      let l = label t.rest.tags t.rest.blank v in
      let x : length (when tagged l []) ≤ 36 = on (λ (xs : List ℕ). length xs ≤ 36) tagged (λ _. label-short v) (λ _. omega arith) in
      let n = length-append (when tagged l []) four_zeros in
      (omega arith, omega arith)

  rest-sized : (ss : List Slot) → Sized (map (descriptor tagged t) ss)
  rest-sized [] = tt
  rest-sized (s ∷ ss) = let d = descriptor-sized s in ((d.0, omega (arith, d.1)), rest-sized ss)

  page-sized : (kind : ℕ) (ss : List Slot) → Sized (page tagged t kind ss)
  unfolding page page_header three
  page-sized kind [] = tt
  page-sized kind (s ∷ ss) =
      let d = descriptor-sized s in
      let n = length-append (page_header tagged kind (suc (length ss))) (descriptor tagged t s) in
      ((omega (arith, d.0), omega (arith, d.1)), rest-sized ss)

  pages-sized : (rs : List Range) (ss : List Slot) → Sized (pages tagged t rs ss)
  unfolding pages
  pages-sized [] ss = tt
  pages-sized (r ∷ rs) ss = sized-append (page tagged t r.kind (keep (of_type r.kind) ss)) (pages tagged t rs ss) (page-sized r.kind _) (pages-sized rs ss)

wholes-some : (room : ℕ) (ps : List (List ℕ)) → Sized ps → 60 ≤ room → 1 ≤ length ps → 1 ≤ wholes room ps
unfolding wholes
wholes-some room [] z h l = absurd (omega arith)
wholes-some room (p ∷ ps) z h l =
    let e : leb (length p) room ≡ true = le-leb (length p) room (omega (arith, z.0.1)) in
    on (λ (n : ℕ). 1 ≤ n) (leb (length p) room) (λ _. omega arith) (λ f. absurd (never (sym f ∙ e)))

wholes-none : (ps : List (List ℕ)) → Sized ps → wholes 0 ps ≡ 0
unfolding wholes
wholes-none [] z = refl
wholes-none (p ∷ ps) z = when_false (leb (length p) 0) _ _ (lt-leb (length p) 0 (omega (arith, z.0.0)))

blank-is : (t : Tables) → sound t ≡ true → length t.rest.blank ≡ tag_size
blank-is t e = (sound-true t e).rest-fits.labels-fit.blank-length

-- fewer than 8 bytes tell nothing
pub none-below-8 : (t : Tables) (block : List ℕ) → sound t ≡ true → word block 7 < 8 → told_by t block ≡ []
unfolding told_by pages_of
none-below-8 t block e h =
    let z : word block 7 - 8 ≡ 0 = omega arith in
    rw z (rw (wholes-none (pages (with_tags block) t (sorted (ranges t.head)) (found_by t block)) (pages-sized (with_tags block) t (blank-is t e) _ _)) refl)

-- ---- what is told, and what is left

behind-least : (a : ℕ) (ss : List Slot) → Rising a ss → a ≤ behind_all a ss
unfolding behind_all
behind-least a [] r = omega arith
behind-least a (s ∷ ss) r = let i = behind-least (suc s.address) ss r.1 in omega (arith, r.0)

keep_all : (a : ℕ) (ss : List Slot) → Rising a ss → keep (at_or_above a) ss ≡ ss
unfolding keep at_or_above
keep_all a [] r = refl
keep_all a (s ∷ ss) r =
    when_true _ _ _ (le-leb _ _ r.0) ∙ ap (λ (x : List Slot). s ∷ x) (keep_all a ss (rising-lower a (suc s.address) ss (omega (arith, r.0)) r.1))

skip_first : (b : ℕ) (s : Slot) (ss : List Slot) → s.address < b → keep (at_or_above b) (s ∷ ss) ≡ keep (at_or_above b) ss
unfolding keep at_or_above
skip_first b s ss h = when_false (leb b s.address) _ _ (lt-leb b s.address h)

left_over : (a k : ℕ) (ss : List Slot) → Rising a ss → take k ss ++ keep (at_or_above (behind_all a (take k ss))) ss ≡ ss
unfolding behind_all
left_over a zero ss r = keep_all a ss r
left_over a (suc k) [] r = unfold keep in refl
left_over a (suc k) (s ∷ ss) r =
    let b = behind_all (suc s.address) (take k ss) in
    let l = behind-least (suc s.address) (take k ss) (rising-take (suc s.address) k ss r.1) in
    let skip = skip_first b s ss (omega arith) in
    ap (λ (x : List Slot). s ∷ x) (ap (λ (x : List Slot). take k ss ++ x) skip ∙ left_over (suc s.address) k ss r.1)

keep-both : (f g h : Slot → Bool) (ss : List Slot) → ((s : Slot) → h s ≡ when (g s) (f s) false) → keep h ss ≡ keep g (keep f ss)
unfolding keep
keep-both f g h [] e = refl
keep-both f g h (s ∷ ss) e = go (f s) (g s) (e s) refl refl (keep-both f g h ss e)
  where
    go : (x y : Bool) → h s ≡ when y x false → f s ≡ x → g s ≡ y → keep h ss ≡ keep g (keep f ss)
        → when (h s) (s ∷ keep h ss) (keep h ss) ≡ keep g (when x (s ∷ keep f ss) (keep f ss))
    go true true i j k l = rw i (unfold when keep in rw (k, l) refl)
    go true false i j k l = rw i (unfold when keep in rw (k, l) refl)
    go false true i j k l = rw i (unfold when in l)
    go false false i j k l = rw i (unfold when in l)

-- a test that is passed less often
narrower : (a b c x y : Bool) → (x ≡ true → y ≡ true) → all_of (a ∷ b ∷ x ∷ c ∷ []) ≡ when x (all_of (a ∷ b ∷ y ∷ c ∷ [])) false
unfolding all_of when
narrower true true c true y e = rw (e refl) refl
narrower true true c false y e = refl
narrower true false c true y e = refl
narrower true false c false y e = refl
narrower false b c true y e = refl
narrower false b c false y e = refl

-- ---- after a call that went on

-- the next address then
abbrev pub gone_to : Tables → List ℕ → ℕ
gone_to t block = behind_all (next_address t.rest.search) (told_by t block)

-- the tables that it leaves
abbrev pub gone : Tables → ℕ → List ℕ → Tables
gone t h block = changes (Sense h 0 0 0 ∷ GoOn (gone_to t block) ∷ []) t

module _ (t : Tables) (ok : sound t ≡ true) (h : ℕ) (l : 1 ≤ h) (m : h ≤ hosts) (block : List ℕ) where
  gone-rest : (gone t h block).rest ≡ searching t.rest (put t.rest.search next_at (three (gone_to t block)))
  unfolding changes change in_search
  gone-rest = refl

  gone-elements : (gone t h block).elements ≡ t.elements
  unfolding changes change
  gone-elements = refl

  gone-roster : roster (gone t h block).head ≡ roster t.head
  unfolding changes change in_head
  gone-roster = roster-same t.head _ (λ j i. sensed-else t.head h 0 0 0 j (λ n x. omega arith))

  long : length t.rest.search ≡ search_size
  long = search-length _ (sound-true t ok).rest-fits.search-fits

  pub gone-address : next_address (gone t h block).rest.search ≡ gone_to t block
  gone-address = rw gone-rest (gone-next t.rest.search long (gone_to t block))

  pub gone-before : (j : ℕ) → j < next_at → byte (gone t h block).rest.search j ≡ byte t.rest.search j
  gone-before j i = rw gone-rest (gone-else t.rest.search long (gone_to t block) j i)

  -- template, type, action and range are as they were
  agrees-gone : (shown : List ℕ) (n i : ℕ) → i + n ≤ next_at → agrees_from (gone t h block).rest.search shown n i ≡ agrees_from t.rest.search shown n i
  unfolding agrees_from
  agrees-gone shown zero i b = refl
  agrees-gone shown (suc n) i b = rw (gone-before i (omega arith), agrees-gone shown n (suc i) (omega arith)) refl

  action-gone : action (gone t h block).rest.search ≡ action t.rest.search
  unfolding action
  action-gone = gone-before action_at (omega arith)

  type-gone : search_type (gone t h block).rest.search ≡ search_type t.rest.search
  unfolding search_type
  type-gone = gone-before search_type_at (omega arith)

  least-gone : least (gone t h block).rest.search ≡ least t.rest.search
  unfolding least word
  least-gone = rw (gone-before least_at (omega arith), gone-before (least_at + 1) (omega arith)) refl

  greatest-gone : greatest (gone t h block).rest.search ≡ greatest t.rest.search
  unfolding greatest word
  greatest-gone = rw (gone-before greatest_at (omega arith), gone-before (greatest_at + 1) (omega arith)) refl

  label-gone : (shown : List ℕ) → label_matches (gone t h block).rest.search shown ≡ label_matches t.rest.search shown
  unfolding label_matches in_range
  label-gone shown = rw (agrees-gone shown template_size 0 (omega arith), action-gone, least-gone, greatest-gone) refl

  labels-gone : (v : ℕ) → label (gone t h block).rest.tags (gone t h block).rest.blank v ≡ label t.rest.tags t.rest.blank v
  labels-gone v = rw gone-rest refl

  volume-gone : (v : ℕ) → volume_matches (gone t h block) v ≡ volume_matches t v
  unfolding volume_matches
  volume-gone v = rw (labels-gone v, label-gone (label t.rest.tags t.rest.blank v)) refl

  later : (s : Slot) → at_or_above (gone_to t block) s ≡ true → at_or_above (next_address t.rest.search) s ≡ true
  unfolding at_or_above
  later s e =
      let x = leb-true (gone_to t block) s.address e in
      le-leb (next_address t.rest.search) s.address (omega (arith, behind-least _ (told_by t block) (told-rises t block ok)))

  -- an element is found then if it was found before, and lies behind all that was told
  found-gone : (s : Slot) → found (gone t h block) s ≡ when (at_or_above (gone_to t block) s) (found t s) false
  unfolding found
  found-gone s =
      let a = differ (action t.rest.search) 0 in
      let b = of_type (search_type t.rest.search) s in
      let c = volume_matches t (volume t.elements s.place) in
      let v = volume-gone (volume t.elements s.place) in
      let e : found (gone t h block) s ≡ all_of (a ∷ b ∷ at_or_above (gone_to t block) s ∷ c ∷ []) = cc (action-gone, type-gone, gone-address, gone-elements, v) in
      e ∙ narrower a b c (at_or_above (gone_to t block) s) (at_or_above (next_address t.rest.search) s) (later s)

  matches-gone : matches (gone t h block) ≡ keep (at_or_above (gone_to t block)) (matches t)
  matches-gone = rw gone-roster (keep-both (found t) (at_or_above (gone_to t block)) (found (gone t h block)) (roster t.head) found-gone)

  -- a block that asks for all types from address 0 on
  module _ (all : type_code block ≡ 0) (start : word block 2 ≡ 0) where
    keep-every : (f : Slot → Bool) (ss : List Slot) → ((s : Slot) → f s ≡ true) → keep f ss ≡ ss
    unfolding keep
    keep-every f [] e = refl
    keep-every f (s ∷ ss) e = when_true (f s) _ _ (e s) ∙ ap (λ (x : List Slot). s ∷ x) (keep-every f ss e)

    chosen-all : found_by t block ≡ take (word block 4) (matches t)
    unfolding found_by chosen_of chosen
    chosen-all =
        rw (all, start)
        (ap (take (word block 4))
        (ap (keep (at_or_above 0)) (keep-every (of_type 0) (matches t) (λ s. unfold of_type any_of when in refl))
        ∙ keep-every (at_or_above 0) (matches t) (λ s. unfold at_or_above in lib.Dec.leb-zero s.address)))

    fewest : wholes (word block 7 - 8) (pages_of (with_tags block) t (found_by t block)) ≤ word block 4
    fewest =
        omega (
          arith,
          wholes-most (word block 7 - 8) (pages_of (with_tags block) t (found_by t block)),
          descriptors-found (with_tags block) t block,
          ap length chosen-all,
          length-take (word block 4) (matches t),
        )

    told-first : told_by t block ≡ take (wholes (word block 7 - 8) (pages_of (with_tags block) t (found_by t block))) (matches t)
    unfolding told_by
    told-first =
        let w = wholes (word block 7 - 8) (pages_of (with_tags block) t (found_by t block)) in
        ap (take w) chosen-all ∙ take-take w (word block 4) (matches t) fewest

    -- what is told and what is left is all that there was
    pub told-and-left : told_by t block ++ matches (gone t h block) ≡ matches t
    told-and-left =
        let w = wholes (word block 7 - 8) (pages_of (with_tags block) t (found_by t block)) in
        rw (matches-gone, told-first) (left_over (next_address t.rest.search) w (matches t) (matches-rise t ok))

    -- with room for a descriptor, one is told where there is one
    pub told-some : 1 ≤ word block 4 → 68 ≤ word block 7 → 1 ≤ length (matches t) → 1 ≤ length (told_by t block)
    told-some most room some =
        let ps = pages_of (with_tags block) t (found_by t block) in
        let n = descriptors-found (with_tags block) t block in
        let k = ap length chosen-all ∙ length-take (word block 4) (matches t) in
        let sized : Sized ps = unfold pages_of in pages-sized (with_tags block) t (blank-is t ok) (sorted (ranges t.head)) (found_by t block) in
        let w = wholes-some (word block 7 - 8) ps sized (omega arith) (omega arith) in
        omega (arith, told-count t block)
