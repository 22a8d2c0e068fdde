-- "Counts are never cut to the allocation": whatever the allocation, the header tells of all elements chosen and of all their pages, and what is
-- returned is the beginning of the whole answer, up to the end of a descriptor. Assumes nothing.
use Prim.Native.Nat.{ℕ, zero, suc, ◌+◌, ◌-◌, ◌≤◌, ◌<◌}
use native.Mathlib.Omega.{arith}
use mathlib.Core.Path.{◌≡◌, refl, sym, ap, ◌∙◌}
use mathlib.Core.Logic.{◌⊎◌, inl, inr, ⊎_elim}
use mathlib.Core.List.Memᴰ
use mathlib.Core.List.{List, [], ◌∷◌, ◌++◌, map, append_assoc, append-nil, Memᴰ}
use mathlib.Core.Bool.{Bool, true, false}
use lib.ListN.{length, take, length-append, length-map}
use lib.Seq.{take-append-add, take-append-le, length-take-le, take-take}
use lib.Dec.{leb, ltb, T}
use borrow.Author.Tests.{leb-true, leb-false, ltb-true, ltb-false, le-leb, lt-ltb, le-ltb}
use Rattle.rules.specs.Choice.{when, any_of}
use Rattle.rules.specs.Bytes.{byte, word, triple, three, cut}
use Rattle.rules.specs.Tables.{Tables}
use Rattle.rules.specs.Roster.{Slot, Range, range, ranges, slots, spread, insert, sorted, roster}
use Rattle.rules.specs.Ranges.{Each}
use Rattle.rules.specs.Listing.{type_code, keep, of_type, at_or_above, chosen, chosen_of, chosen_by, descriptor, page_header, page, pages, pages_of, joined, first_address, header, header_of, fitting, returned, listing}
use Rattle.rules.specs.Search.{found, found_by}
use Rattle.rules.proofs.Ladder.{on, when_true, when_false}
use Rattle.rules.proofs.Ascending.{each_map, sorted-each, Rising, rising-lower}

-- the whole answer: the header and all pages
unfoldable pub whole : ℕ → Bool → Tables → List Slot → List ℕ
whole code tagged t ss = header_of code ss (pages_of tagged t ss) ++ joined (pages_of tagged t ss)

-- the second begins with the first
abbrev pub Begins : List ℕ → List ℕ → Type 0
Begins xs ys = take (length xs) ys ≡ xs

begins-behind : (hs xs ys : List ℕ) → Begins xs ys → Begins (hs ++ xs) (hs ++ ys)
begins-behind hs xs ys b = rw (length-append hs xs, take-append-add hs ys (length xs), b)

-- ---- pieces that fit

fitting-begins : (room : ℕ) (ps : List (List ℕ)) → Begins (fitting room ps) (joined ps)
unfolding fitting joined
fitting-begins room [] = refl
fitting-begins room (p ∷ ps) =
    on (λ (x : List ℕ). Begins x (p ++ joined ps)) _
    (λ e. begins-behind p (fitting (room - length p) ps) (joined ps) (fitting-begins (room - length p) ps)) (λ e. refl)

fitting-grows : (room more : ℕ) (ps : List (List ℕ)) → room ≤ more → Begins (fitting room ps) (fitting more ps)
unfolding fitting
fitting-grows room more [] h = refl
fitting-grows room more (p ∷ ps) h =
    on (λ (x : List ℕ). Begins x (when (leb (length p) more) (p ++ fitting (more - length p) ps) [])) (leb (length p) room)
    (λ e. let l = leb-true (length p) room e in inside (le-leb (length p) more (omega arith)) (fitting-grows (room - length p) (more - length p) ps (omega arith)))
    (λ e. refl)
  where
    inside : leb (length p) more ≡ true → Begins (fitting (room - length p) ps) (fitting (more - length p) ps)
        → Begins (p ++ fitting (room - length p) ps) (when (leb (length p) more) (p ++ fitting (more - length p) ps) [])
    inside e b = rw (when_true _ (p ++ fitting (more - length p) ps) [] e) (begins-behind p _ _ b)

fitting-all : (room : ℕ) (ps : List (List ℕ)) → length (joined ps) ≤ room → fitting room ps ≡ joined ps
unfolding fitting joined
fitting-all room [] h = refl
fitting-all room (p ∷ ps) h =
    let n = length-append p (joined ps) in
    when_true (leb (length p) room) (p ++ fitting (room - length p) ps) [] (le-leb (length p) room (omega arith))
    ∙ ap (λ (x : List ℕ). p ++ x) (fitting-all (room - length p) ps (omega arith))

-- ---- the header

header-length : (code : ℕ) (ss : List Slot) (ps : List (List ℕ)) → length (header_of code ss ps) ≡ 8
unfolding header_of header three
header-length code ss ps = refl

pub record Tells (bytes : List ℕ) (ss : List Slot) (page_bytes : ℕ) : Type 0 where
  pub first : word bytes 0 ≡ first_address ss
  pub number : word bytes 2 ≡ length ss
  pub count : triple bytes 5 ≡ page_bytes

returned-tells : (code allocation : ℕ) (ss : List Slot) (ps : List (List ℕ)) → 8 ≤ allocation
    → Tells (returned allocation (header_of code ss ps) ps) ss (length (joined ps))
unfolding returned cut header_of header three word triple byte
returned-tells code allocation ss ps h =
    rw (when_false (ltb allocation 8) (take allocation (header_of code ss ps)) (header_of code ss ps ++ fitting (allocation - 8) ps) (le-ltb allocation 8 h))
    (record { first = omega arith; number = omega arith; count = omega arith })

-- ---- what is returned

returned-begins : (code allocation : ℕ) (ss : List Slot) (ps : List (List ℕ))
    → Begins (returned allocation (header_of code ss ps) ps) (header_of code ss ps ++ joined ps)
unfolding returned cut
returned-begins code allocation ss ps =
    on (λ (x : List ℕ). Begins x (header_of code ss ps ++ joined ps)) (ltb allocation 8)
    (λ e.
    let l = ltb-true allocation 8 e in
    let n = header-length code ss ps in
    rw (length-take-le allocation (header_of code ss ps) (omega arith)) (take-append-le allocation (header_of code ss ps) (joined ps) (omega arith)))
    (λ e. begins-behind (header_of code ss ps) (fitting (allocation - 8) ps) (joined ps) (fitting-begins (allocation - 8) ps))

returned-grows : (code allocation more : ℕ) (ss : List Slot) (ps : List (List ℕ)) → allocation ≤ more
    → Begins (returned allocation (header_of code ss ps) ps) (returned more (header_of code ss ps) ps)
unfolding returned cut
returned-grows code allocation more ss ps h =
    on (Begins _) (ltb more 8) (λ e. let l = ltb-true more 8 e in rw (short (omega arith)) (below_both l))
    (λ e. let l = ltb-false more 8 e in on (λ (x : List ℕ). Begins x (head ++ fitting (more - 8) ps)) (ltb allocation 8)
    (λ d. let k = ltb-true allocation 8 d in below_one (omega arith))
    (λ d. begins-behind head _ _ (fitting-grows (allocation - 8) (more - 8) ps (omega arith))))
  where
    head : List ℕ
    head = header_of code ss ps

    short : allocation < 8 → when (ltb allocation 8) (take allocation head) (head ++ fitting (allocation - 8) ps) ≡ take allocation head
    short l = when_true _ _ _ (lt-ltb allocation 8 l)

    length-is : (n : ℕ) → n < 8 → length (take n head) ≡ n
    length-is n l = length-take-le n head (omega (arith, header-length code ss ps))

    below_both : more < 8 → Begins (take allocation head) (take more head)
    below_both l = rw (length-is allocation (omega arith)) (take-take allocation more head h)

    below_one : allocation < 8 → Begins (take allocation head) (head ++ fitting (more - 8) ps)
    below_one l = rw (length-is allocation l) (take-append-le allocation head _ (omega (arith, header-length code ss ps)))

returned-all : (code allocation : ℕ) (ss : List Slot) (ps : List (List ℕ)) → length (header_of code ss ps ++ joined ps) ≤ allocation
    → returned allocation (header_of code ss ps) ps ≡ header_of code ss ps ++ joined ps
unfolding returned cut
returned-all code allocation ss ps h =
    let n = length-append (header_of code ss ps) (joined ps) in
    let k = header-length code ss ps in
    when_false (ltb allocation 8) (take allocation (header_of code ss ps)) (header_of code ss ps ++ fitting (allocation - 8) ps) (le-ltb allocation 8 (omega arith))
    ∙ ap (λ (x : List ℕ). header_of code ss ps ++ x) (fitting-all (allocation - 8) ps (omega arith))

-- ---- each piece ends with the descriptor of an element listed, so what is returned does

-- it ends with the descriptor of one of the elements ss
abbrev pub Ends : Bool → Tables → List Slot → List ℕ → Type 0
Ends tagged t ss xs = (front : List ℕ) × (s : Slot) × Memᴰ s ss × (xs ≡ front ++ descriptor tagged t s)

abbrev AllEnd : Bool → Tables → List Slot → List (List ℕ) → Type 0
AllEnd tagged t ss [] = T true
AllEnd tagged t ss (p ∷ ps) = Ends tagged t ss p × AllEnd tagged t ss ps

-- each element of the one list is in the other
abbrev Among : List Slot → List Slot → Type 0
Among us ss = (s : Slot) → Memᴰ s us → Memᴰ s ss

keep-among : (f : Slot → Bool) (ss : List Slot) → Among (keep f ss) ss
unfolding keep
keep-among f [] s m = m
keep-among f (u ∷ ss) s m =
    on (λ (us : List Slot). Memᴰ s us → Memᴰ s (u ∷ ss)) (f u)
    (λ _ n. ⊎_elim (λ i. Memᴰ.head i) (λ k. Memᴰ.tail (keep-among f ss s k)) (Memᴰ.cases_cons n))
    (λ _ n. Memᴰ.tail (keep-among f ss s n)) m

module _ (tagged : Bool) (t : Tables) (ss : List Slot) where
  map-ends : (us : List Slot) → Among us ss → AllEnd tagged t ss (map (descriptor tagged t) us)
  map-ends [] i = tt
  map-ends (u ∷ us) i = (([], u, i u (Memᴰ.head refl), refl), map-ends us (λ s m. i s (Memᴰ.tail m)))

  append-ends : (ps qs : List (List ℕ)) → AllEnd tagged t ss ps → AllEnd tagged t ss qs → AllEnd tagged t ss (ps ++ qs)
  append-ends [] qs a b = b
  append-ends (p ∷ ps) qs a b = (a.0, append-ends ps qs a.1 b)

  page-ends : (kind : ℕ) (us : List Slot) → Among us ss → AllEnd tagged t ss (page tagged t kind us)
  unfolding page
  page-ends kind [] i = tt
  page-ends kind (u ∷ us) i =
      ((page_header tagged kind (suc (length us)), u, i u (Memᴰ.head refl), refl), map-ends us (λ s m. i s (Memᴰ.tail m)))

  pages-end : (rs : List Range) → AllEnd tagged t ss (pages tagged t rs ss)
  unfolding pages
  pages-end [] = tt
  pages-end (r ∷ rs) =
      append-ends (page tagged t r.kind (keep (of_type r.kind) ss)) (pages tagged t rs ss) (page-ends r.kind _ (keep-among _ ss)) (pages-end rs)

  pages-of-end : AllEnd tagged t ss (pages_of tagged t ss)
  unfolding pages_of
  pages-of-end = pages-end (sorted (ranges t.head))

  -- nothing, or ended
  abbrev Ended : List ℕ → Type 0
  Ended xs = (xs ≡ []) ⊎ Ends tagged t ss xs

  ends-behind : (hs xs : List ℕ) → Ends tagged t ss xs → Ends tagged t ss (hs ++ xs)
  ends-behind hs xs (front, s, m, e) = (hs ++ front, s, m, ap (λ (x : List ℕ). hs ++ x) e ∙ sym (append_assoc hs front (descriptor tagged t s)))

  fitting-ends : (room : ℕ) (ps : List (List ℕ)) → AllEnd tagged t ss ps → Ended (fitting room ps)
  unfolding fitting
  fitting-ends room [] a = inl refl
  fitting-ends room (p ∷ ps) a =
      on Ended (leb (length p) room) (λ e. inr (join (fitting (room - length p) ps) (fitting-ends (room - length p) ps a.1))) (λ e. inl refl)
    where
      join : (xs : List ℕ) → Ended xs → Ends tagged t ss (p ++ xs)
      join xs (inl e) = rw (e, append-nil p) a.0
      join xs (inr e) = ends-behind p xs e

-- ---- as many pieces as fit: all, or so many that the next one is too long

abbrev Most : ℕ → List (List ℕ) → List ℕ → Type 0
Most room ps xs =
    (xs ≡ joined ps)
    ⊎ ((before : List (List ℕ)) × (next : List ℕ) × (after : List (List ℕ))
    × (ps ≡ before ++ (next ∷ after)) × (xs ≡ joined before) × (room < length xs + length next))

fitting-most : (room : ℕ) (ps : List (List ℕ)) → Most room ps (fitting room ps)
unfolding fitting joined
fitting-most room [] = inl refl
fitting-most room (p ∷ ps) =
    on (Most room (p ∷ ps)) (leb (length p) room)
    (λ e. behind (leb-true (length p) room e) (fitting (room - length p) ps) (fitting-most (room - length p) ps))
    (λ e. inr ([], p, ps, refl, refl, omega (arith, leb-false (length p) room e)))
  where
    behind : length p ≤ room → (xs : List ℕ) → Most (room - length p) ps xs → Most room (p ∷ ps) (p ++ xs)
    behind l xs (inl e) = inl (ap (λ (x : List ℕ). p ++ x) e)
    behind l xs (inr (b, n, a, e, d, m)) =
        inr (p ∷ b, n, a, ap (λ (x : List (List ℕ)). p ∷ x) e, ap (λ (x : List ℕ). p ++ x) d, omega (arith, length-append p xs))

fitting-room : (room : ℕ) (ps : List (List ℕ)) → length (fitting room ps) ≤ room
unfolding fitting
fitting-room room [] = omega arith
fitting-room room (p ∷ ps) =
    on (λ (xs : List ℕ). length xs ≤ room) (leb (length p) room)
    (λ e. let l = leb-true (length p) room e in let i = fitting-room (room - length p) ps in omega (arith, length-append p (fitting (room - length p) ps)))
    (λ e. omega arith)

-- ---- the listing

module _ (code : ℕ) (tagged : Bool) (t : Tables) (ss : List Slot) where
  -- "first chosen address (0 if none), number chosen, 0, three-byte count of all page bytes", whatever of the pages is returned
  pub header-tells : (allocation : ℕ) → 8 ≤ allocation → Tells (listing code tagged t allocation ss) ss (length (joined (pages_of tagged t ss)))
  unfolding listing
  header-tells allocation h = returned-tells code allocation ss (pages_of tagged t ss) h

  -- "What is returned is always a prefix of the whole answer"
  pub listing_begins : (allocation : ℕ) → Begins (listing code tagged t allocation ss) (whole code tagged t ss)
  unfolding listing whole
  listing_begins allocation = returned-begins code allocation ss (pages_of tagged t ss)

  -- a larger allocation extends it
  pub listing-grows : (allocation more : ℕ) → allocation ≤ more → Begins (listing code tagged t allocation ss) (listing code tagged t more ss)
  unfolding listing
  listing-grows allocation more h = returned-grows code allocation more ss (pages_of tagged t ss) h

  -- up to the whole
  pub listing-all : (allocation : ℕ) → length (whole code tagged t ss) ≤ allocation → listing code tagged t allocation ss ≡ whole code tagged t ss
  unfolding listing whole
  listing-all allocation h = returned-all code allocation ss (pages_of tagged t ss) h

  -- from 8 on, it is the header and the pieces that fit
  pub listing-from-8 : (allocation : ℕ) → 8 ≤ allocation
      → listing code tagged t allocation ss ≡ header_of code ss (pages_of tagged t ss) ++ fitting (allocation - 8) (pages_of tagged t ss)
  unfolding listing returned
  listing-from-8 allocation h = when_false (ltb allocation 8) _ _ (le-ltb allocation 8 h)

  -- it is the header alone, or it ends with the descriptor of an element listed
  pub listing-ends : (allocation : ℕ) → 8 ≤ allocation
      → (listing code tagged t allocation ss ≡ header_of code ss (pages_of tagged t ss)) ⊎ Ends tagged t ss (listing code tagged t allocation ss)
  listing-ends allocation h =
      rw (listing-from-8 allocation h) (join (fitting (allocation - 8) ps) (fitting-ends tagged t ss (allocation - 8) ps (pages-of-end tagged t ss)))
    where
      ps : List (List ℕ)
      ps = pages_of tagged t ss

      head : List ℕ
      head = header_of code ss (pages_of tagged t ss)

      join : (xs : List ℕ) → Ended tagged t ss xs → (head ++ xs ≡ head) ⊎ Ends tagged t ss (head ++ xs)
      join xs (inl e) = inl (rw e (append-nil head))
      join xs (inr e) = inr (ends-behind tagged t ss head xs e)

  -- "as many whole descriptors as fit": it is the whole, or one more piece would be longer than the allocation
  pub listing-most : (allocation : ℕ) → 8 ≤ allocation
      → (listing code tagged t allocation ss ≡ whole code tagged t ss)
      ⊎ ((before : List (List ℕ)) × (next : List ℕ) × (after : List (List ℕ)) × (pages_of tagged t ss ≡ before ++ (next ∷ after))
      × (listing code tagged t allocation ss ≡ header_of code ss (pages_of tagged t ss) ++ joined before)
      × (allocation < length (listing code tagged t allocation ss) + length next))
  unfolding whole
  listing-most allocation h =
      rw (listing-from-8 allocation h) (join (fitting (allocation - 8) ps) (fitting-most (allocation - 8) ps))
    where
      ps : List (List ℕ)
      ps = pages_of tagged t ss

      head : List ℕ
      head = header_of code ss (pages_of tagged t ss)

      join : (xs : List ℕ) → Most (allocation - 8) ps xs
          → (head ++ xs ≡ head ++ joined ps)
          ⊎ ((before : List (List ℕ)) × (next : List ℕ) × (after : List (List ℕ)) × (ps ≡ before ++ (next ∷ after)) × (head ++ xs ≡ head ++ joined before)
          × (allocation < length (head ++ xs) + length next))
      join xs (inl e) = inl (ap (λ (x : List ℕ). head ++ x) e)
      join xs (inr (b, n, a, e, d, m)) =
          inr (b, n, a, e, ap (λ (x : List ℕ). head ++ x) d, omega (arith, length-append head xs, header-length code ss ps))

  -- never more than the allocation
  pub listing-within : (allocation : ℕ) → length (listing code tagged t allocation ss) ≤ allocation
  unfolding listing returned cut
  listing-within allocation =
      let ps = pages_of tagged t ss in
      let head = header_of code ss ps in
      let n = header-length code ss ps in
      on (λ (xs : List ℕ). length xs ≤ allocation) (ltb allocation 8)
      (λ e. let l = ltb-true allocation 8 e in omega (arith, length-take-le allocation head (omega arith)))
      (λ e. let l = ltb-false allocation 8 e in omega (arith, length-append head (fitting (allocation - 8) ps), fitting-room (allocation - 8) ps))

-- ---- the number that the header tells is the number of descriptors in the whole answer

-- how many of the ranges are of an element's type
hits : Slot → List Range → ℕ
hits s [] = 0
hits s (r ∷ rs) = when (of_type r.kind s) 1 0 + hits s rs

all_hits : List Slot → List Range → ℕ
all_hits [] rs = 0
all_hits (s ∷ ss) rs = hits s rs + all_hits ss rs

no-hits : (ss : List Slot) → all_hits ss [] ≡ 0
unfolding all_hits hits
no-hits [] = refl
no-hits (s ∷ ss) = let i = no-hits ss in omega arith

more-hits : (r : Range) (rs : List Range) (ss : List Slot) → all_hits ss (r ∷ rs) ≡ length (keep (of_type r.kind) ss) + all_hits ss rs
unfolding all_hits hits keep when
more-hits r rs [] = refl
more-hits r rs (s ∷ ss) = go (of_type r.kind s) (more-hits r rs ss)
  where
    go : (b : Bool) → all_hits ss (r ∷ rs) ≡ length (keep (of_type r.kind) ss) + all_hits ss rs
        → when b 1 0 + hits s rs + all_hits ss (r ∷ rs)
        ≡ length (when b (s ∷ keep (of_type r.kind) ss) (keep (of_type r.kind) ss)) + (hits s rs + all_hits ss rs)
    go true e = omega arith
    go false e = omega arith

page-pieces : (tagged : Bool) (t : Tables) (kind : ℕ) (ss : List Slot) → length (page tagged t kind ss) ≡ length ss
unfolding page
page-pieces tagged t kind [] = refl
page-pieces tagged t kind (s ∷ ss) = ap suc (length-map ss (descriptor tagged t))

pages-pieces : (tagged : Bool) (t : Tables) (rs : List Range) (ss : List Slot) → length (pages tagged t rs ss) ≡ all_hits ss rs
unfolding pages
pages-pieces tagged t [] ss = sym (no-hits ss)
pages-pieces tagged t (r ∷ rs) ss =
    let p : List (List ℕ) = page tagged t r.kind (keep (of_type r.kind) ss) in
    length-append p (pages tagged t rs ss)
    ∙ rw (page-pieces tagged t r.kind (keep (of_type r.kind) ss), pages-pieces tagged t rs ss) (sym (more-hits r rs ss))

insert-hits : (s : Slot) (r : Range) (rs : List Range) → hits s (insert r rs) ≡ hits s (r ∷ rs)
unfolding insert hits
insert-hits s r [] = refl
insert-hits s r (q ∷ rs) =
    let i = insert-hits s r rs in
    on (λ (x : List Range). hits s x ≡ hits s (r ∷ q ∷ rs)) (leb r.first q.first) (λ e. refl) (λ e. omega arith)

sorted-hits : (s : Slot) (rs : List Range) → hits s (sorted rs) ≡ hits s rs
unfolding sorted hits
sorted-hits s [] = refl
sorted-hits s (r ∷ rs) = let i = sorted-hits s rs in insert-hits s r (sorted rs) ∙ omega arith

-- each element is of the type of one range
abbrev Once : List Range → List Slot → Type 0
Once rs [] = T true
Once rs (s ∷ ss) = (hits s rs ≡ 1) × Once rs ss

once-hits : (rs : List Range) (ss : List Slot) → Once rs ss → all_hits ss rs ≡ length ss
unfolding all_hits
once-hits rs [] o = refl
once-hits rs (s ∷ ss) o = let i = once-hits rs ss o.1 in omega (arith, o.0)

once-append : (rs : List Range) (ss us : List Slot) → Once rs ss → Once rs us → Once rs (ss ++ us)
once-append rs [] us o p = p
once-append rs (s ∷ ss) us o p = (o.0, once-append rs ss us o.1 p)

-- all elements of a type
abbrev OfOne : List Range → Range → Type 0
OfOne rs r = (a p : ℕ) → hits (record { kind = r.kind; address = a; place = p }) rs ≡ 1

once-slots : (rs : List Range) (r : Range) (a p n : ℕ) → OfOne rs r → Once rs (slots r.kind a p n)
unfolding slots
once-slots rs r a p zero o = tt
once-slots rs r a p (suc n) o = (o a p, once-slots rs r (suc a) (suc p) n o)

once-spread : (rs qs : List Range) (p : ℕ) → Each (OfOne rs) qs → Once rs (spread p qs)
unfolding spread
once-spread rs [] p o = tt
once-spread rs (q ∷ qs) p o =
    once-append rs (slots q.kind q.first p q.count) (spread (p + q.count) qs) (once-slots rs q q.first p q.count o.0)
    (once-spread rs qs (p + q.count) o.1)

once-keep : (rs : List Range) (f : Slot → Bool) (ss : List Slot) → Once rs ss → Once rs (keep f ss)
unfolding keep
once-keep rs f [] o = tt
once-keep rs f (s ∷ ss) o = on (Once rs) (f s) (λ e. (o.0, once-keep rs f ss o.1)) (λ e. once-keep rs f ss o.1)

once-take : (rs : List Range) (n : ℕ) (ss : List Slot) → Once rs ss → Once rs (take n ss)
once-take rs zero ss o = tt
once-take rs (suc n) [] o = tt
once-take rs (suc n) (s ∷ ss) o = (o.0, once-take rs n ss o.1)

one_each : (head : List ℕ) → Each (OfOne (ranges head)) (ranges head)
unfolding ranges range hits of_type any_of when
one_each head = (λ a p. refl, (λ a p. refl, (λ a p. refl, (λ a p. refl, tt))))

once-roster : (head : List ℕ) → Once (sorted (ranges head)) (roster head)
unfolding roster
once-roster head =
    once-spread (sorted (ranges head)) (sorted (ranges head)) 0
    (each_map (OfOne (ranges head)) (OfOne (sorted (ranges head))) (λ r o a p. sorted-hits _ (ranges head) ∙ o a p) (sorted (ranges head))
    (sorted-each (OfOne (ranges head)) (ranges head) (one_each head)))

once-chosen : (head : List ℕ) (ss : List Slot) (block : List ℕ) → Once (sorted (ranges head)) ss → Once (sorted (ranges head)) (chosen_of ss block)
unfolding chosen_of chosen
once-chosen head ss block o = once-take _ (word block 4) _ (once-keep _ (at_or_above (word block 2)) _ (once-keep _ (of_type (type_code block)) ss o))

once-all : (t : Tables) (block : List ℕ) → Once (sorted (ranges t.head)) (chosen_by t block)
unfolding chosen_by
once-all t block = once-chosen t.head _ block (once-roster t.head)

once-found : (t : Tables) (block : List ℕ) → Once (sorted (ranges t.head)) (found_by t block)
unfolding found_by
once-found t block = once-chosen t.head _ block (once-keep _ (found t) _ (once-roster t.head))

-- the whole answer has a descriptor for each element that its header counts
pieces-once : (tagged : Bool) (t : Tables) (ss : List Slot) → Once (sorted (ranges t.head)) ss → length (pages_of tagged t ss) ≡ length ss
unfolding pages_of
pieces-once tagged t ss o = pages-pieces tagged t (sorted (ranges t.head)) ss ∙ once-hits (sorted (ranges t.head)) ss o

pub descriptors-told : (tagged : Bool) (t : Tables) (block : List ℕ) → length (pages_of tagged t (chosen_by t block)) ≡ length (chosen_by t block)
descriptors-told tagged t block = pieces-once tagged t _ (once-all t block)

pub descriptors-found : (tagged : Bool) (t : Tables) (block : List ℕ) → length (pages_of tagged t (found_by t block)) ≡ length (found_by t block)
descriptors-found tagged t block = pieces-once tagged t _ (once-found t block)

-- ---- "ascending"

pub rising-keep : (a : ℕ) (f : Slot → Bool) (ss : List Slot) → Rising a ss → Rising a (keep f ss)
unfolding keep
rising-keep a f [] r = tt
rising-keep a f (s ∷ ss) r =
    on (Rising a) (f s) (λ e. (r.0, rising-keep (suc s.address) f ss r.1))
    (λ e. rising-lower a (suc s.address) (keep f ss) (omega (arith, r.0)) (rising-keep (suc s.address) f ss r.1))

pub rising-take : (a n : ℕ) (ss : List Slot) → Rising a ss → Rising a (take n ss)
rising-take a zero ss r = tt
rising-take a (suc n) [] r = tt
rising-take a (suc n) (s ∷ ss) r = (r.0, rising-take (suc s.address) n ss r.1)

-- what a block chooses of elements that rise
pub chosen-rises : (a : ℕ) (ss : List Slot) (block : List ℕ) → Rising a ss → Rising a (chosen_of ss block)
unfolding chosen_of chosen
chosen-rises a ss block r = rising-take a (word block 4) _ (rising-keep a (at_or_above (word block 2)) _ (rising-keep a (of_type (type_code block)) ss r))
