-- Of a page, what fits: "as many whole descriptors as fit, a page header only together with its first descriptor". Assumes nothing.
use Prim.Native.Nat.{ℕ, zero, suc, ◌+◌, ◌*◌, ◌-◌, ◌/◌, ◌≤◌, ◌<◌, min}
use native.Mathlib.Nat.{zero-mul, sub-zero, zero-add}
use native.Mathlib.Omega.{arith}
use mathlib.Core.Path.{◌≡◌, refl, sym}
use mathlib.Core.Bool.{Bool, true, false}
use mathlib.Core.List.{List, [], ◌∷◌, ◌++◌, map, append_assoc}
use lib.ListN.{length, take, length-append}
use lib.Dec.{eqb, ltb, eqb-suc-suc, leb-suc-zero, eqb-zero-suc, eqb-suc-zero}
use borrow.Author.Tests.{le-leb, lt-leb, le-ltb, ltb-true, ltb-false}
use Rattle.rules.specs.Choice.{when}
use Rattle.rules.specs.Tables.{Tables}
use Rattle.rules.specs.Roster.{Slot}
use Rattle.rules.specs.Listing.{descriptor, width, page, page_header, fitting, wholes, joined}
use Rattle.rules.proofs.Ladder.{on}
use Rattle.pages.specs.Pages.{page_bytes, shown, descriptors}
use Rattle.pages.proofs.Descriptor.{Wide, wide-length, page-header-length}
use Rattle.listing.specs.Plan.{fits_in, room_behind}

-- m is how many of the n elements of a page fit in room, its header with the first
pub record Fit (tagged : Bool) (room n m : ℕ) : Type 0 where
  pub few : m ≤ n
  pub inside : 0 < m → 8 + m * width tagged ≤ room
  pub most : m < n → room < 8 + (m + 1) * width tagged

pub nothing-fits : (tagged : Bool) (t : Tables) (k : ℕ) (ss : List Slot) (rest : List (List ℕ)) → fitting 0 rest ≡ []
    → fitting 0 (page tagged t k ss ++ rest) ≡ []
unfolding page fitting page_header when
nothing-fits tagged t k [] rest h = h
nothing-fits tagged t k (s ∷ ss) rest h = rw leb-suc-zero

-- the first m descriptors, and what follows them
fit-descriptors : (tagged : Bool) (t : Tables) (ss : List Slot) (m room : ℕ) (rest : List (List ℕ)) → Wide tagged t ss
    → m ≤ length ss → m * width tagged ≤ room → (m < length ss → room < (m + 1) * width tagged)
    → fitting room (map (descriptor tagged t) ss ++ rest)
    ≡ descriptors tagged t (take m ss) ++ when (eqb m (length ss)) (fitting (room - m * width tagged) rest) []
unfolding fitting joined when
fit-descriptors tagged t [] zero room rest w le i o = rw (zero-mul (width tagged), sub-zero room)
fit-descriptors tagged t [] (suc m) room rest w le i o = absurd (omega arith)
fit-descriptors tagged t (s ∷ ss) zero room rest w le i o =
    rw (w.0, lt-leb (width tagged) room (omega (arith, o (omega arith))), eqb-zero-suc (length ss))
fit-descriptors tagged t (s ∷ ss) (suc m) room rest w le i o =
    let ih = fit-descriptors tagged t ss m (room - width tagged) rest w.1 (omega arith) (omega arith) (λ q. omega (arith, o (omega arith))) in
    let e : room - width tagged - m * width tagged ≡ room - suc m * width tagged = omega arith in
    rw (w.0, le-leb (width tagged) room (omega arith), ih, e, eqb-suc-suc m (length ss))
    (sym (append_assoc (descriptor tagged t s) (descriptors tagged t (take m ss)) _))

tail : (q : Bool) (x : ℕ) (rest : List (List ℕ)) → fitting 0 rest ≡ [] → when q (fitting x rest) [] ≡ fitting (when q x 0) rest
unfolding when
tail true x rest z = refl
tail false x rest z = sym z

-- a page of which m fit, and what follows it
pub fit-page : (tagged : Bool) (t : Tables) (k : ℕ) (ss : List Slot) (m room : ℕ) (rest : List (List ℕ)) → Wide tagged t ss
    → Fit tagged room (length ss) m → fitting 0 rest ≡ []
    → fitting room (page tagged t k ss ++ rest)
    ≡ shown tagged t k (length ss) (take m ss) ++ fitting (room_behind tagged room (length ss) m) rest
unfolding fitting page shown room_behind page_bytes joined when
fit-page tagged t k [] zero room rest w f z = rw (sub-zero room)
fit-page tagged t k [] (suc m) room rest w f z = absurd (omega (arith, f.few))
fit-page tagged t k (s ∷ ss) zero room rest w f z =
    let q : room < 8 + width tagged = omega (arith, f.most (omega arith)) in
    rw (page-header-length tagged k (suc (length ss)) (descriptor tagged t s), w.0, lt-leb (8 + width tagged) room q, eqb-zero-suc (length ss)) (sym z)
fit-page tagged t k (s ∷ ss) (suc m) room rest w f z =
    let i = f.inside (omega arith) in
    let ih =
    fit-descriptors tagged t ss m (room - (8 + width tagged)) rest w.1 (omega (arith, f.few)) (omega arith)
    (λ q. omega (arith, f.most (omega arith))) in
    let e : room - (8 + width tagged) - m * width tagged ≡ room - (8 + suc m * width tagged) = omega arith in
    rw (
      page-header-length tagged k (suc (length ss)) (descriptor tagged t s),
      w.0,
      le-leb (8 + width tagged) room (omega arith),
      ih,
      e,
      eqb-suc-zero (length (take m ss)),
      eqb-suc-zero m,
      eqb-suc-suc m (length ss),
      tail (eqb m (length ss)) (room - (8 + suc m * width tagged)) rest z,
    )
    (simp append_assoc)

-- ---- and how many are returned whole

pub no-wholes : (tagged : Bool) (t : Tables) (k : ℕ) (ss : List Slot) (rest : List (List ℕ)) → wholes 0 rest ≡ 0
    → wholes 0 (page tagged t k ss ++ rest) ≡ 0
unfolding page wholes page_header when
no-wholes tagged t k [] rest h = h
no-wholes tagged t k (s ∷ ss) rest h = rw leb-suc-zero

whole-descriptors : (tagged : Bool) (t : Tables) (ss : List Slot) (m room : ℕ) (rest : List (List ℕ)) → Wide tagged t ss
    → m ≤ length ss → m * width tagged ≤ room → (m < length ss → room < (m + 1) * width tagged)
    → wholes room (map (descriptor tagged t) ss ++ rest) ≡ m + when (eqb m (length ss)) (wholes (room - m * width tagged) rest) 0
unfolding wholes when
whole-descriptors tagged t [] zero room rest w le i o = rw (zero-mul (width tagged), sub-zero room, zero-add)
whole-descriptors tagged t [] (suc m) room rest w le i o = absurd (omega arith)
whole-descriptors tagged t (s ∷ ss) zero room rest w le i o =
    rw (w.0, lt-leb (width tagged) room (omega (arith, o (omega arith))), eqb-zero-suc (length ss))
whole-descriptors tagged t (s ∷ ss) (suc m) room rest w le i o =
    let ih = whole-descriptors tagged t ss m (room - width tagged) rest w.1 (omega arith) (omega arith) (λ q. omega (arith, o (omega arith))) in
    let e : room - width tagged - m * width tagged ≡ room - suc m * width tagged = omega arith in
    rw (w.0, le-leb (width tagged) room (omega arith), ih, e, eqb-suc-suc m (length ss)) (omega arith)

whole-tail : (q : Bool) (x : ℕ) (rest : List (List ℕ)) → wholes 0 rest ≡ 0 → when q (wholes x rest) 0 ≡ wholes (when q x 0) rest
unfolding when
whole-tail true x rest z = refl
whole-tail false x rest z = sym z

pub whole-page : (tagged : Bool) (t : Tables) (k : ℕ) (ss : List Slot) (m room : ℕ) (rest : List (List ℕ)) → Wide tagged t ss
    → Fit tagged room (length ss) m → wholes 0 rest ≡ 0
    → wholes room (page tagged t k ss ++ rest) ≡ m + wholes (room_behind tagged room (length ss) m) rest
unfolding wholes page room_behind page_bytes when
whole-page tagged t k [] zero room rest w f z = rw (sub-zero room, zero-add)
whole-page tagged t k [] (suc m) room rest w f z = absurd (omega (arith, f.few))
whole-page tagged t k (s ∷ ss) zero room rest w f z =
    let q : room < 8 + width tagged = omega (arith, f.most (omega arith)) in
    rw (page-header-length tagged k (suc (length ss)) (descriptor tagged t s), w.0, lt-leb (8 + width tagged) room q, eqb-zero-suc (length ss), z)
whole-page tagged t k (s ∷ ss) (suc m) room rest w f z =
    let i = f.inside (omega arith) in
    let ih =
    whole-descriptors tagged t ss m (room - (8 + width tagged)) rest w.1 (omega (arith, f.few)) (omega arith)
    (λ q. omega (arith, f.most (omega arith))) in
    let e : room - (8 + width tagged) - m * width tagged ≡ room - (8 + suc m * width tagged) = omega arith in
    rw (
      page-header-length tagged k (suc (length ss)) (descriptor tagged t s),
      w.0,
      le-leb (8 + width tagged) room (omega arith),
      ih,
      e,
      eqb-suc-zero m,
      eqb-suc-suc m (length ss),
      whole-tail (eqb m (length ss)) (room - (8 + suc m * width tagged)) rest z,
    )
    (omega arith)

-- ---- the number that the code counts is the number that fits

fit_none : (tagged : Bool) (room n : ℕ) → room < 8 + width tagged → Fit tagged room n 0
fit_none tagged room n h = record { few = omega arith; inside = λ q. absurd (omega arith); most = λ q. omega arith }

fit-some : (tagged : Bool) (room n : ℕ) → 8 + width tagged ≤ room → Fit tagged room n (min n ((room - 8) / width tagged))
unfolding width when
fit-some true room n h = record { few = omega arith; inside = λ q. omega arith; most = λ q. omega arith }
fit-some false room n h = record { few = omega arith; inside = λ q. omega arith; most = λ q. omega arith }

pub fit_is : (tagged : Bool) (room n : ℕ) → Fit tagged room n (fits_in tagged room n)
unfolding fits_in
fit_is tagged room n =
    on (Fit tagged room n) (ltb room (8 + width tagged)) (λ e. fit_none tagged room n (ltb-true room (8 + width tagged) e))
    (λ e. fit-some tagged room n (ltb-false room (8 + width tagged) e))

-- a page that fits whole, and one of which a part does

pub fits_whole : (tagged : Bool) (room n : ℕ) → 8 + width tagged ≤ room → page_bytes tagged n ≤ room → fits_in tagged room n ≡ n
unfolding fits_in page_bytes width when
fits_whole true room zero h p = rw (le-ltb room 60 h) (omega arith)
fits_whole true room (suc n) h p = rw (le-ltb room 60 h) (omega (arith, rw (eqb-suc-zero n) at p))
fits_whole false room zero h p = rw (le-ltb room 24 h) (omega arith)
fits_whole false room (suc n) h p = rw (le-ltb room 24 h) (omega (arith, rw (eqb-suc-zero n) at p))

pub fits-part : (tagged : Bool) (room n : ℕ) → 8 + width tagged ≤ room → room < page_bytes tagged n → fits_in tagged room n ≡ (room - 8) / width tagged
unfolding fits_in page_bytes width when
fits-part true room zero h p = absurd (omega (arith, p))
fits-part true room (suc n) h p = rw (le-ltb room 60 h) (omega (arith, rw (eqb-suc-zero n) at p))
fits-part false room zero h p = absurd (omega (arith, p))
fits-part false room (suc n) h p = rw (le-ltb room 24 h) (omega (arith, rw (eqb-suc-zero n) at p))

-- ---- the bytes of a page

pub page-length : (tagged : Bool) (t : Tables) (k : ℕ) (ss : List Slot) → Wide tagged t ss
    → length (joined (page tagged t k ss)) ≡ page_bytes tagged (length ss)
unfolding page page_bytes joined when
page-length tagged t k [] w = refl
page-length tagged t k (s ∷ ss) w =
    let r = wide-length tagged t ss w.1 in
    rw (
      length-append (page_header tagged k (suc (length ss)) ++ descriptor tagged t s) (descriptors tagged t ss),
      page-header-length tagged k (suc (length ss)) (descriptor tagged t s),
      w.0,
      r,
      eqb-suc-zero (length ss),
    )
    (omega arith)
