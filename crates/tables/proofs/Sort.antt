-- The ranges put in order by first address, one after the other. Assumes nothing.
use Rattle.std.proofs.Common.{◌≡◌, ℕ, zero, suc, ◌<◌, ◌≤◌, List, [], ◌∷◌, length, get_or, drop, refl, ap, ◌∙◌, arith, drop_of_length-le, drop-cons, le-leb}
use lib.ListN.{length-map}
use borrow.Author.Tests.{lt-leb}
use Rattle.rules.specs.Choice.{when}
use Rattle.rules.specs.Roster.{Range, insert, sorted}
use Rattle.tables.specs.declared.Range.{Range as Declared}
use Rattle.tables.specs.Ranges.{meaning, meant, no_range, inserted}

-- ---- the meaning of a table that was read or changed at one place

pub meant-length : (rs : List Declared) → length (meant rs) ≡ length rs
unfolding meant
meant-length rs = length-map rs meaning

pub meant-at : (rs : List Declared) (i : ℕ) (d : Declared) → i < length rs → get_or (meant rs) i no_range ≡ meaning (get_or rs i d)
unfolding meant
meant-at [] i d h = absurd (let z : ⊥ = omega arith in z)
meant-at (r ∷ rs) zero d h = refl
meant-at (r ∷ rs) (suc i) d h = meant-at rs i d (omega arith)

-- what an index past the end reads
abbrev pub none : Declared
none = record { kind = 0; first = 0; count = 0 }

-- the ranges from k on: the k-th and those behind it, or no more
pub meant-from : (rs : List Declared) (k : ℕ) → length rs ≡ 4 → k < 4 → drop k (meant rs) ≡ meaning (get_or rs k none) ∷ drop (suc k) (meant rs)
meant-from rs k four h =
    let e = meant-length rs in
    drop-cons (meant rs) k no_range (omega arith) ∙ ap (λ (r : Range). r ∷ drop (suc k) (meant rs)) (meant-at rs k none (omega arith))

pub meant-end : (rs : List Declared) (k : ℕ) → length rs ≡ 4 → 4 ≤ k → drop k (meant rs) ≡ []
meant-end rs k four h =
    let e = meant-length rs in
    let past : length (meant rs) ≤ k = omega arith in
    drop_of_length-le (meant rs) past

-- ---- insertion

pub insert-here : (r s : Range) (ss : List Range) → r.first ≤ s.first → insert r (s ∷ ss) ≡ r ∷ s ∷ ss
unfolding insert when
insert-here r s ss h = rw (le-leb r.first s.first h)

pub insert-past : (r s : Range) (ss : List Range) → s.first < r.first → insert r (s ∷ ss) ≡ s ∷ insert r ss
unfolding insert when
insert-past r s ss h = rw (lt-leb r.first s.first h)

-- what holds of every list of four holds of a list that is four long
pub on-four : {A : Type 0} (P : List A → Type 0) (l : List A) → length l ≡ 4 → ((a b c d : A) → P (a ∷ b ∷ c ∷ d ∷ [])) → P l
on-four P [] e f = absurd (let z : ⊥ = omega arith in z)
on-four P (a ∷ []) e f = absurd (let z : ⊥ = omega arith in z)
on-four P (a ∷ b ∷ []) e f = absurd (let z : ⊥ = omega arith in z)
on-four P (a ∷ b ∷ c ∷ []) e f = absurd (let z : ⊥ = omega arith in z)
on-four P (a ∷ b ∷ c ∷ d ∷ []) e f = f a b c d
on-four P (a ∷ b ∷ c ∷ d ∷ x ∷ xs) e f = absurd (let z : ⊥ = omega arith in z)

pub insert-alone : (r : Range) → insert r [] ≡ r ∷ []
unfolding insert
insert-alone r = refl

-- ---- one range put to its place, by every way that the tests can go

module _ (rs : List Declared) (long : length rs ≡ 4) where
  abbrev a : Declared
  a = get_or rs 0 none

  abbrev b : Declared
  b = get_or rs 1 none

  abbrev c : Declared
  c = get_or rs 2 none

  abbrev d : Declared
  d = get_or rs 3 none

  third-is : inserted 2 (meant rs) ≡ meaning a ∷ meaning b ∷ insert (meaning c) (meaning d ∷ [])
  unfolding meant inserted
  third-is = on-four (λ (l : List Declared). inserted 2 (meant l) ≡ meaning (get_or l 0 none) ∷ meaning (get_or l 1 none) ∷ insert (meaning (get_or l 2 none)) (meaning (get_or l 3 none) ∷ [])) rs long (λ a b c d. refl)

  second_is : inserted 1 (meant rs) ≡ meaning a ∷ insert (meaning b) (meaning c ∷ meaning d ∷ [])
  unfolding meant inserted
  second_is = on-four (λ (l : List Declared). inserted 1 (meant l) ≡ meaning (get_or l 0 none) ∷ insert (meaning (get_or l 1 none)) (meaning (get_or l 2 none) ∷ meaning (get_or l 3 none) ∷ [])) rs long (λ a b c d. refl)

  first-is : inserted 0 (meant rs) ≡ insert (meaning a) (meaning b ∷ meaning c ∷ meaning d ∷ [])
  unfolding meant inserted
  first-is = on-four (λ (l : List Declared). inserted 0 (meant l) ≡ insert (meaning (get_or l 0 none)) (meaning (get_or l 1 none) ∷ meaning (get_or l 2 none) ∷ meaning (get_or l 3 none) ∷ [])) rs long (λ a b c d. refl)

  pub third-first : c.first ≤ d.first → meant (a ∷ b ∷ c ∷ d ∷ []) ≡ inserted 2 (meant rs)
  unfolding meant
  third-first h0 = rw (third-is, insert-here (meaning c) (meaning d) [] h0)

  pub third-second : d.first < c.first → meant (a ∷ b ∷ d ∷ c ∷ []) ≡ inserted 2 (meant rs)
  unfolding meant
  third-second h0 = rw (third-is, insert-past (meaning c) (meaning d) [] h0, insert-alone (meaning c))

  pub second-first : b.first ≤ c.first → meant (a ∷ b ∷ c ∷ d ∷ []) ≡ inserted 1 (meant rs)
  unfolding meant
  second-first h0 = rw (second_is, insert-here (meaning b) (meaning c) (meaning d ∷ []) h0)

  pub second-second : c.first < b.first → b.first ≤ d.first → meant (a ∷ c ∷ b ∷ d ∷ []) ≡ inserted 1 (meant rs)
  unfolding meant
  second-second h0 h1 = rw (second_is, insert-past (meaning b) (meaning c) (meaning d ∷ []) h0, insert-here (meaning b) (meaning d) [] h1)

  pub second-third : c.first < b.first → d.first < b.first → meant (a ∷ c ∷ d ∷ b ∷ []) ≡ inserted 1 (meant rs)
  unfolding meant
  second-third h0 h1 = rw (second_is, insert-past (meaning b) (meaning c) (meaning d ∷ []) h0, insert-past (meaning b) (meaning d) [] h1, insert-alone (meaning b))

  pub first-first : a.first ≤ b.first → meant (a ∷ b ∷ c ∷ d ∷ []) ≡ inserted 0 (meant rs)
  unfolding meant
  first-first h0 = rw (first-is, insert-here (meaning a) (meaning b) (meaning c ∷ meaning d ∷ []) h0)

  pub first-second : b.first < a.first → a.first ≤ c.first → meant (b ∷ a ∷ c ∷ d ∷ []) ≡ inserted 0 (meant rs)
  unfolding meant
  first-second h0 h1 = rw (first-is, insert-past (meaning a) (meaning b) (meaning c ∷ meaning d ∷ []) h0, insert-here (meaning a) (meaning c) (meaning d ∷ []) h1)

  pub first-third : b.first < a.first → c.first < a.first → a.first ≤ d.first → meant (b ∷ c ∷ a ∷ d ∷ []) ≡ inserted 0 (meant rs)
  unfolding meant
  first-third h0 h1 h2 = rw (first-is, insert-past (meaning a) (meaning b) (meaning c ∷ meaning d ∷ []) h0, insert-past (meaning a) (meaning c) (meaning d ∷ []) h1, insert-here (meaning a) (meaning d) [] h2)

  pub first-fourth : b.first < a.first → c.first < a.first → d.first < a.first → meant (b ∷ c ∷ d ∷ a ∷ []) ≡ inserted 0 (meant rs)
  unfolding meant
  first-fourth h0 h1 h2 = rw (first-is, insert-past (meaning a) (meaning b) (meaning c ∷ meaning d ∷ []) h0, insert-past (meaning a) (meaning c) (meaning d ∷ []) h1, insert-past (meaning a) (meaning d) [] h2, insert-alone (meaning a))

-- three insertions put four in order
pub sorted-four : (l : List Range) → length l ≡ 4 → inserted 0 (inserted 1 (inserted 2 l)) ≡ sorted l
unfolding inserted sorted insert
sorted-four l e = on-four (λ (k : List Range). inserted 0 (inserted 1 (inserted 2 k)) ≡ sorted k) l e (λ a b c d. refl)
