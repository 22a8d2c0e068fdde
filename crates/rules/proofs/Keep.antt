-- Each change leaves sound tables sound, where what it writes fits: a place filled is an import/export element's, or the panel's number is counted again behind it.
-- Assumes nothing.
use Prim.Native.Nat.{ℕ, ◌-◌, ◌<◌, ◌≤◌}
use native.Mathlib.Omega.{arith}
use mathlib.Core.Path.{◌≡◌, sym, ◌∙◌}
use mathlib.Core.Logic.{◌≢◌}
use mathlib.Core.Bool.{true}
use mathlib.Core.List.{List}
use lib.ListN.{length}
use Rattle.rules.specs.Bytes.{byte}
use Rattle.rules.specs.Tables.{Tables, lent, searching, hosts, unit_at, panel_at, volumes, unit, panel, volume, holder, empty_shelves, shown, HeadChange, NewSense, NewAttention, NewForAll, NewUnit, NewMask, ElementChange, NewStock, NewHolds, NewlyFree, Change, OfHead, OfElements, OfSearch, Recount, in_head, in_elements, in_search, change, changes}
use Rattle.rules.specs.Roster.{range, roster, kind_at, port}
use Rattle.rules.specs.Sound.{search_sound}
use Rattle.rules.specs.Order.{Verdict, Number, Prevented, Done}
use Rattle.rules.proofs.Places.{SameRanges, roster-same, roster-placed}
use Rattle.rules.proofs.HeadFields.{Off, sensed-else, attended-else, announced-else, unit_held-else, unit_held-unit, masked-else}
use Rattle.rules.proofs.ElementFields.{HoldsAlone, volume-alone, held-alone, freed-alone}
use Rattle.rules.proofs.Panel.{shelves-same, shelves-elsewhere, shown-else, shown-panel, panel-same}
use Rattle.rules.proofs.Soundness.{SenseFits, AttentionFits, HeadFits, RestFits, StockFits, HoldFits, ElementsFit, DrivesFit, Sound, rest-searched, head-ranges}
use Rattle.rules.proofs.KeepHead.{sensed-fits, attended-fits, announced-fits, unit_held-fits, masked-fits, shown-fits}
use Rattle.rules.proofs.KeepDrives.{drives-head, drives-held, drives-searched, drives-filled, fits-port}
use Rattle.rules.proofs.KeepElements.{place-long, fill-fits, held_fits, freed-fits, unit-fits}

-- what a change needs of the tables, that it leave them sound
abbrev pub HeadFit : Tables → HeadChange → Type 0
HeadFit t (NewSense h k a q) = (1 ≤ h) × (h ≤ hosts) × SenseFits k a q
HeadFit t (NewAttention h a q) = (1 ≤ h) × (h ≤ hosts) × AttentionFits a q
HeadFit t (NewForAll a q) = AttentionFits a q
HeadFit t (NewUnit n) = (n ≤ hosts) × ((p : ℕ) → p < length (roster t.head) → n ≢ 0 → holder t.elements p ≢ 0 → holder t.elements p ≡ n)
HeadFit t (NewMask m) = Unit {0}

abbrev pub ElementFit : Tables → ElementChange → Type 0
ElementFit t (NewStock p v s m) =
    (p < length (roster t.head)) × (kind_at (roster t.head) p ≡ port)
    × StockFits (volumes t.rest.tags) (roster t.head) (kind_at (roster t.head) p) v s m
    × (v ≢ 0 → (q : ℕ) → q < length (roster t.head) → q ≢ p → volume t.elements q ≢ v)
ElementFit t (NewHolds p n h i) = HoldFits (unit t.head) h i
ElementFit t (NewlyFree w) = Unit {0}

abbrev pub Fit : Tables → Change → Type 0
Fit t (OfHead c) = HeadFit t c
Fit t (OfElements c) = ElementFit t c
Fit t (OfSearch c) = search_sound (in_search c t.rest.search) ≡ true
Fit t Recount = Unit {0}

-- all that sound tables are, whatever number the panel shows
pub record Fitting (t : Tables) : Type 0 where
  pub head-fits : HeadFits t.head
  pub rest-fits : RestFits t.rest
  pub elements-fit : ElementsFit (roster t.head) (unit t.head) (volumes t.rest.tags) t.elements
  pub drives-fit : DrivesFit t (range t.head 3)

sound-fits : (t : Tables) → Sound t → Fitting t
sound-fits t s = record { head-fits = s.head-fits; rest-fits = s.rest-fits; elements-fit = s.elements-fit; drives-fit = s.drives-fit }

-- it shows how many shelves are empty
counted-sound : (t : Tables) → Fitting t → panel t.head ≡ empty_shelves (roster t.head) t.elements → Sound t
counted-sound t f e =
    record { head-fits = f.head-fits; rest-fits = f.rest-fits; elements-fit = f.elements-fit; panel-true = e; drives-fit = f.drives-fit }

-- ---- the head alone changes: ranges and panel stay

-- a change of the head for one of the hosts, or for none in particular
abbrev pub OfSome : HeadChange → Type 0
OfSome (NewSense h k a q) = (1 ≤ h) × (h ≤ hosts)
OfSome (NewAttention h a q) = (1 ≤ h) × (h ≤ hosts)
OfSome (NewForAll a q) = Unit {0}
OfSome (NewUnit n) = Unit {0}
OfSome (NewMask m) = Unit {0}

-- as is every change that leaves sound tables sound
fit-some : (c : HeadChange) (t : Tables) → HeadFit t c → OfSome c
fit-some (NewSense h k a q) t (l, m, x) = (l, m)
fit-some (NewAttention h a q) t (l, m, x) = (l, m)
fit-some (NewForAll a q) t x = tt
fit-some (NewUnit n) t x = tt
fit-some (NewMask m) t x = tt

-- what it writes is behind the ranges and before the panel's number
between : (c : HeadChange) (head : List ℕ) → OfSome c → (j : ℕ) → Off unit_at (panel_at - unit_at) j → byte (in_head c head) j ≡ byte head j
unfolding in_head
between (NewSense h k a q) head f j d = sensed-else head h k a q j (λ m l e. d (j - unit_at) (omega arith) (omega arith))
between (NewAttention h a q) head f j d = attended-else head h a q j (λ m l e. d (j - unit_at) (omega arith) (omega arith))
between (NewForAll a q) head f j d = announced-else a q head j (λ h l m n x e. d (j - unit_at) (omega arith) (omega arith))
between (NewUnit n) head f j d = unit_held-else head n j (λ e. d 0 (omega arith) (omega arith))
between (NewMask m) head f j d = masked-else head m j (λ e. d 1 (omega arith) (omega arith))

pub ranges-kept : (c : HeadChange) (head : List ℕ) → OfSome c → SameRanges head (in_head c head)
ranges-kept c head f j i = between c head f j (λ m l. omega arith)

-- who holds the unit changes with NewUnit alone
unit_kept : (head head' : List ℕ) → byte head' unit_at ≡ byte head unit_at → unit head' ≡ unit head
unfolding unit
unit_kept head head' e = e

-- tables with another head, of the same ranges
head-fitting : (t : Tables) (head' : List ℕ) → Fitting t → HeadFits head' → SameRanges t.head head' → byte head' unit_at ≡ byte t.head unit_at
    → Fitting (lent head' t.elements t.rest)
head-fitting t head' s f r u =
    record {
      head-fits = f;
      rest-fits = s.rest-fits;
      elements-fit = rw (roster-same t.head head' r, unit_kept t.head head' u) s.elements-fit;
      drives-fit = drives-head t head' r s.drives-fit;
    }

pub head-change-fits : (c : HeadChange) (t : Tables) → HeadFit t c → Fitting t → Fitting (lent (in_head c t.head) t.elements t.rest)
unfolding in_head
head-change-fits (NewSense h k a q) t (l, m, x) s =
    head-fitting t _ s (sensed-fits t.head h k a q s.head-fits l m x) (ranges-kept (NewSense h k a q) t.head (l, m))
    (sensed-else t.head h k a q unit_at (λ n i. omega arith))
head-change-fits (NewAttention h a q) t (l, m, x) s =
    head-fitting t _ s (attended-fits t.head h a q s.head-fits l m x) (ranges-kept (NewAttention h a q) t.head (l, m))
    (attended-else t.head h a q unit_at (λ n i. omega arith))
head-change-fits (NewForAll a q) t x s =
    head-fitting t _ s (announced-fits t.head a q s.head-fits x) (ranges-kept (NewForAll a q) t.head tt)
    (announced-else a q t.head unit_at (λ h l m n i. omega arith))
head-change-fits (NewUnit n) t (l, own) s =
    record {
      head-fits = unit_held-fits t.head n s.head-fits l;
      rest-fits = s.rest-fits;
      elements-fit =
          rw (roster-same t.head _ (ranges-kept (NewUnit n) t.head tt), unit_held-unit t.head n (omega (arith, s.head-fits.length-is)))
          (unit-fits _ _ _ _ s.elements-fit n own);
      drives-fit = drives-head t _ (ranges-kept (NewUnit n) t.head tt) s.drives-fit;
    }
head-change-fits (NewMask m) t x s =
    head-fitting t _ s (masked-fits t.head m s.head-fits) (ranges-kept (NewMask m) t.head tt) (masked-else t.head m unit_at (omega arith))

head-change-sound : (c : HeadChange) (t : Tables) → HeadFit t c → Sound t → Sound (lent (in_head c t.head) t.elements t.rest)
head-change-sound c t f s =
    counted-sound _ (head-change-fits c t f (sound-fits t s))
    (rw (roster-same t.head _ (ranges-kept c t.head (fit-some c t f))) (panel-same t.head _ (λ j l. between c t.head (fit-some c t f) j (λ m i. omega arith)) ∙ s.panel-true))

-- ---- the elements alone change: as many shelves are empty

-- tables with other elements
pub elements-fitting : (t : Tables) (es : List ℕ) → Sound t → ElementsFit (roster t.head) (unit t.head) (volumes t.rest.tags) es
    → DrivesFit (lent t.head es t.rest) (range t.head 3) → Fitting (lent t.head es t.rest)
elements-fitting t es s f d = record { head-fits = s.head-fits; rest-fits = s.rest-fits; elements-fit = f; drives-fit = d }

elements-sound : (t : Tables) (es : List ℕ) → Sound t → ElementsFit (roster t.head) (unit t.head) (volumes t.rest.tags) es
    → DrivesFit (lent t.head es t.rest) (range t.head 3)
    → empty_shelves (roster t.head) es ≡ empty_shelves (roster t.head) t.elements → Sound (lent t.head es t.rest)
elements-sound t es s f d e = counted-sound _ (elements-fitting t es s f d) (s.panel-true ∙ sym e)

-- holders and ids alone
holds-counted : (t : Tables) (es : List ℕ) → HoldsAlone t.elements es → empty_shelves (roster t.head) es ≡ empty_shelves (roster t.head) t.elements
holds-counted t es h = shelves-same (roster t.head) t.elements es (volume-alone t.elements es h)

element-change-sound : (c : ElementChange) (t : Tables) → ElementFit t c → Sound t → Sound (lent t.head (in_elements c t.elements) t.rest)
unfolding in_elements
element-change-sound (NewStock p v q m) t (h, k, x, fresh) s =
    elements-sound t _ s (fill-fits _ _ _ _ s.elements-fit p v q m h x fresh)
    (drives-filled t _ s.drives-fit p v q m (place-long _ _ _ _ s.elements-fit p h) (λ i l. fits-port t (head-ranges _ s.head-fits) p v i k l))
    (shelves-elsewhere _ (roster-placed t.head) _ s.elements-fit.length-is p h v q m (omega arith))
element-change-sound (NewHolds p n h i) t x s =
    elements-sound t _ s (held_fits _ _ _ _ p n h i s.elements-fit x) (drives-held t _ s.drives-fit _ (held-alone t.elements p n h i))
    (holds-counted t _ (held-alone t.elements p n h i))
element-change-sound (NewlyFree w) t x s =
    elements-sound t _ s (freed-fits _ _ _ w _ s.elements-fit) (drives-held t _ s.drives-fit _ (freed-alone w t.elements))
    (holds-counted t _ (freed-alone w t.elements))

-- ---- the search alone changes

searched-sound : (t : Tables) (search : List ℕ) → Sound t → search_sound search ≡ true → Sound (lent t.head t.elements (searching t.rest search))
searched-sound t search s f =
    record {
      head-fits = s.head-fits;
      rest-fits = rest-searched _ search s.rest-fits f;
      elements-fit = s.elements-fit;
      panel-true = s.panel-true;
      drives-fit = drives-searched t _ s.drives-fit search;
    }

-- ---- the panel's number, counted again

pub recounted-sound : (t : Tables) → Fitting t → Sound (change Recount t)
unfolding change
recounted-sound t f =
    let n = empty_shelves (roster t.head) t.elements in
    let same : SameRanges t.head (shown t.head n) = λ j i. shown-else t.head n j (λ m l. omega arith) in
    counted-sound _
    (head-fitting t _ f (shown-fits t.head n f.head-fits) same (shown-else t.head n unit_at (λ m l. omega arith)))
    (rw (roster-same t.head _ same) (shown-panel t.head n (omega (arith, f.head-fits.length-is))))

pub change-sound : (c : Change) (t : Tables) → Fit t c → Sound t → Sound (change c t)
unfolding change
change-sound (OfHead c) t f s = head-change-sound c t f s
change-sound (OfElements c) t f s = element-change-sound c t f s
change-sound (OfSearch c) t f s = searched-sound t _ s f
change-sound Recount t f s = recounted-sound t (sound-fits t s)

-- what a verdict leaves is sound
abbrev pub Sounds : Tables → Verdict → Type 0
Sounds t (Number n) = Unit {0}
Sounds t (Prevented n h) = Unit {0}
Sounds t (Done status bytes cs) = Sound (changes cs t)
