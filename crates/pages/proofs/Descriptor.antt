-- The lengths of labels, descriptors and runs of them. Assumes nothing.
use Prim.Native.Nat.{ℕ, zero, suc, ◌+◌, ◌*◌, ◌≤◌, ◌<◌}
use native.Mathlib.Omega.{arith}
use mathlib.Core.Path.{◌≡◌, refl, sym, ap, ◌∙◌}
use mathlib.Core.Bool.{Bool, true, false}
use mathlib.Core.List.{List, [], ◌∷◌, ◌++◌, map, map-append, append_assoc, append-nil}
use lib.ListN.{length, take, length-append, length-take, length-drop}
use lib.Dec.{eqb, eqb-suc-zero, T}
use borrow.Author.Tests.{eqb-false, ne_eqb}
use Rattle.rules.specs.Choice.{when}
use Rattle.rules.specs.Tables.{Tables, tag_size, element_at, element_size, volume}
use Rattle.rules.specs.Roster.{Slot, slots}
use Rattle.rules.specs.Listing.{label, front, descriptor, width, joined, page_header, keep}
use Rattle.rules.specs.Bytes.{three}
use Rattle.rules.proofs.Ladder.{on}
use Rattle.pages.specs.Marks.{marked_at, marked, marked_of, marks_in}
use Rattle.pages.specs.Pages.{Labelled, slot, descriptors, page_bytes, shown}
use Rattle.pages.proofs.Marked.{marks-length, marked_more, marked-one, marked-not}

pub label-length : (tags blank : List ℕ) (v : ℕ) → length blank ≡ tag_size → tag_size * v ≤ length tags → length (label tags blank v) ≡ tag_size
unfolding label
label-length tags blank v hb hv =
    on (λ (x : List ℕ). length x ≡ tag_size) (eqb v 0) (λ e. hb)
    (λ e. let n = eqb-false v 0 e in simp (length-take, length-drop) (omega arith))

pub descriptor-length : (tagged : Bool) (t : Tables) (s : Slot) → Labelled t → element_at s.place + element_size ≤ length t.elements
    → length (descriptor tagged t s) ≡ width tagged
unfolding descriptor front width when
descriptor-length true t s ok h =
    let n = label-length t.rest.tags t.rest.blank (volume t.elements s.place) ok.blank (ok.volumes s.place h) in
    simp length-append (omega arith)
descriptor-length false t s ok h = refl

pub width_few : (tagged : Bool) → (16 ≤ width tagged) × (width tagged ≤ 52)
unfolding width when
width_few true = omega arith
width_few false = omega arith

pub times-width : (tagged : Bool) (n : ℕ) → n < 65536 → n * width tagged < 3407872
unfolding width when
times-width true n h = omega arith
times-width false n h = omega arith

-- the bytes of a descriptor, and of all of them, are few
pub few : (tagged : Bool) (n w : ℕ) → w ≡ width tagged → n < 65536 → (w ≤ 52) × (n * w < 3407872)
few tagged n w e h = rw e ((width_few tagged).1, times-width tagged n h)

pub page-header-length : (tagged : Bool) (kind n : ℕ) (bytes : List ℕ) → length (page_header tagged kind n ++ bytes) ≡ 8 + length bytes
unfolding page_header three
page-header-length tagged kind n bytes = omega arith

pub joined-append : (ps qs : List (List ℕ)) → joined (ps ++ qs) ≡ joined ps ++ joined qs
unfolding joined
joined-append [] qs = refl
joined-append (p ∷ ps) qs = rw (joined-append ps qs) (sym (append_assoc p (joined ps) (joined qs)))

-- ---- elements whose descriptors have their full width

abbrev pub Wide : Bool → Tables → List Slot → Type 0
Wide tagged t [] = T true
Wide tagged t (s ∷ ss) = (length (descriptor tagged t s) ≡ width tagged) × Wide tagged t ss

pub wide-slots : (tagged : Bool) (t : Tables) (k a p n : ℕ) → Labelled t → (0 < n → element_at (p + n) ≤ length t.elements) → Wide tagged t (slots k a p n)
unfolding slots
wide-slots tagged t k a p zero ok h = tt
wide-slots tagged t k a p (suc n) ok hh =
    let h = hh (omega arith) in
    (descriptor-length tagged t (slot k a p) ok (omega arith), wide-slots tagged t k (suc a) (suc p) n ok (λ q. omega arith))

pub wide-keep : (tagged : Bool) (t : Tables) (f : Slot → Bool) (ss : List Slot) → Wide tagged t ss → Wide tagged t (keep f ss)
unfolding keep
wide-keep tagged t f [] w = tt
wide-keep tagged t f (s ∷ ss) w = on (Wide tagged t) (f s) (λ e. (w.0, wide-keep tagged t f ss w.1)) (λ e. wide-keep tagged t f ss w.1)

pub wide-take : (tagged : Bool) (t : Tables) (m : ℕ) (ss : List Slot) → Wide tagged t ss → Wide tagged t (take m ss)
wide-take tagged t zero ss w = tt
wide-take tagged t (suc m) [] w = tt
wide-take tagged t (suc m) (s ∷ ss) w = (w.0, wide-take tagged t m ss w.1)

pub wide-length : (tagged : Bool) (t : Tables) (ss : List Slot) → Wide tagged t ss → length (descriptors tagged t ss) ≡ length ss * width tagged
unfolding joined
wide-length tagged t [] w = omega arith
wide-length tagged t (s ∷ ss) w =
    let r = wide-length tagged t ss w.1 in
    let e = length-append (descriptor tagged t s) (descriptors tagged t ss) in
    let d = w.0 in
    omega arith

-- those of a run that are marked
pub run_length : (tagged : Bool) (t : Tables) (marks : List ℕ) (k a p n : ℕ) → Labelled t → element_at (p + n) ≤ length t.elements
    → length (descriptors tagged t (marked_of marks k a p n)) ≡ marks_in marks n p * width tagged
run_length tagged t marks k a p n ok h =
    wide-length tagged t (marked_of marks k a p n) (wide-keep tagged t (marked marks) _ (wide-slots tagged t k a p n ok (λ q. h)))
    ∙ ap (λ (x : ℕ). x * width tagged) (marks-length marks k a p n)

-- one element more
pub descriptors-more : (tagged : Bool) (t : Tables) (marks : List ℕ) (k a p n : ℕ)
    → descriptors tagged t (marked_of marks k a p (n + 1))
    ≡ descriptors tagged t (marked_of marks k a p n) ++ descriptors tagged t (marked_of marks k (a + n) (p + n) 1)
descriptors-more tagged t marks k a p n =
    rw (
      marked_more marks k a p n,
      map-append (descriptor tagged t) (marked_of marks k a p n) (marked_of marks k (a + n) (p + n) 1),
      joined-append (map (descriptor tagged t) (marked_of marks k a p n)) (map (descriptor tagged t) (marked_of marks k (a + n) (p + n) 1)),
    )

pub descriptors-one : (tagged : Bool) (t : Tables) (marks : List ℕ) (k a p : ℕ) → marked_at marks p ≡ true
    → descriptors tagged t (marked_of marks k a p 1) ≡ descriptor tagged t (slot k a p)
unfolding joined
descriptors-one tagged t marks k a p e = rw (marked-one marks k a p e) (append-nil (descriptor tagged t (slot k a p)))

pub descriptors-none : (tagged : Bool) (t : Tables) (marks : List ℕ) (k a p : ℕ) → marked_at marks p ≡ false
    → descriptors tagged t (marked_of marks k a p 1) ≡ []
unfolding joined
descriptors-none tagged t marks k a p e = rw (marked-not marks k a p e)

-- ---- a page

pub page-bytes-few : (tagged : Bool) (m : ℕ) → m < 65536 → page_bytes tagged m < 3407880
unfolding page_bytes
page-bytes-few tagged m h =
    let w = times-width tagged m h in
    on (λ (x : ℕ). x < 3407880) (eqb m 0) (λ e. omega arith) (λ e. omega arith)

pub page-bytes-is : (tagged : Bool) (m : ℕ) → (m ≡ 0 → ⊥) → page_bytes tagged m ≡ 8 + m * width tagged
unfolding page_bytes when
page-bytes-is tagged m h = rw (ne_eqb m 0 h)

pub shown-length : (tagged : Bool) (t : Tables) (k n : ℕ) (ss : List Slot) → Wide tagged t ss
    → length (shown tagged t k n ss) ≡ page_bytes tagged (length ss)
unfolding shown page_bytes when
shown-length tagged t k n [] w = refl
shown-length tagged t k n (s ∷ ss) w =
    let r = wide-length tagged t (s ∷ ss) w in
    rw (eqb-suc-zero (length ss), page-header-length tagged k n (descriptors tagged t (s ∷ ss)), r)
