-- Every search that a call leaves is sound: a new one, one that has gone on, one that was cleared. Assumes nothing.
use Prim.Native.Nat.{ℕ, zero, suc, ◌+◌, ◌-◌, ◌%◌, ◌<◌, ◌≤◌}
use native.Mathlib.Omega.{arith}
use mathlib.Core.Path.{◌≡◌, refl, sym, ap, ◌∙◌}
use mathlib.Core.Logic.{◌≢◌}
use mathlib.Core.Bool.{Bool, true, false}
use mathlib.Core.List.{List, [], ◌∷◌, ◌++◌}
use lib.ListN.{length, take, get_or, replicate}
use lib.Seq.{length-take-le}
use lib.Dec.{eqb, leb, ltb, T}
use borrow.Author.Tests.{eqb-true, eq-eqb, leb-true, le-leb, ltb-true, ltb-false, ne_eqb}
use Rattle.rules.specs.Choice.{when, all_of}
use Rattle.rules.specs.Bytes.{byte, word, triple, three, put}
use Rattle.rules.specs.Tables.{Tables, search_size, template_size, next_at, behind_last, search_type, action, next_address}
use Rattle.rules.specs.Roster.{Slot, Range, sorted, ranges, slots, spread, roster, drive}
use Rattle.rules.specs.Ranges.{Each}
use Rattle.rules.specs.Sound.{search_sound, ranges_sound}
use Rattle.rules.specs.Listing.{with_tags, type_code, keep, of_type, at_or_above, chosen, chosen_of, pages_of, wholes}
use Rattle.rules.specs.Form.{type_fault, action_fault, lower, own_fault, fault}
use Rattle.rules.specs.Operation.{SendVolumeTag}
use Rattle.rules.specs.Search.{known_action, action_code, tag_list_size, search_for, no_search, found, found_by, told_by, behind_all}
use Rattle.rules.proofs.Ladder.{on, when_true, when_false, either, any-cases, any-by-first, any-by-rest, any-nil, all_first, all_rest, all_cons, all_nil, below_at, below_of, eq-differ}
use Rattle.rules.proofs.Writes.{put-length, put-append, byte_put, byte-put-same}
use Rattle.rules.proofs.Soundness.{RangeFits, Sound, head-ranges}
use Rattle.rules.proofs.Ascending.{sorted-fit}

-- ---- as plain facts

pub record SearchFits (search : List ℕ) : Type 0 where
  pub known : known_action (action search) ≡ true
  pub type-is : search_type search ≤ drive
  pub next-is : next_address search ≤ behind_last

abbrev pub Zeros : List ℕ → Type 0
Zeros search = (i : ℕ) → i < search_size → byte search i ≡ 0

pub search-length : (search : List ℕ) → search_sound search ≡ true → length search ≡ search_size
unfolding search_sound
search-length search e = eqb-true _ _ (all_first _ _ e)

-- no search, or one that fits
pub search-cases : {P : Type 0} (search : List ℕ) → search_sound search ≡ true → (Zeros search → P) → (SearchFits search → P) → P
unfolding search_sound
search-cases search e z f =
    any-cases _ _ (all_first _ _ (all_rest _ _ e)) (λ a. z (λ i l. eqb-true _ _ (below_at search_size (λ i. eqb (byte search i) 0) a i l)))
    λ b. any-cases _ _ b (λ x. f (record {
      known = all_first _ _ x;
      type-is = leb-true _ _ (all_first _ _ (all_rest _ _ x));
      next-is = leb-true _ _ (all_first _ _ (all_rest _ _ (all_rest _ _ x)));
    }))
    λ n. absurd (any-nil n)

none-sound : (search : List ℕ) → length search ≡ search_size → Zeros search → search_sound search ≡ true
unfolding search_sound
none-sound search l z =
    all_cons _ _ (eq-eqb _ _ l) (all_cons _ _ (any-by-first _ _ (below_of search_size _ (λ i h. eq-eqb _ _ (z i h)))) all_nil)

some-sound : (search : List ℕ) → length search ≡ search_size → SearchFits search → search_sound search ≡ true
unfolding search_sound
some-sound search l f =
    all_cons _ _ (eq-eqb _ _ l)
    (all_cons _ _
    (any-by-rest _ _ (any-by-first _ _ (all_cons _ _ f.known (all_cons _ _ (le-leb _ _ f.type-is) (all_cons _ _ (le-leb _ _ f.next-is) all_nil)))))
    all_nil)

-- ---- a new search

lower-none : (i j : ℕ) → lower i j ≡ 0 → (i ≡ 0) × (j ≡ 0)
unfolding lower
lower-none i j e =
    either i 0
    (λ a. (a, sym (when_true (eqb i 0) _ _ (eq-eqb _ _ a)) ∙ e))
    λ a.
    let x = sym (when_false (eqb i 0) _ _ (ne_eqb _ _ a)) ∙ e in
    either j 0
    (λ b. absurd (a (sym (when_true (eqb j 0) _ _ (eq-eqb _ _ b)) ∙ x)))
    λ b.
    let y = sym (when_false (eqb j 0) _ _ (ne_eqb _ _ b)) ∙ x in
    absurd (on (λ (n : ℕ). n ≢ 0) (leb i j) (λ _. a) (λ _. b) y)

-- step 4 lets no other type or action through
begun-type : (block : List ℕ) → type_fault block ≡ 0 → type_code block ≤ drive
unfolding type_fault when
begun-type block e =
    go (ltb drive (type_code block)) refl e
  where
    go : (b : Bool) → ltb drive (type_code block) ≡ b → ◌≡◌ {A = ℕ} (when b 1 0) 0 → type_code block ≤ drive
    go true x y = absurd (omega (arith, y))
    go false x y = ltb-false _ _ x

begun-action : (block : List ℕ) → action_fault block ≡ 0 → known_action (action_code block) ≡ true
unfolding action_fault when
begun-action block e =
    go (known_action (action_code block)) refl e
  where
    go : (b : Bool) → known_action (action_code block) ≡ b → ◌≡◌ {A = ℕ} (when b 0 5) 0 → known_action (action_code block) ≡ true
    go true x y = x
    go false x y = absurd (omega (arith, y))

module _ (search block list : List ℕ) (l : length search ≡ search_size) (n : length list ≡ tag_list_size) where
  -- what stands behind the template
  tail : List ℕ
  tail = type_code block ∷ action_code block ∷ byte list 34 ∷ byte list 35 ∷ byte list 38 ∷ byte list 39 ∷ three (word block 2 % behind_last)

  begun-parts : put search 0 (search_for block list) ≡ put (put search 0 (take template_size list)) template_size tail
  unfolding search_for tail
  begun-parts = sym (put-append search 0 template_size (take template_size list) _ (omega (arith, length-take-le template_size list (omega arith))))

  begun-at : (k : ℕ) → k < 9 → byte (put search 0 (search_for block list)) (template_size + k) ≡ get_or tail k 0
  unfolding three tail
  begun-at k h = ap (λ (xs : List ℕ). byte xs (template_size + k)) begun-parts
      ∙ byte-put-same (put search 0 (take template_size list)) template_size (template_size + k) k tail refl (omega (arith, put-length search 0 (take template_size list))) h

  begun-next : next_address (put search 0 (search_for block list)) ≡ word block 2 % behind_last
  unfolding next_address triple word three tail
  begun-next = let a = begun-at 6 (omega arith) in let b = begun-at 7 (omega arith) in let c = begun-at 8 (omega arith) in omega arith

  pub search-begun : (head : List ℕ) → eqb (fault SendVolumeTag head block list) 0 ≡ true → search_sound (put search 0 (search_for block list)) ≡ true
  unfolding fault own_fault search_type action tail
  search-begun head e =
      let f = lower-none _ _ (lower-none _ _ (eqb-true _ _ e)).1 in
      some-sound _ (put-length search 0 _ ∙ l) (record {
        known = rw (begun-at 1 (omega arith)) (begun-action block f.1);
        type-is = rw (begun-at 0 (omega arith)) (begun-type block f.0);
        next-is = omega (arith, begun-next);
      })

-- ---- one that was cleared

cleared_at : (n i : ℕ) → ◌≡◌ {A = ℕ} (get_or (replicate n 0) i 0) 0
cleared_at zero i = refl
cleared_at (suc n) zero = refl
cleared_at (suc n) (suc i) = cleared_at n i

pub search-cleared : (search : List ℕ) → search_sound search ≡ true → search_sound (put search 0 no_search) ≡ true
unfolding no_search
search-cleared search e =
    let l = search-length search e in
    none-sound _ (put-length search 0 _ ∙ l)
    (λ i h. byte-put-same search 0 i i (replicate search_size 0) (omega arith) (omega arith) h ∙ cleared_at search_size i)

-- ---- one that has gone on

-- every address is below b
abbrev Under : ℕ → List Slot → Type 0
Under b [] = T true
Under b (s ∷ ss) = (s.address < b) × Under b ss

under-append : (b : ℕ) (ss us : List Slot) → Under b ss → Under b us → Under b (ss ++ us)
under-append b [] us x y = y
under-append b (s ∷ ss) us x y = (x.0, under-append b ss us x.1 y)

under-slots : (b k a p n : ℕ) → (n ≢ 0 → a + n ≤ b) → Under b (slots k a p n)
unfolding slots
under-slots b k a p zero h = tt
under-slots b k a p (suc n) h =
    let l = h (omega arith) in
    (omega arith, under-slots b k (suc a) (suc p) n (λ _. omega arith))

under-spread : (p : ℕ) (rs : List Range) → Each RangeFits rs → Under behind_last (spread p rs)
unfolding spread
under-spread p [] f = tt
under-spread p (r ∷ rs) f =
    under-append behind_last (slots r.kind r.first p r.count) _ (under-slots behind_last r.kind r.first p r.count f.0.high) (under-spread (p + r.count) rs f.1)

under-keep : (b : ℕ) (f : Slot → Bool) (ss : List Slot) → Under b ss → Under b (keep f ss)
unfolding keep
under-keep b f [] u = tt
under-keep b f (s ∷ ss) u = on (Under b) (f s) (λ _. (u.0, under-keep b f ss u.1)) (λ _. under-keep b f ss u.1)

under-take : (b n : ℕ) (ss : List Slot) → Under b ss → Under b (take n ss)
under-take b zero ss u = tt
under-take b (suc n) [] u = tt
under-take b (suc n) (s ∷ ss) u = (u.0, under-take b n ss u.1)

behind-under : (b a : ℕ) (ss : List Slot) → a ≤ b → Under b ss → behind_all a ss ≤ b
unfolding behind_all
behind-under b a [] l u = l
behind-under b a (s ∷ ss) l u = behind-under b _ ss (omega (arith, u.0)) u.1

told_under : (t : Tables) (block : List ℕ) → ranges_sound (ranges t.head) ≡ true → Under behind_last (told_by t block)
unfolding told_by found_by chosen_of chosen roster
told_under t block e =
    let b = behind_last in
    let rs = sorted (ranges t.head) in
    let all = keep (found t) (spread 0 rs) in
    let typed = keep (of_type (type_code block)) all in
    let above = keep (at_or_above (word block 2)) typed in
    let ss = take (word block 4) above in
    under-take b (wholes (word block 7 - 8) (pages_of (with_tags block) t ss)) ss
    (under-take b (word block 4) above
    (under-keep b (at_or_above (word block 2)) typed
    (under-keep b (of_type (type_code block)) all (under-keep b (found t) (spread 0 rs) (under-spread 0 rs (sorted-fit (ranges t.head) e))))))

-- without a search nothing is told
none_kept : (f : Slot → Bool) (ss : List Slot) → ((s : Slot) → f s ≡ false) → keep f ss ≡ []
unfolding keep
none_kept f [] n = refl
none_kept f (s ∷ ss) n = when_false (f s) _ _ (n s) ∙ none_kept f ss n

none_found : (t : Tables) (s : Slot) → action t.rest.search ≡ 0 → found t s ≡ false
unfolding found all_of
none_found t s e = when_false _ _ _ (eq-differ _ _ e)

take_none : (n : ℕ) → take {A = Slot} n [] ≡ []
take_none zero = refl
take_none (suc n) = refl

none_told : (t : Tables) (block : List ℕ) → action t.rest.search ≡ 0 → told_by t block ≡ []
unfolding told_by found_by chosen_of chosen
none_told t block e =
    rw (none_kept (found t) (roster t.head) (λ s. none_found t s e)) (unfold keep in rw (take_none (word block 4), take_none _))

module _ (search : List ℕ) (l : length search ≡ search_size) (n : ℕ) where
  pub gone-else : (i : ℕ) → i < next_at → byte (put search next_at (three n)) i ≡ byte search i
  unfolding three
  gone-else i h = byte_put search next_at i (three n) (λ k m e. omega arith)

  gone_at : (k : ℕ) → k < 3 → byte (put search next_at (three n)) (next_at + k) ≡ get_or (three n) k 0
  unfolding three
  gone_at k h = byte-put-same search next_at (next_at + k) k (three n) refl (omega arith) h

  pub gone-next : next_address (put search next_at (three n)) ≡ n
  unfolding next_address triple word three
  gone-next = let a = gone_at 0 (omega arith) in let b = gone_at 1 (omega arith) in let c = gone_at 2 (omega arith) in omega arith

  gone-fits : SearchFits search → n ≤ behind_last → SearchFits (put search next_at (three n))
  unfolding action search_type
  gone-fits f h =
      record {
        known = rw (gone-else 33 (omega arith)) f.known;
        type-is = rw (gone-else 32 (omega arith)) f.type-is;
        next-is = omega (arith, gone-next);
      }

three-zeros : (k : ℕ) → get_or (three 0) k 0 ≡ 0
unfolding three
three-zeros zero = refl
three-zeros (suc zero) = refl
three-zeros (suc (suc zero)) = refl
three-zeros (suc (suc (suc k))) = refl

gone-zeros : (search : List ℕ) → length search ≡ search_size → Zeros search → Zeros (put search next_at (three 0))
gone-zeros search l z i h =
    on (λ (b : Bool). byte (put search next_at (three 0)) i ≡ 0) (ltb i next_at) {x = true} {y = false}
    (λ e. gone-else search l 0 i (ltb-true _ _ e) ∙ z i h)
    (λ e.
    let g : next_at ≤ i = ltb-false i next_at e in
    let j : i ≡ next_at + (i - next_at) = omega arith in
    rw j (gone_at search l 0 (i - next_at) (omega arith) ∙ three-zeros (i - next_at)))

pub search-gone-on : (t : Tables) → Sound t → (block : List ℕ)
    → search_sound (put t.rest.search next_at (three (behind_all (next_address t.rest.search) (told_by t block)))) ≡ true
search-gone-on t s block =
    let search = t.rest.search in
    let ok = s.rest-fits.search-fits in
    let l = search-length search ok in
    search-cases search ok
    (λ z.
    let a : action search ≡ 0 = unfold action in z 33 (omega arith) in
    let n : behind_all (next_address search) (told_by t block) ≡ 0 = rw (none_told t block a) (unfold behind_all next_address triple word in omega (arith, z 38 (omega arith), z 39 (omega arith), z 40 (omega arith))) in
    rw n (none-sound _ (put-length search next_at _ ∙ l) (gone-zeros search l z)))
    (λ f. some-sound _ (put-length search next_at _ ∙ l) (gone-fits search l _ f (behind-under behind_last _ _ f.next-is (told_under t block (head-ranges _ s.head-fits)))))
