-- Searches tell no address twice and every match, and only what they returned whole. Assumes nothing.
use Prim.Native.Nat.{ℕ, zero, suc, ◌+◌, ◌-◌, ◌≤◌}
use native.Mathlib.Omega.{arith}
use mathlib.Core.Path.{◌≡◌, refl, sym, ap, subst, ◌∙◌}
use mathlib.Core.Bool.{Bool, true, false, not}
use mathlib.Core.List.{List, [], ◌∷◌, ◌++◌, map, Memᴰ}
use lib.ListN.{length, take, drop, replicate, length-append}
use lib.Seq.{take-append_seam}
use borrow.Author.Tests.{eqb-true, eq-eqb}
use Rattle.rules.specs.Choice.{when}
use Rattle.rules.specs.Bytes.{byte, word}
use Rattle.rules.specs.Tables.{Tables, Rest, hosts, next_address, action}
use Rattle.rules.specs.Roster.{Slot}
use Rattle.rules.specs.Sound.{sound}
use Rattle.rules.specs.Operation.{REQUEST-VOLUME-ELEMENT-ADDRESS}
use Rattle.rules.specs.Order.{Outcome, GOOD, outcome}
use Rattle.rules.specs.Listing.{with_tags, pages_of, joined, header_of, listing}
use Rattle.rules.specs.Search.{found_by, told_by, behind_all, request_address}
use Rattle.rules.specs.Command.{Request, Call, Command, Import, Export, Reset, serve}
use Rattle.rules.specs.Histories.{History, begun, called, Mixing, none, left, right, From, more, next, run, run_requests, mixes}
use Rattle.rules.specs.Told.{addresses, went_well, goes_on, tells, renews, told_in, one_search}
use Rattle.rules.proofs.Ladder.{never, when_true, all_first, all_rest, all_cons, all_nil}
use Rattle.rules.proofs.Ascending.{Rising as SlotsRising}
use Rattle.rules.proofs.Soundness.{within_low, within-high}
use Rattle.rules.proofs.Sequences.{leaves-next, next-sound}
use Rattle.rules.proofs.Header.{listing-from-8}
use Rattle.rules.proofs.Acts.{good-known, found-serves}
use Rattle.rules.proofs.SearchKept.{call_kept, mixes-kept}
use Rattle.rules.proofs.Finds.{matches, told-rises, told-count, fitting-whole, none-below-8, gone, gone-address, gone-before, told-and-left, told-some}
use Rattle.promises.proofs.Listings.{searches-returned}
use Rattle.promises.specs.Searches.{Rising, NoneTwice, OnlyWhole, AsksForAll, EveryMatch, SearchKept, MixingsKeepSearch}

-- ---- a request that went well

record Well (first : ℕ) (r : Request) (o : Outcome) : Type 0 where
  first-is : byte r.block 0 ≡ first
  number_is : o.number ≡ 0
  status-is : o.status ≡ GOOD

well : (first : ℕ) (r : Request) (o : Outcome) → went_well first r o ≡ true → Well first r o
unfolding went_well
well first r o e =
    let e₁ = all_rest _ _ e in
    record { first-is = eqb-true _ _ (all_first _ _ e); number_is = eqb-true _ _ (all_first _ _ e₁); status-is = eqb-true _ _ (all_first _ _ (all_rest _ _ e₁)) }

well-on : (t : Tables) (r : Request) → goes_on (Command r) (serve t (Command r)) ≡ true → Well REQUEST-VOLUME-ELEMENT-ADDRESS r (serve t (Command r))
unfolding goes_on
well-on t r e = well _ r _ e

-- the tables that a REQUEST VOLUME ELEMENT ADDRESS leaves, if it went well
well-gone : (t : Tables) (r : Request) → Well REQUEST-VOLUME-ELEMENT-ADDRESS r (serve t (Command r))
    → (serve t (Command r)).tables ≡ gone t r.host r.block
unfolding outcome request_address
well-gone t r w = ap (λ (o : Outcome). o.tables) (found-serves t r w.first-is w.number_is w.status-is)

module _ (t : Tables) (r : Request) (w : Well REQUEST-VOLUME-ELEMENT-ADDRESS r (serve t (Command r))) where
  ok : sound t ≡ true
  ok = (good-known t r w.number_is).1

  low : 1 ≤ r.host
  low = within_low 1 hosts _ (good-known t r w.number_is).0

  high : r.host ≤ hosts
  high = within-high 1 hosts _ (good-known t r w.number_is).0

-- ---- no address is told twice

rising-join : (a : ℕ) (ss : List Slot) (xs : List ℕ) → SlotsRising a ss → Rising (behind_all a ss) xs → Rising a (addresses ss ++ xs)
unfolding behind_all
rising-join a [] xs r q = q
rising-join a (s ∷ ss) xs r q = (r.0, rising-join (suc s.address) ss xs r.1 q)

denied : (b : Bool) → not b ≡ true → b ≡ false
denied true e = absurd (never e)
denied false e = refl

well-rises : (t : Tables) (r : Request) → sound t ≡ true → Well REQUEST-VOLUME-ELEMENT-ADDRESS r (serve t (Command r)) → (xs : List ℕ)
    → Rising (next_address (serve t (Command r)).tables.rest.search) xs → Rising (next_address t.rest.search) (addresses (told_by t r.block) ++ xs)
well-rises t r s w xs q =
    let g = gone-address t s r.host (low t r w) (high t r w) r.block in
    let z = subst (λ (u : Tables). Rising (next_address u.rest.search) xs) (well-gone t r w) q in
    rising-join _ (told_by t r.block) xs (told-rises t r.block s) (subst (λ (a : ℕ). Rising a xs) g z)

-- what a call adds before what follows
call-rises : (t : Tables) (c : Call) → sound t ≡ true → renews c (serve t c) ≡ false → (xs : List ℕ)
    → Rising (next_address (serve t c).tables.rest.search) xs → Rising (next_address t.rest.search) (tells t c (serve t c) ++ xs)
unfolding tells
call-rises t (Command r) s n xs q = go (goes_on (Command r) (serve t (Command r))) refl
  where
    go : (b : Bool) → goes_on (Command r) (serve t (Command r)) ≡ b
        → Rising (next_address t.rest.search) (when b (addresses (told_by t r.block)) [] ++ xs)
    go true e = unfold when in well-rises t r s (well-on t r e) xs q
    go false e = unfold when in subst (λ (x : Rest). Rising (next_address x.search) xs) (call_kept t (Command r) n e) q
call-rises t (Import a v) s n xs q = unfold goes_on in subst (λ (x : Rest). Rising (next_address x.search) xs) (call_kept t (Import a v) n refl) q
call-rises t (Export a) s n xs q = unfold goes_on in subst (λ (x : Rest). Rising (next_address x.search) xs) (call_kept t (Export a) n refl) q
call-rises t Reset s n xs q = unfold goes_on in subst (λ (x : Rest). Rising (next_address x.search) xs) (call_kept t Reset n refl) q

history-rises : {t u : Tables} {cs : List Call} {os : List Outcome} (hs : History t cs os u) → sound t ≡ true → one_search hs ≡ true
    → Rising (next_address t.rest.search) (told_in hs)
unfolding told_in one_search
history-rises begun s n = tt
history-rises (called {t = t} {c = c} {o = o} e hs) s n =
    let m = denied _ (all_first _ _ n) in
    let i = history-rises hs (next-sound t c o e s) (all_first _ _ (all_rest _ _ n)) in
    subst (λ (x : Outcome). Rising (next_address t.rest.search) (tells t c x ++ told_in hs)) (sym e)
    (call-rises t c s (subst (λ (x : Outcome). renews c x ≡ false) e m) (told_in hs)
    (subst (λ (x : Outcome). Rising (next_address x.tables.rest.search) (told_in hs)) e i))

pub none-twice : NoneTwice
none-twice t u cs os hs s n = history-rises hs s n

-- ---- what keeps the search

pub search-kept : SearchKept
search-kept t c n g = ap (λ (x : Rest). x.search) (call_kept t c n g)

request-kept : (t : Tables) (r : Request) → mixes r.block ≡ true → (next t (Command r)).rest ≡ t.rest
unfolding next
request-kept t r m = subst (λ (u : Tables). u.rest ≡ t.rest) (leaves-next t (Command r)) (mixes-kept t r m)

mixed-kept : (h g : ℕ) (xs ys zs : List Request) → From h xs → From g ys → Mixing xs ys zs → (t : Tables) → (run t (map Command zs)).rest ≡ t.rest
unfolding run
mixed-kept h g [] [] [] f k none t = refl
mixed-kept h g [] (y ∷ ys) [] f k m t = elim m [ ]
mixed-kept h g (x ∷ xs) ys [] f k m t = elim m [ ]
mixed-kept h g (x ∷ xs) ys (x' ∷ zs) (more a b f) k (left m) t = mixed-kept h g xs ys zs f k m (next t (Command x)) ∙ request-kept t x b
mixed-kept h g xs (y ∷ ys) (y' ∷ zs) f (more a b k) (right m) t = mixed-kept h g xs ys zs f k m (next t (Command y)) ∙ request-kept t y b

pub mixings-keep-search : MixingsKeepSearch
unfolding run_requests
mixings-keep-search h g xs ys zs f k m t = ap (λ (x : Rest). x.search) (mixed-kept h g xs ys zs f k m t)

-- ---- only descriptors returned whole

module _ (t : Tables) (r : Request) (w : Well REQUEST-VOLUME-ELEMENT-ADDRESS r (serve t (Command r))) where
  returned-whole : 8 ≤ word r.block 7 → take (serve t (Command r)).count (serve t (Command r)).buffer
      ≡ header_of (action t.rest.search) (found_by t r.block) (pages_of (with_tags r.block) t (found_by t r.block))
      ++ joined (take (length (told_by t r.block)) (pages_of (with_tags r.block) t (found_by t r.block)))
  returned-whole l =
      let listed = searches-returned t r w.first-is w.number_is w.status-is in
      let block = r.block in
      let code = action t.rest.search in
      let ps = pages_of (with_tags block) t (found_by t block) in
      let bytes = listing code (with_tags block) t (word block 7) (found_by t block) in
      let front : take (serve t (Command r)).count (serve t (Command r)).buffer ≡ bytes =
      ap (take (serve t (Command r)).count) listed.buffer-is
      ∙ ap (λ (n : ℕ). take n (bytes ++ drop (serve t (Command r)).count r.buffer)) listed.count-is
      ∙ take-append_seam bytes (drop (serve t (Command r)).count r.buffer) in
      front
      ∙ listing-from-8 code (with_tags block) t (found_by t block) (word block 7) l
      ∙ ap (λ (x : List ℕ). header_of code (found_by t block) ps ++ x)
      (fitting-whole (word block 7 - 8) ps ∙ ap (λ (n : ℕ). joined (take n ps)) (sym (told-count t block)))

pub only-whole : OnlyWhole
only-whole t r e =
    let w = well-on t r e in
    let s = ok t r w in
    record {
      returned = returned-whole t r w;
      header-alone = none-below-8 t r.block s;
      search-else = λ j l.
          subst (λ (u : Tables). byte u.rest.search j ≡ byte t.rest.search j) (sym (well-gone t r w))
          (gone-before t s r.host (low t r w) (high t r w) r.block j l);
    }

-- ---- every match

-- a call that asks for all and goes well: what it tells, and what is left
module _ (t : Tables) (s : sound t ≡ true) (r : Request) (a : AsksForAll r) (w : Well REQUEST-VOLUME-ELEMENT-ADDRESS r (serve t (Command r))) where
  split : told_by t r.block ++ matches (serve t (Command r)).tables ≡ matches t
  split =
      subst (λ (u : Tables). told_by t r.block ++ matches u ≡ matches t) (sym (well-gone t r w))
      (told-and-left t s r.host (low t r w) (high t r w) r.block a.all_types a.from_start)

  fewer : (n : ℕ) → length (matches t) ≤ suc n → length (matches (serve t (Command r)).tables) ≤ n
  fewer n l =
      let k = sym (length-append (told_by t r.block) (matches (serve t (Command r)).tables)) ∙ ap length split in
      go (length (matches t)) refl k
    where
      go : (m : ℕ) → length (matches t) ≡ m → length (told_by t r.block) + length (matches (serve t (Command r)).tables) ≡ length (matches t)
          → length (matches (serve t (Command r)).tables) ≤ n
      go zero e k = omega arith
      go (suc m) e k =
          omega (arith, told-some t s r.host (low t r w) (high t r w) r.block a.all_types a.from_start a.some a.room (omega arith))

well-so : (t : Tables) (r : Request) → AsksForAll r → ((serve t (Command r)).number ≡ 0) × ((serve t (Command r)).status ≡ GOOD)
    → Well REQUEST-VOLUME-ELEMENT-ADDRESS r (serve t (Command r))
well-so t r a (n, s) = record { first-is = a.first-is; number_is = n; status-is = s }

map-join : (ss us : List Slot) → addresses (ss ++ us) ≡ addresses ss ++ addresses us
map-join [] us = refl
map-join (s ∷ ss) us = ap (λ (x : List ℕ). s.address ∷ x) (map-join ss us)

well-tells : (t : Tables) (r : Request) → Well REQUEST-VOLUME-ELEMENT-ADDRESS r (serve t (Command r))
    → tells t (Command r) (serve t (Command r)) ≡ addresses (told_by t r.block)
unfolding tells goes_on went_well
well-tells t r w =
    when_true _ _ _ (all_cons _ _ (eq-eqb _ _ w.first-is) (all_cons _ _ (eq-eqb _ _ w.number_is) (all_cons _ _ (eq-eqb _ _ w.status-is) all_nil)))

none_left : (ss : List Slot) → length ss ≤ 0 → [] ≡ addresses ss
none_left [] l = refl
none_left (s ∷ ss) l = absurd (omega arith)

sweeps : (n : ℕ) {t u : Tables} {os : List Outcome} (r : Request) (hs : History t (replicate n (Command r)) os u) → sound t ≡ true
    → AsksForAll r → ((o : Outcome) → Memᴰ o os → (o.number ≡ 0) × (o.status ≡ GOOD)) → length (matches t) ≤ n → told_in hs ≡ addresses (matches t)
unfolding told_in
sweeps zero {t} r begun s a g l = none_left (matches t) l
sweeps (suc n) r (called {t = t} {o = o} e hs) s a g l =
    let w = well-so t r a (subst (λ (x : Outcome). (x.number ≡ 0) × (x.status ≡ GOOD)) e (g o (Memᴰ.head refl))) in
    let k = subst (λ (x : Outcome). length (matches x.tables) ≤ n) (sym e) (fewer t s r a w n l) in
    let i = sweeps n r hs (next-sound t (Command r) o e s) a (λ p m. g p (Memᴰ.tail m)) k in
    let first = ap (tells t (Command r)) e ∙ well-tells t r w in
    let left = ap (λ (x : Outcome). matches x.tables) e in
    ap (λ (x : List ℕ). x ++ told_in hs) first
    ∙ ap (λ (x : List ℕ). addresses (told_by t r.block) ++ x) (i ∙ ap (λ (x : List Slot). addresses x) left)
    ∙ sym (map-join (told_by t r.block) (matches (serve t (Command r)).tables))
    ∙ ap (λ (x : List Slot). addresses x) (split t s r a w)

pub every-match : EveryMatch
every-match t u r n os hs s a g l = sweeps n r hs s a g l
