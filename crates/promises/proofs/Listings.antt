-- Listings are honest: the laws of the listing's header and of its cuts, and of the calls that return them. Assumes nothing.
use Prim.Native.Nat.{ℕ, ◌≤◌}
use mathlib.Core.Path.{◌≡◌, refl, sym, subst}
use mathlib.Core.List.{List}
use lib.ListN.{length}
use Rattle.rules.specs.Bytes.{word, triple}
use Rattle.rules.specs.Tables.{Tables, action}
use Rattle.rules.specs.Roster.{Slot}
use Rattle.rules.specs.Order.{outcome}
use Rattle.rules.specs.Listing.{with_tags, chosen_by, pages_of}
use Rattle.rules.specs.Search.{found_by, request_address}
use Rattle.rules.proofs.Writes.{put_front}
use Rattle.rules.proofs.Untouched.{count_fits}
use Rattle.rules.proofs.Acts.{listing-serves, found-serves}
use Rattle.rules.proofs.Header.{header-tells, listing_begins, listing-ends, listing-most, listing-within, listing-all, listing-grows, descriptors-told, descriptors-found, whole}
use Rattle.promises.specs.Listings.{Honest, HonestListings, Listed, ListingsReturned, SearchesReturned, returned_for}

honest : (code : ℕ) (t : Tables) (block : List ℕ) (allocation : ℕ) (ss : List Slot) → length (pages_of (with_tags block) t ss) ≡ length ss
    → Honest code t block allocation ss
unfolding whole
honest code t block allocation ss each =
    let tagged = with_tags block in
    record {
      first-address = λ h. (header-tells code tagged t ss allocation h).first;
      number-chosen = λ h. (header-tells code tagged t ss allocation h).number;
      page-bytes = λ h. (header-tells code tagged t ss allocation h).count;
      prefix = listing_begins code tagged t ss allocation;
      ends-whole = λ h. listing-ends code tagged t ss allocation h;
      one_each = each;
      within-allocation = listing-within code tagged t ss allocation;
      as-many-as-fit = λ h. listing-most code tagged t ss allocation h;
      whole = λ h. listing-all code tagged t ss allocation h;
      grows = λ more h. listing-grows code tagged t ss allocation more h;
    }

pub honest-listings : HonestListings
honest-listings t block allocation =
    record {
      read = honest 0 t block allocation (chosen_by t block) (descriptors-told (with_tags block) t block);
      search = honest (action t.rest.search) t block allocation (found_by t block) (descriptors-found (with_tags block) t block);
    }

-- ---- the calls

pub listings-returned : ListingsReturned
unfolding outcome
listings-returned t r first number good =
    let e = listing-serves t r first number good in
    let ss = chosen_by t r.block in
    let allocation = triple r.block 7 in
    let bytes = returned_for 0 t r.block allocation ss in
    let room : length bytes ≤ length r.buffer = subst (λ o. o.count ≤ length r.buffer) e (count_fits t r) in
    subst (Listed 0 t r allocation ss) (sym e)
    (record { count-is = refl; buffer-is = put_front bytes r.buffer room; honest = (honest-listings t r.block allocation).read })

pub searches-returned : SearchesReturned
unfolding outcome request_address
searches-returned t r first number good =
    let e = found-serves t r first number good in
    let code = action t.rest.search in
    let ss = found_by t r.block in
    let allocation = word r.block 7 in
    let bytes = returned_for code t r.block allocation ss in
    let room : length bytes ≤ length r.buffer = subst (λ o. o.count ≤ length r.buffer) e (count_fits t r) in
    subst (Listed code t r allocation ss) (sym e)
    (record { count-is = refl; buffer-is = put_front bytes r.buffer room; honest = (honest-listings t r.block allocation).search })
