-- The pages of MODE SENSE as the code writes them: how long each is, and how they make up the answer. Assumes nothing.
use Prim.Native.Nat.{ℕ, zero, suc, ◌+◌, ◌*◌, ◌-◌, ◌≤◌}
use native.Mathlib.Omega.{arith}
use native.Mathlib.Numerals.{add-one, unary_clauses}
use mathlib.Core.Path.{◌≡◌, refl, sym, ap, ◌∙◌}
use mathlib.Core.Bool.{Bool, true, false, not}
use mathlib.Core.List.{List, [], ◌∷◌, ◌++◌, append_assoc}
use lib.ListN.{length, length-append}
use lib.Dec.{ltb}
use Rattle.rules.specs.Choice.{when, any_of}
use Rattle.rules.specs.Roster.{range, ranges}
use Rattle.rules.specs.Mode.{ADDRESSES, GEOMETRY, CAPABILITIES, paged, assigned, assignments, members, capabilities, sought, mode_pages, mode_whole, page_control, page_code, known_page, no_answer}
use Rattle.rules.proofs.Ladder.{on, any-by-first, any-by-rest, ne-differ, eq-differ, test-is}
use Rattle.mode.specs.Judged.{piece, bytes_of}

-- ---- the transports of the set

pub members-length : (n i : ℕ) → length (members n i) ≡ 2 * n
unfolding members
members-length zero i = refl
members-length (suc n) i = omega (arith, members-length n (suc i))

members-suc : (n i : ℕ) → members (suc n) i ≡ members n i ++ (0 ∷ (i + n) ∷ [])
unfolding members
members-suc zero i = simp unary_clauses
members-suc (suc n) i =
    let e : suc i + n ≡ i + suc n = omega arith in
    ap (λ (ms : List ℕ). 0 ∷ i ∷ ms) (members-suc n (suc i) ∙ ap (λ (k : ℕ). members n (suc i) ++ (0 ∷ k ∷ [])) e)

-- one transport more, from the first on
pub members-more : (n : ℕ) → members (n + 1) 0 ≡ members n 0 ++ (0 ∷ n ∷ [])
members-more n = let e : 0 + n ≡ n = omega arith in rw add-one (members-suc n 0 ∙ ap (λ (k : ℕ). members n 0 ++ (0 ∷ k ∷ [])) e)

pub members-none : members 0 0 ≡ []
unfolding members
members-none = refl

-- ---- how long

pub addresses-length : (head : List ℕ) → length (assignments (ranges head)) ≡ 18
unfolding assignments assigned ranges
addresses-length head = refl

pub capabilities-length : length capabilities ≡ 18
unfolding capabilities
capabilities-length = refl

pub piece-length : (code page : ℕ) (parameters : List ℕ) (n : ℕ) → length parameters ≡ n → length (piece code page parameters) ≡ bytes_of code page n
unfolding piece bytes_of paged when
piece-length code page parameters n e = go (sought code page)
  where
    go : (b : Bool) → length (when b (page ∷ length parameters ∷ parameters) []) ≡ when b (2 + n) 0
    go true = omega arith
    go false = refl

pub bytes_most : (code page n : ℕ) → bytes_of code page n ≤ 2 + n
unfolding bytes_of
bytes_most code page n = on (λ (m : ℕ). m ≤ 2 + n) (sought code page) (λ _. omega arith) (λ _. omega arith)

pub bytes-sought : (code page n : ℕ) → sought code page ≡ true → bytes_of code page n ≡ 2 + n
unfolding bytes_of when
bytes-sought code page n e = rw e

pub bytes-passed : (code page n : ℕ) → sought code page ≡ false → bytes_of code page n ≡ 0
unfolding bytes_of when
bytes-passed code page n e = rw e

pub piece-sought : (code page : ℕ) (parameters : List ℕ) → sought code page ≡ true → piece code page parameters ≡ paged page parameters
unfolding piece when
piece-sought code page parameters e = rw e

pub piece-passed : (code page : ℕ) (parameters : List ℕ) → sought code page ≡ false → piece code page parameters ≡ []
unfolding piece when
piece-passed code page parameters e = rw e

module _ (head : List ℕ) (code : ℕ) where
  abbrev first : List ℕ
  first = piece code ADDRESSES (assignments (ranges head))

  abbrev second : List ℕ
  second = piece code GEOMETRY (members (range head 0).count 0)

  abbrev third : List ℕ
  third = piece code CAPABILITIES capabilities

  pages-are : mode_pages head code ≡ first ++ (second ++ third)
  unfolding mode_pages piece
  pages-are = refl

  -- the header and the pages, as they are written one behind the other
  pub whole-made : (n : ℕ) → n ≡ length (mode_whole head code)
      → ((((n - 1) ∷ 0 ∷ 0 ∷ 0 ∷ []) ++ first) ++ second) ++ third ≡ mode_whole head code
  unfolding mode_whole
  whole-made n e =
      let m : n - 1 ≡ 3 + length (mode_pages head code) = omega arith in
      let p : (first ++ second) ++ third ≡ mode_pages head code = append_assoc first second third ∙ sym pages-are in
      rw (m, p)

  pub whole_length : length (mode_whole head code) ≡ 4 + bytes_of code ADDRESSES 18 + bytes_of code GEOMETRY (2 * (range head 0).count) + bytes_of code CAPABILITIES 18
  unfolding mode_whole
  whole_length =
      let a = piece-length code ADDRESSES (assignments (ranges head)) 18 (addresses-length head) in
      let g = piece-length code GEOMETRY (members (range head 0).count 0) (2 * (range head 0).count) (members-length (range head 0).count 0) in
      let c = piece-length code CAPABILITIES capabilities 18 capabilities-length in
      let p : length (mode_pages head code) ≡ length (first ++ (second ++ third)) = ap length pages-are in
      omega (arith, a, g, c, p, length-append first (second ++ third), length-append second third)

-- ---- step 4: the three faults

module _ (head block : List ℕ) where
  pub other-control : (page_control block ≡ 0 → ⊥) → true ≡ no_answer head block
  unfolding no_answer
  other-control e = sym (any-by-first _ _ (ne-differ (page_control block) 0 e))

  pub other-page : (code : ℕ) → code ≡ page_code block → known_page code ≡ false → true ≡ no_answer head block
  unfolding no_answer
  other-page code d k = sym (any-by-rest _ _ (any-by-first _ _ (ap (λ (p : ℕ). not (known_page p)) (sym d) ∙ ap not k)))

  pub too_long : (code n : ℕ) → page_control block ≡ 0 → code ≡ page_code block → known_page code ≡ true → n ≡ length (mode_whole head code)
      → ltb 256 n ≡ no_answer head block
  unfolding no_answer any_of when
  too_long code n e d k m = rw (eq-differ (page_control block) 0 e, ← d, k, ← m) (test-is (ltb 256 n))
