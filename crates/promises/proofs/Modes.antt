-- Answers of MODE SENSE are cut, and no length in them is. Assumes nothing.
use Prim.Native.Nat.{ℕ, zero, suc, ◌+◌, ◌≤◌}
use native.Mathlib.Omega.{arith}
use mathlib.Core.Path.{◌≡◌, refl, sym, ap, subst, ◌∙◌}
use mathlib.Core.Bool.{true, false}
use mathlib.Core.List.{List, [], ◌∷◌, ◌++◌, append-nil}
use lib.ListN.{length, take, drop, length-append}
use lib.Seq.{drop-append_seam}
use borrow.Author.Tests.{ltb-false, not-false}
use Rattle.rules.specs.Choice.{when, any_of}
use Rattle.rules.specs.Bytes.{byte, put, cut}
use Rattle.rules.specs.Tables.{Tables}
use Rattle.rules.specs.Roster.{ranges, range}
use Rattle.rules.specs.Operation.{ModeSense, MODE-SENSE, decoded, operation}
use Rattle.rules.specs.Order.{outcome}
use Rattle.rules.specs.Mode.{ADDRESSES, GEOMETRY, CAPABILITIES, ALL-PAGES, page_code, paged, assignments, members, capabilities, sought, mode_pages, mode_whole, known_page, no_answer, mode_sense}
use Rattle.rules.specs.Form.{fault}
use Rattle.rules.specs.Command.{Request, Command, act, serve}
use Rattle.rules.proofs.Ladder.{any-first, any-rest}
use Rattle.rules.proofs.Writes.{cut-length, put_front}
use Rattle.rules.proofs.Untouched.{count_fits}
use Rattle.rules.proofs.Acts.{good-acts, good-serves}
use Rattle.rules.proofs.Pages.{known_by, answered}
use Rattle.promises.specs.Modes.{codes_of, ArePages, CutAlone, CutOnce, uncut}

-- ---- pages by their own lengths

page-first : (c : ℕ) (cs parameters rest : List ℕ) → ArePages cs rest → ArePages (c ∷ cs) (paged c parameters ++ rest)
unfolding paged byte
page-first c cs parameters rest p =
    let page = c ∷ length parameters ∷ parameters in
    let e : 2 + length parameters ≡ length page = omega arith in
    let d : drop (2 + length parameters) (page ++ rest) ≡ rest = rw e (drop-append_seam page rest) in
    (refl, omega (arith, length-append parameters rest), subst (ArePages cs) (sym d) p)

page-last : (c : ℕ) (parameters : List ℕ) → ArePages (c ∷ []) (paged c parameters)
page-last c parameters = subst (ArePages (c ∷ [])) (append-nil (paged c parameters)) (page-first c [] parameters [] refl)

module _ (head : List ℕ) where
  at-addresses : ArePages (codes_of ADDRESSES) (mode_pages head ADDRESSES)
  unfolding codes_of mode_pages sought any_of when
  at-addresses = page-first ADDRESSES [] (assignments (ranges head)) [] refl

  at-geometry : ArePages (codes_of GEOMETRY) (mode_pages head GEOMETRY)
  unfolding codes_of mode_pages sought any_of when
  at-geometry = page-first GEOMETRY [] (members (range head 0).count 0) [] refl

  at-capabilities : ArePages (codes_of CAPABILITIES) (mode_pages head CAPABILITIES)
  unfolding codes_of mode_pages sought any_of when
  at-capabilities = page-last CAPABILITIES capabilities

  at_all : ArePages (codes_of ALL-PAGES) (mode_pages head ALL-PAGES)
  unfolding codes_of mode_pages sought any_of when
  at_all =
      page-first ADDRESSES (GEOMETRY ∷ CAPABILITIES ∷ []) (assignments (ranges head)) (paged GEOMETRY (members (range head 0).count 0) ++ paged CAPABILITIES capabilities)
      (page-first GEOMETRY (CAPABILITIES ∷ []) (members (range head 0).count 0) (paged CAPABILITIES capabilities) (page-last CAPABILITIES capabilities))

-- the one law over the page code
pages-are : (head : List ℕ) (code : ℕ) → known_page code ≡ true → ArePages (codes_of code) (mode_pages head code)
pages-are head code e =
    known_by (λ c. ArePages (codes_of c) (mode_pages head c)) (at-addresses head) (at-geometry head) (at-capabilities head) (at_all head) code e

-- ---- the cut

take_again : {A : Type 0} (n : ℕ) (l : List A) → take (length (take n l)) l ≡ take n l
take_again zero l = refl
take_again (suc n) [] = refl
take_again (suc n) (x ∷ l) = ap (λ m. x ∷ m) (take_again n l)

buffer-cut : (allocation : ℕ) (whole buffer : List ℕ) → length (cut allocation whole) ≤ length buffer
    → put buffer 0 (cut allocation whole) ≡ take (length (cut allocation whole)) whole ++ drop (length (cut allocation whole)) buffer
unfolding cut
buffer-cut allocation whole buffer h = put_front (take allocation whole) buffer h ∙ rw (take_again allocation whole)

module _ (t : Tables) (r : Request) (first : byte r.block 0 ≡ MODE-SENSE) where
  operation-is : operation r.block ≡ ModeSense
  unfolding operation decoded when
  operation-is = ap decoded first

  cut-alone : no_answer t.head r.block ≡ false → serve t (Command r) ≡ outcome t r.buffer (mode_sense t r.host r.block)
      → CutAlone t r (serve t (Command r))
  unfolding no_answer mode_sense outcome mode_whole byte
  cut-alone n e =
      let whole = uncut t r in
      let allocation = byte r.block 4 in
      let e₁ = any-rest _ _ n in
      let room : length (cut allocation whole) ≤ length r.buffer = subst (λ o. o.count ≤ length r.buffer) e (count_fits t r) in
      subst (CutAlone t r) (sym e)
      (record {
        count-is = cut-length allocation whole;
        buffer-is = buffer-cut allocation whole r.buffer room;
        in-a-byte = ltb-false _ _ (any-first _ _ (any-rest _ _ e₁));
        data-length = omega arith;
        page-lengths = pages-are t.head (page_code r.block) (not-false _ (any-first _ _ e₁));
      })

pub cut-once : CutOnce
unfolding act
cut-once t r first number good =
    let a = good-acts t r number good in
    let f : fault ModeSense t.head r.block r.parameters ≡ 0
    = subst (λ op. fault op t.head r.block r.parameters ≡ 0) (operation-is t r first) a.no-fault in
    cut-alone t r first (answered _ _ _ f) (good-serves ModeSense t r (operation-is t r first) number good)
