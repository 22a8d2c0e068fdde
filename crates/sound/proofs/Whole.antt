-- What the parts of the check tell of the whole. Assumes nothing.
use Rattle.std.proofs.Common.{◌≡◌, ℕ, ◌+◌, ◌*◌, ◌≤◌, Bool, true, false, eqb, List, [], ◌∷◌, length, get_or, ne_eqb, sym, refl, ◌∙◌, subst, arith}
use Rattle.rules.specs.Choice.{when, all_of}
use Rattle.rules.specs.Tables.{Rest, lent, head_size, element_size, unit, volumes, panel, empty_shelves}
use Rattle.rules.specs.Roster.{Range, range, ranges, roster, place_of}
use Rattle.rules.specs.Sound.{head_sound, rest_sound, elements_sound, panel_sound, drives_sound, sound}
use Rattle.rules.proofs.Soundness.{rest-true, elements-true}
use Rattle.rules.proofs.Ladder.{all_first}
use Rattle.tables.specs.declared.Range.{Range as Code}
use Rattle.tables.specs.Ranges.{meaning, meant, laid, Runs}
use Rattle.tables.proofs.Sort.{none}
use Rattle.tables.proofs.Roster.{runs-laid}
use Rattle.sound.specs.Checks.{drives_by}
use Rattle.sound.proofs.Shelved.{range-is, ranges-ok}
use Rattle.sound.proofs.Suited.{drives-there, drives-are}

pub rest_top : (rest : Rest) → rest_sound rest ≡ true → volumes rest.tags ≤ 512
rest_top rest e = (rest-true rest e).labels-fit.volumes-most

-- the drives by the runs of a sound head
module _ (head : List ℕ) (rs runs : List Code) (four : length rs ≡ 4) (is : meant rs ≡ ranges head) (runs-is : Runs runs head) (ok : head_sound head ≡ true) (es : List ℕ) where
  pub drives_lie : (u top : ℕ) (bs : List Bool) → all_of (elements_sound (laid runs) u top es ∷ bs) ≡ true
      → element_size * (place_of (laid runs) (meaning (get_or rs 3 none)).first + (meaning (get_or rs 3 none)).count) ≤ length es
  unfolding ranges
  drives_lie u top bs e =
      let l = (elements-true (laid runs) u top es (all_first _ _ e)).length-is in
      subst (λ (d : Range). element_size * (place_of (laid runs) d.first + d.count) ≤ length es) (sym (range-is head rs 3 four is (omega arith)))
      (rw (runs-laid runs head runs-is) (drives-there head (ranges-ok head ok) es (rw (runs-laid runs head runs-is) at l)))

  -- the parts in the order of the code: the head and the rest are sound; then the elements with the panel's number, then the drives
  module _ (rest : Rest) (rest_ok : rest_sound rest ≡ true) (u top n : ℕ) (unit-is : u ≡ unit head) (top-is : top ≡ volumes rest.tags) (panel-is : n ≡ panel head) where
    parts : sound (lent head es rest)
        ≡ when (all_of (elements_sound (laid runs) u top es ∷ eqb n (empty_shelves (laid runs) es) ∷ [])) (drives_sound (lent head es rest) (range head 3)) false
    unfolding sound panel_sound all_of when
    parts =
        rw (ok, rest_ok, runs-laid runs head runs-is, unit-is, top-is, panel-is)
        (go (elements_sound (roster head) (unit head) (volumes rest.tags) es) (eqb (panel head) (empty_shelves (roster head) es)) (drives_sound (lent head es rest) (range head 3)))
      where
        go : (c d e : Bool) → when c (when d (when e true false) false) false ≡ when (when c (when d true false) false) e false
        go true true true = refl
        go true true false = refl
        go true false e = refl
        go false d e = refl

    pub elements_fail : all_of (elements_sound (laid runs) u top es ∷ eqb n (empty_shelves (laid runs) es) ∷ []) ≡ false → false ≡ sound (lent head es rest)
    unfolding when
    elements_fail e = sym (parts ∙ rw e)

    pub drives_last : all_of (elements_sound (laid runs) u top es ∷ eqb n (empty_shelves (laid runs) es) ∷ []) ≡ true
        → (z : Bool) → z ≡ drives_by (laid runs) (meaning (get_or rs 3 none)) es rest.generations rest.masks → z ≡ sound (lent head es rest)
    unfolding ranges when
    drives_last e z w =
        (rw (range-is head rs 3 four is (omega arith), runs-laid runs head runs-is) at w)
        ∙ drives-are head (ranges-ok head ok) es rest
        ∙ sym (parts ∙ rw e)

-- a head of another length
pub no_head : (head es : List ℕ) (rest : Rest) → (length head ≡ head_size → ⊥) → false ≡ sound (lent head es rest)
unfolding sound head_sound all_of when
no_head head es rest d = rw (ne_eqb _ _ d)
