-- SEND VOLUME TAG: the writes of a new search are one, and each way out is the rules'. Assumes nothing.
use Prim.Native.Nat.{ℕ, ◌%◌, ◌<◌}
use native.Mathlib.Nat.{zero-add}
use native.Mathlib.Omega.{arith}
use mathlib.Core.Path.{◌≡◌, refl, ap, ◌∙◌}
use mathlib.Core.Bool.{Bool, true, false}
use mathlib.Core.List.{List, [], ◌∷◌}
use lib.ListN.{length, take}
use lib.Seq.{length-take-le}
use Rattle.rules.specs.Bytes.{byte, word, three, put}
use Rattle.rules.specs.Tables.{Rest, lent, searching, template_size, search_type_at, least_at, greatest_at, next_at, behind_last, Seek, change, changes, in_head, in_search}
use Rattle.rules.specs.Order.{ListLength, ListField, refused, good, outcome}
use Rattle.rules.specs.Listing.{type_code}
use Rattle.rules.specs.Search.{action_code, tag_list_size, reserved_tags, search_for, send_tag}
use Rattle.rules.proofs.Ladder.{differ-is, differ-not, yes, no}
use Rattle.rules.proofs.Writes.{put_then}
use Rattle.order.specs.declared.Reply.{Reply}
use Rattle.order.specs.Ending.{ended}

-- template, type and action, range, next address, one behind the other
pub begun : (block list s₀ s₁ s₂ s₃ s₄ s₅ : List ℕ) (start : ℕ) → length list ≡ tag_list_size → start < behind_last → start ≡ word block 2
    → s₁ ≡ put s₀ 0 (take template_size list) → s₂ ≡ put s₁ search_type_at (type_code block ∷ action_code block ∷ [])
    → s₃ ≡ put s₂ least_at (byte list 34 ∷ byte list 35 ∷ []) → s₄ ≡ put s₃ greatest_at (byte list 38 ∷ byte list 39 ∷ []) → s₅ ≡ put s₄ next_at (three start)
    → s₅ ≡ put s₀ 0 (search_for block list)
unfolding search_for
begun block list s₀ s₁ s₂ s₃ s₄ s₅ start n small is e₁ e₂ e₃ e₄ e₅ =
    let z : start ≡ word block 2 % behind_last = omega arith in
    put_then s₀ s₁ s₅ 0 template_size (take template_size list) _ e₁
    (put_then s₁ s₂ s₅ search_type_at least_at _ _ e₂
    (put_then s₂ s₃ s₅ least_at greatest_at _ _ e₃ (put_then s₃ s₄ s₅ greatest_at next_at _ _ e₄ (rw z at e₅) refl) refl)
    refl)
    (zero-add (length (take template_size list)) ∙ length-take-le template_size list (omega arith))

-- ---- the ways out

module _ (head elements : List ℕ) (rest : Rest) (search : List ℕ) (host : ℕ) (block list : List ℕ) where
  pub tag-length : (length list ≡ tag_list_size → ⊥) → refused host ListLength ≡ send_tag (lent head elements (searching rest search)) host block list
  unfolding send_tag
  tag-length d = differ-is _ _ _ _ _ d refl

  module _ (e : length list ≡ tag_list_size) (r : Bool) (is : r ≡ reserved_tags list) where
    pub tag-reserved : r ≡ true → refused host ListField ≡ send_tag (lent head elements (searching rest search)) host block list
    unfolding send_tag
    tag-reserved t = differ-not _ _ _ _ _ e (yes _ _ _ _ _ is t refl)

    chosen : r ≡ false → good host (Seek (search_for block list) ∷ []) ≡ send_tag (lent head elements (searching rest search)) host block list
    unfolding send_tag
    chosen t = differ-not _ _ _ _ _ e (no _ _ _ _ _ is t refl)

    replaced : (search' buffer : List ℕ) → search' ≡ put search 0 (search_for block list)
        → outcome (lent head elements (searching rest search')) buffer (good host [])
        ≡ outcome (lent head elements (searching rest search)) buffer (good host (Seek (search_for block list) ∷ []))
    unfolding good outcome changes change in_head in_search
    replaced search' buffer s = rw s

    pub tag-begun : r ≡ false → (head' search' buffer : List ℕ) (reply : Reply) → search' ≡ put search 0 (search_for block list)
        → ended reply (lent head' elements (searching rest search')) buffer ≡ outcome (lent head elements (searching rest search')) buffer (good host [])
        → ended reply (lent head' elements (searching rest search')) buffer
        ≡ outcome (lent head elements (searching rest search)) buffer (send_tag (lent head elements (searching rest search)) host block list)
    tag-begun t head' search' buffer reply s w =
        w ∙ replaced search' buffer s ∙ ap (outcome (lent head elements (searching rest search)) buffer) (chosen t)
