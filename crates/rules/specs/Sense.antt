-- REQUEST SENSE, from step 5 on. Assumes nothing.
use Rattle.std.specs.Prelude.{ℕ, List, [], ◌∷◌, Bool, eqb}
use Rattle.rules.specs.Choice.{when, all_of, differ}
use Rattle.rules.specs.Bytes.{byte, cut}
use Rattle.rules.specs.Tables.{Tables, key, asc, ascq, attention, attentionq, Sense, Attention}
use Rattle.rules.specs.Order.{Verdict, Done, GOOD}

-- "70h, 0, key, four 0, 0Ah, four 0, ASC, ASCQ, four 0"
unfoldable pub told : ℕ → ℕ → ℕ → List ℕ
told k a q = 0x70 ∷ 0 ∷ k ∷ 0 ∷ 0 ∷ 0 ∷ 0 ∷ 0x0A ∷ 0 ∷ 0 ∷ 0 ∷ 0 ∷ a ∷ q ∷ 0 ∷ 0 ∷ 0 ∷ 0 ∷ []

-- "If no sense is stored but attention is, that (key 6)."
unfoldable pub tells_attention : List ℕ → ℕ → Bool
tells_attention head h = all_of (eqb (key head h) 0 ∷ differ (attention head h) 0 ∷ [])

-- "byte 4 allocation. Returns the first min(allocation, 18) bytes .. What was told is cleared, allocation 0 included."
unfoldable pub request_sense : Tables → ℕ → List ℕ → Verdict
request_sense t h block =
    when (tells_attention t.head h)
    (Done GOOD (cut (byte block 4) (told 6 (attention t.head h) (attentionq t.head h))) (Attention h 0 0 ∷ []))
    (Done GOOD (cut (byte block 4) (told (key t.head h) (asc t.head h) (ascq t.head h))) (Sense h 0 0 0 ∷ []))
