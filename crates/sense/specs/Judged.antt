-- REQUEST SENSE as the code judges it, and what each answer means in the rules. Assumes nothing.
use Rattle.std.specs.Prelude.{ℕ, ◌≡◌, ◌≤◌, min, List, [], ◌∷◌, Result, Ok, Err, ltb}
use Rattle.rules.specs.Choice.{when}
use Rattle.rules.specs.Bytes.{byte, cut}
use Rattle.rules.specs.Tables.{key, asc, ascq, attention, attentionq, Sense, Attention}
use Rattle.rules.specs.Order.{Verdict, Number, Done, GOOD}
use Rattle.rules.specs.Sense.{told, tells_attention}
use Rattle.order.specs.declared.House.{House}
use Rattle.order.specs.declared.House.TheVariants.{ShortBuffer}
use Rattle.order.specs.Ending.{numbered}
use Rattle.sense.specs.declared.Codes.{Codes}
use Rattle.sense.specs.declared.Telling.{Telling}
use Rattle.sense.specs.declared.Telling.TheVariants as telling

-- "min(allocation, 18)"
abbrev pub whole : ℕ
whole = 18

-- a host's attention with its key, and the sense stored
abbrev pub attention_codes : List ℕ → ℕ → Codes
attention_codes head h = record { key = 6; asc = attention head h; ascq = attentionq head h }

abbrev pub sense_codes : List ℕ → ℕ → Codes
sense_codes head h = record { key = key head h; asc = asc head h; ascq = ascq head h }

-- what an answer means: "a definition gives this paper's number and values for each case"
unfoldable pub meaning : List ℕ → ℕ → Result Telling House → Verdict
meaning head h (Err why) = Number (numbered why).number
meaning head h (Ok (telling.Attention n)) = Done GOOD (cut n (told 6 (attention head h) (attentionq head h))) (Attention h 0 0 ∷ [])
meaning head h (Ok (telling.Sense n)) = Done GOOD (cut n (told (key head h) (asc head h) (ascq head h))) (Sense h 0 0 0 ∷ [])

-- the bytes of an answer are there to be told, and there is room for them; else it is number 5
abbrev pub Within : ℕ → Result Telling House → Type 0
Within room (Err why) = why ≡ ShortBuffer
Within room (Ok (telling.Attention n)) = (n ≤ whole) × (n ≤ room)
Within room (Ok (telling.Sense n)) = (n ≤ whole) × (n ≤ room)

-- house number 5 for an answer buffer with so much room, then what is told
unfoldable pub sense_by : List ℕ → ℕ → List ℕ → ℕ → Result Telling House
sense_by head h block room =
    when (ltb room (min (byte block 4) whole)) (Err ShortBuffer)
    (when (tells_attention head h) (Ok (telling.Attention (min (byte block 4) whole))) (Ok (telling.Sense (min (byte block 4) whole))))
