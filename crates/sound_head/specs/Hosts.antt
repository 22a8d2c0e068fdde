-- The hosts of a head, and those that have neither sense nor attention. Assumes nothing.
use Rattle.std.specs.Prelude.{ℕ, suc, ◌≡◌, Bool, true, List, [], ◌∷◌}
use Rattle.rules.specs.Choice.{all_of, below}
use Rattle.rules.specs.Tables.{hosts, key, asc, ascq, attention, attentionq}
use Rattle.rules.specs.Sound.{sense_sound, attention_sound}

-- what is asked of the host i + 1
abbrev pub sense_at : List ℕ → ℕ → Bool
sense_at head i = sense_sound (key head (suc i)) (asc head (suc i)) (ascq head (suc i))

abbrev pub attention_at : List ℕ → ℕ → Bool
attention_at head i = attention_sound (attention head (suc i)) (attentionq head (suc i))

abbrev pub hosts_sound : List ℕ → Bool
hosts_sound head = all_of (below hosts (sense_at head) ∷ below hosts (attention_at head) ∷ [])

-- what is asked of a host by its number
unfoldable pub host_sound : List ℕ → ℕ → Bool
host_sound head h = all_of (sense_sound (key head h) (asc head h) (ascq head h) ∷ attention_sound (attention head h) (attentionq head h) ∷ [])

-- both are sound: so it is where a host has neither
pub record QuietHost (head : List ℕ) (h : ℕ) : Type 0 where
  pub sense : sense_sound (key head h) (asc head h) (ascq head h) ≡ true
  pub told : attention_sound (attention head h) (attentionq head h) ≡ true
