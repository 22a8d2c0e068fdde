-- The writes of the head: what each puts there, and that it leaves every other byte. Assumes nothing.
use Prim.Native.Nat.{ℕ, ◌+◌, ◌<◌, ◌≤◌}
use native.Mathlib.Omega.{arith}
use mathlib.Core.Path.{◌≡◌, refl, ◌∙◌}
use mathlib.Core.Logic.{◌≢◌}
use mathlib.Core.List.{List, [], ◌∷◌}
use lib.ListN.{length}
use lib.Dec.{eqb}
use Rattle.rules.specs.Bytes.{byte}
use Rattle.rules.specs.Tables.{hosts, unit_at, mask_at, host_at, attention_at, unit, key, asc, ascq, attention, attentionq, sensed, attended, announced_to, announced, unit_held, masked}
use Rattle.rules.proofs.Ladder.{on, each_keeps}
use Rattle.rules.proofs.Writes.{put-length, byte_put, byte-put-same}

-- byte j is none of the n bytes from i on
abbrev pub Off : ℕ → ℕ → ℕ → Type 0
Off i n j = (m : ℕ) → m < n → i + m ≢ j

-- ---- host h's sense

module _ (head : List ℕ) (h k a q : ℕ) where
  pub sensed-length : length (sensed head h k a q) ≡ length head
  unfolding sensed
  sensed-length = put-length head (host_at h) (k ∷ a ∷ q ∷ [])

  pub sensed-else : (j : ℕ) → Off (host_at h) 3 j → byte (sensed head h k a q) j ≡ byte head j
  unfolding sensed
  sensed-else j d = byte_put head (host_at h) j (k ∷ a ∷ q ∷ []) d

  pub sensed-key : host_at h + 3 ≤ length head → key (sensed head h k a q) h ≡ k
  unfolding sensed key
  sensed-key l = byte-put-same head (host_at h) (host_at h) 0 (k ∷ a ∷ q ∷ []) (omega arith) l (omega arith)

  pub sensed-asc : host_at h + 3 ≤ length head → asc (sensed head h k a q) h ≡ a
  unfolding sensed asc
  sensed-asc l = byte-put-same head (host_at h) (1 + host_at h) 1 (k ∷ a ∷ q ∷ []) (omega arith) l (omega arith)

  pub sensed-ascq : host_at h + 3 ≤ length head → ascq (sensed head h k a q) h ≡ q
  unfolding sensed ascq
  sensed-ascq l = byte-put-same head (host_at h) (2 + host_at h) 2 (k ∷ a ∷ q ∷ []) (omega arith) l (omega arith)

-- ---- host h's attention

module _ (head : List ℕ) (h a q : ℕ) where
  pub attended-length : length (attended head h a q) ≡ length head
  unfolding attended
  attended-length = put-length head (attention_at h) (a ∷ q ∷ [])

  pub attended-else : (j : ℕ) → Off (attention_at h) 2 j → byte (attended head h a q) j ≡ byte head j
  unfolding attended
  attended-else j d = byte_put head (attention_at h) j (a ∷ q ∷ []) d

  pub attended-attention : attention_at h + 2 ≤ length head → attention (attended head h a q) h ≡ a
  unfolding attended attention
  attended-attention l = byte-put-same head (attention_at h) (attention_at h) 0 (a ∷ q ∷ []) (omega arith) l (omega arith)

  pub attended-attentionq : attention_at h + 2 ≤ length head → attentionq (attended head h a q) h ≡ q
  unfolding attended attentionq
  attended-attentionq l = byte-put-same head (attention_at h) (1 + attention_at h) 1 (a ∷ q ∷ []) (omega arith) l (omega arith)

-- ---- unit holder and prevent mask

module _ (head : List ℕ) (n : ℕ) where
  pub unit_held-length : length (unit_held head n) ≡ length head
  unfolding unit_held
  unit_held-length = put-length head unit_at (n ∷ [])

  pub unit_held-else : (j : ℕ) → unit_at ≢ j → byte (unit_held head n) j ≡ byte head j
  unfolding unit_held
  unit_held-else j d = byte_put head unit_at j (n ∷ []) (λ m l. omega arith)

  pub unit_held-unit : unit_at < length head → unit (unit_held head n) ≡ n
  unfolding unit_held unit
  unit_held-unit l = byte-put-same head unit_at unit_at 0 (n ∷ []) (omega arith) (omega arith) (omega arith)

  pub masked-length : length (masked head n) ≡ length head
  unfolding masked
  masked-length = put-length head mask_at (n ∷ [])

  pub masked-else : (j : ℕ) → mask_at ≢ j → byte (masked head n) j ≡ byte head j
  unfolding masked
  masked-else j d = byte_put head mask_at j (n ∷ []) (λ m l. omega arith)

-- ---- attention for each host with none

-- of a head n bytes long: host h's attention
record Attends (n h x y : ℕ) (head : List ℕ) : Type 0 where
  long : length head ≡ n
  code : attention head h ≡ x

module _ (a q : ℕ) where
  announced_to-else : (h : ℕ) (head : List ℕ) (j : ℕ) → Off (attention_at h) 2 j → byte (announced_to a q h head) j ≡ byte head j
  unfolding announced_to
  announced_to-else h head j d =
      on (λ (r : List ℕ). byte r j ≡ byte head j) (eqb (attention head h) 0) (λ _. attended-else head h a q j d) (λ _. refl)

  pub announced-else : (head : List ℕ) (j : ℕ) → ((h : ℕ) → 1 ≤ h → h ≤ hosts → Off (attention_at h) 2 j) → byte (announced head a q) j ≡ byte head j
  unfolding announced
  announced-else head j d =
      each_keeps (λ (r : List ℕ). byte r j ≡ byte head j) (announced_to a q) hosts 1 head
      (λ h ys l m e. announced_to-else h ys j (d h l (omega arith)) ∙ e) refl
