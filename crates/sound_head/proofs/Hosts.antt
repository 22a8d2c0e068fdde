-- A host's record: what the check reads of host i + 1 is what the rules read of it. Assumes nothing.
use Prim.Native.Nat.{ℕ, zero, suc, ◌+◌, ◌-◌, ◌*◌, ◌<◌, ◌≤◌}
use native.Mathlib.Omega.{arith}
use mathlib.Core.Path.{◌≡◌, refl, sym, ap, ◌∙◌}
use mathlib.Core.Bool.{Bool, true, false}
use mathlib.Core.List.{List, [], ◌∷◌}
use Rattle.rules.specs.Choice.{when, any_of, all_of, below}
use Rattle.rules.specs.Bytes.{byte, word}
use Rattle.rules.specs.Tables.{hosts, host_at, key, asc, ascq, attention, attentionq}
use Rattle.rules.specs.Sound.{sense_sound, attention_sound}
use Rattle.rules.proofs.Ladder.{below_of, below_fails}
use Rattle.sound_head.specs.Hosts.{sense_at, attention_at, QuietHost, host_sound, hosts_sound}

-- ---- the short way: a host whose bytes are zeros

-- the first four, read as two numbers and put together
pub quiet-host : (head : List ℕ) (h at x y q : ℕ) → at ≡ host_at h → x ≡ word head at → y ≡ word head (at + 2) → x * 65536 + y ≡ 0
    → q ≡ attentionq head h → q ≡ 0 → QuietHost head h
unfolding word key asc ascq attention sense_sound attention_sound all_of any_of when
quiet-host head h at x y q is e f z g n =
    let a : byte head (host_at h) ≡ 0 = ap (byte head) (sym is) ∙ omega arith in
    let b : byte head (1 + host_at h) ≡ 0 = ap (byte head) (let w : 1 + host_at h ≡ at + 1 = omega arith in w) ∙ omega arith in
    let c : byte head (2 + host_at h) ≡ 0 = ap (byte head) (let w : 2 + host_at h ≡ at + 2 = omega arith in w) ∙ omega arith in
    let d : byte head (3 + host_at h) ≡ 0 = ap (byte head) (let w : 3 + host_at h ≡ at + 2 + 1 = omega arith in w) ∙ omega arith in
    let l : attentionq head h ≡ 0 = sym g ∙ n in
    record { sense = rw (a, b, c); told = rw (d, l) }

-- ---- host after host

below_both : (n : ℕ) (f g : ℕ → Bool) → below n (λ p. all_of (f p ∷ g p ∷ [])) ≡ all_of (below n f ∷ below n g ∷ [])
unfolding below all_of when
below_both zero f g = refl
below_both (suc n) f g = go (f n) (g n) (below n f) (below n g) (below_both n f g)
  where
    go : (a b x y : Bool) → below n (λ p. all_of (f p ∷ g p ∷ [])) ≡ all_of (x ∷ y ∷ [])
        → when (all_of (a ∷ b ∷ [])) (below n (λ p. all_of (f p ∷ g p ∷ []))) false ≡ all_of (when a x false ∷ when b y false ∷ [])
    go true true x y ih = ih
    go true false true y ih = refl
    go true false false y ih = refl
    go false b x y ih = refl

-- the test of each host is both tests of all
hosts-by : (head : List ℕ) → below hosts (λ i. host_sound head (suc i)) ≡ hosts_sound head
unfolding host_sound
hosts-by head = below_both hosts (sense_at head) (attention_at head)

pub all_pass : (head : List ℕ) → ((h : ℕ) → 1 ≤ h → h < 9 → host_sound head h ≡ true) → true ≡ hosts_sound head
all_pass head pass = sym (below_of hosts _ (λ i l. pass (suc i) (omega arith) (omega arith))) ∙ hosts-by head

pub one_fails : (head : List ℕ) (h : ℕ) → 1 ≤ h → h < 9 → host_sound head h ≡ false → false ≡ hosts_sound head
one_fails head h some most e =
    let is : h ≡ suc (h - 1) = omega arith in
    sym (below_fails hosts (λ i. host_sound head (suc i)) (h - 1) (omega arith) (rw (← is) e)) ∙ hosts-by head
