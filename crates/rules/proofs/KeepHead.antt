-- Each write of the head leaves a sound head sound. Assumes nothing.
use Prim.Native.Nat.{ℕ, ◌+◌, ◌<◌, ◌≤◌}
use native.Mathlib.Omega.{arith}
use mathlib.Core.Path.{◌≡◌, ◌∙◌}
use mathlib.Core.List.{List}
use lib.ListN.{length}
use lib.Dec.{eqb}
use Rattle.rules.specs.Bytes.{byte}
use Rattle.rules.specs.Tables.{hosts, unit_at, host_at, attention_at, panel_at, unit, key, asc, ascq, attention, attentionq, sensed, attended, announced_to, announced, unit_held, masked, shown}
use Rattle.rules.proofs.Ladder.{on, either, each_keeps}
use Rattle.rules.proofs.Places.{SameRanges, range_same}
use Rattle.rules.proofs.HeadFields.{Off, sensed-length, sensed-else, sensed-key, sensed-asc, sensed-ascq, attended-length, attended-else, attended-attention, attended-attentionq, unit_held-length, unit_held-else, unit_held-unit, masked-length, masked-else}
use Rattle.rules.proofs.Panel.{shown-length, shown-else}
use Rattle.rules.proofs.Soundness.{SenseFits, AttentionFits, HeadFits}

-- a head with the same length and ranges: unit holder, senses and attentions are left to show
head-by : (head head' : List ℕ) → HeadFits head → length head' ≡ length head → SameRanges head head' → unit head' ≤ hosts
    → ((h : ℕ) → 1 ≤ h → h ≤ hosts → SenseFits (key head' h) (asc head' h) (ascq head' h))
    → ((h : ℕ) → 1 ≤ h → h ≤ hosts → AttentionFits (attention head' h) (attentionq head' h)) → HeadFits head'
head-by head head' f l r u s a =
    let r₀ = range_same head head' r 0 (omega arith) in
    let r₁ = range_same head head' r 1 (omega arith) in
    let r₂ = range_same head head' r 2 (omega arith) in
    let r₃ = range_same head head' r 3 (omega arith) in
    record {
      length-is = l ∙ f.length-is;
      elements-some = rw (r₀, r₁, r₂, r₃) f.elements-some;
      elements-most = rw (r₀, r₁, r₂, r₃) f.elements-most;
      transports-some = rw r₀ f.transports-some;
      transports-most = rw r₀ f.transports-most;
      homes-some = rw (r₁, r₂) f.homes-some;
      range-sound = λ k h. rw (range_same head head' r k h) (f.range-sound k h);
      ranges_apart = λ j k i h. rw (range_same head head' r j (omega arith), range_same head head' r k h) (f.ranges_apart j k i h);
      unit-small = u;
      senses = s;
      attentions = a;
    }

-- host g's bytes are as they were
sense-same : (head head' : List ℕ) (g : ℕ) → ((j : ℕ) → host_at g ≤ j → j < attention_at g → byte head' j ≡ byte head j)
    → SenseFits (key head g) (asc head g) (ascq head g) → SenseFits (key head' g) (asc head' g) (ascq head' g)
unfolding key asc ascq
sense-same head head' g s f =
    rw (s (host_at g) (omega arith) (omega arith), s (1 + host_at g) (omega arith) (omega arith), s (2 + host_at g) (omega arith) (omega arith)) f

attention-same : (head head' : List ℕ) (g : ℕ) → ((j : ℕ) → attention_at g ≤ j → j < attention_at g + 2 → byte head' j ≡ byte head j)
    → AttentionFits (attention head g) (attentionq head g) → AttentionFits (attention head' g) (attentionq head' g)
unfolding attention attentionq
attention-same head head' g s f = rw (s (attention_at g) (omega arith) (omega arith), s (1 + attention_at g) (omega arith) (omega arith)) f

unit-same : (head head' : List ℕ) → byte head' unit_at ≡ byte head unit_at → unit head ≤ hosts → unit head' ≤ hosts
unfolding unit
unit-same head head' s f = rw s f

pub sensed-fits : (head : List ℕ) (h k a q : ℕ) → HeadFits head → 1 ≤ h → h ≤ hosts → SenseFits k a q → HeadFits (sensed head h k a q)
sensed-fits head h k a q f l m s =
    head-by head (sensed head h k a q) f (sensed-length head h k a q) (λ j i. else j (λ n x. omega arith))
    (unit-same head _ (else unit_at (λ n x. omega arith)) f.unit-small)
    (λ g i j.
    either g h (λ e. rw (e, sensed-key head h k a q n, sensed-asc head h k a q n, sensed-ascq head h k a q n) s)
    (λ d. sense-same head _ g (λ b x y. else b (λ c z. omega arith)) (f.senses g i j)))
    (λ g i j. attention-same head _ g (λ b x y. else b (λ c z. omega arith)) (f.attentions g i j))
  where
    else : (j : ℕ) → Off (host_at h) 3 j → byte (sensed head h k a q) j ≡ byte head j
    else = sensed-else head h k a q

    n : host_at h + 3 ≤ length head
    n = omega (arith, f.length-is)

pub attended-fits : (head : List ℕ) (h a q : ℕ) → HeadFits head → 1 ≤ h → h ≤ hosts → AttentionFits a q → HeadFits (attended head h a q)
attended-fits head h a q f l m s =
    head-by head (attended head h a q) f (attended-length head h a q) (λ j i. else j (λ n x. omega arith))
    (unit-same head _ (else unit_at (λ n x. omega arith)) f.unit-small)
    (λ g i j. sense-same head _ g (λ b x y. else b (λ c z. omega arith)) (f.senses g i j))
    (λ g i j.
    either g h (λ e. rw (e, attended-attention head h a q n, attended-attentionq head h a q n) s)
    (λ d. attention-same head _ g (λ b x y. else b (λ c z. omega arith)) (f.attentions g i j)))
  where
    else : (j : ℕ) → Off (attention_at h) 2 j → byte (attended head h a q) j ≡ byte head j
    else = attended-else head h a q

    n : attention_at h + 2 ≤ length head
    n = omega (arith, f.length-is)

pub announced-fits : (head : List ℕ) (a q : ℕ) → HeadFits head → AttentionFits a q → HeadFits (announced head a q)
unfolding announced announced_to
announced-fits head a q f s =
    each_keeps HeadFits (announced_to a q) hosts 1 head
    (λ h ys l m g. on HeadFits (eqb (attention ys h) 0) (λ _. attended-fits ys h a q g l (omega arith) s) (λ _. g)) f

pub unit_held-fits : (head : List ℕ) (n : ℕ) → HeadFits head → n ≤ hosts → HeadFits (unit_held head n)
unit_held-fits head n f l =
    head-by head (unit_held head n) f (unit_held-length head n) (λ j i. unit_held-else head n j (omega arith))
    (rw (unit_held-unit head n (omega (arith, f.length-is))) l)
    (λ g i j. sense-same head _ g (λ b x y. unit_held-else head n b (omega arith)) (f.senses g i j))
    (λ g i j. attention-same head _ g (λ b x y. unit_held-else head n b (omega arith)) (f.attentions g i j))

pub masked-fits : (head : List ℕ) (n : ℕ) → HeadFits head → HeadFits (masked head n)
masked-fits head n f =
    head-by head (masked head n) f (masked-length head n) (λ j i. masked-else head n j (omega arith))
    (unit-same head _ (masked-else head n unit_at (omega arith)) f.unit-small)
    (λ g i j. sense-same head _ g (λ b x y. masked-else head n b (omega arith)) (f.senses g i j))
    (λ g i j. attention-same head _ g (λ b x y. masked-else head n b (omega arith)) (f.attentions g i j))

pub shown-fits : (head : List ℕ) (n : ℕ) → HeadFits head → HeadFits (shown head n)
shown-fits head n f =
    head-by head (shown head n) f (shown-length head n) (λ j i. else j (λ m x. omega arith))
    (unit-same head _ (else unit_at (λ m x. omega arith)) f.unit-small)
    (λ g i j. sense-same head _ g (λ b x y. else b (λ m z. omega arith)) (f.senses g i j))
    (λ g i j. attention-same head _ g (λ b x y. else b (λ m z. omega arith)) (f.attentions g i j))
  where
    else : (j : ℕ) → Off panel_at 2 j → byte (shown head n) j ≡ byte head j
    else = shown-else head n
