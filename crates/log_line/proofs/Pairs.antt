-- Each way out of a line's command and parameters is the rules'. Assumes nothing.
use Prim.Native.Nat.{ℕ, ◌+◌, ◌*◌, ◌/◌, ◌-◌, ◌<◌, ◌≤◌}
use native.Mathlib.Omega.{arith}
use mathlib.Core.Path.{◌≡◌, refl, sym, ap, ◌∙◌}
use mathlib.Core.Logic.{◌≢◌}
use mathlib.Core.Bool.{true, false}
use mathlib.Core.List.{List, [], ◌∷◌}
use lib.ListN.{length, take, drop, length-drop}
use lib.Seq.{drop-drop}
use lib.Dec.{ltb}
use borrow.Author.Tests.{eq-eqb, ne_eqb, ltb-false}
use Rattle.rules.specs.Choice.{when}
use Rattle.rules.specs.Log.{TAB, LINE-FEED, first_of, before, digit, hexed, bytes_of, Line, Other, entry_of}
use Rattle.rules.proofs.Ladder.{either, when_true, when_false, never}
use Rattle.rules.proofs.Replaying.{first-inside}
use Rattle.log_line.specs.Rungs.{after_host, here}
use Rattle.log_line.specs.Fields.{Bytes, hexed_to}
use Rattle.log_line.specs.Read.{Held}
use Rattle.log_line.proofs.Text.{left, first-nil, first-mark, first_next, sooner, first-from, tail}
use Rattle.log_line.proofs.Feeds.{other-here, here-from, feed-none, tab-none, tab-other, tab-kept, before-kept, tab-inside, by-tab}

-- a part that goes to the end is no longer than the text
pub part-fits : (t : List ℕ) (at m : ℕ) → length t ≤ 2 * m + 1 → length (take (length t - at) (drop at t)) ≤ 2 * m + 1
part-fits t at m h = rw (tail t at, length-drop at t) (omega arith)

pub tab-marks : 15 < digit TAB
tab-marks = omega (arith, tab-none)

pub feed-marks : 15 < digit LINE-FEED
feed-marks = omega (arith, feed-none)

-- ---- bytes in hexadecimal hold no line feed

one-digit : (x : ℕ) → hexed (x ∷ []) ≡ true → ⊥
unfolding hexed
one-digit x e = never e

two_digits : (x y : ℕ) (u : List ℕ) → hexed (x ∷ y ∷ u) ≡ true → (digit x ≤ 15) × (digit y ≤ 15) × (hexed u ≡ true)
unfolding hexed
two_digits x y u e =
    let a : ltb 15 (digit x) ≡ false = left _ (λ q. never (sym (when_true _ _ _ q) ∙ e)) in
    let f : when (ltb 15 (digit y)) false (hexed u) ≡ true = sym (when_false _ _ _ a) ∙ e in
    let b : ltb 15 (digit y) ≡ false = left _ (λ q. never (sym (when_true _ _ _ q) ∙ f)) in
    (ltb-false _ _ a, ltb-false _ _ b, sym (when_false _ _ _ b) ∙ f)

hex-clear : (m b : ℕ) (s : List ℕ) → 15 < digit b → hexed (before m s) ≡ true → first_of m s ≤ first_of b s
hex-clear m b [] h e = omega (arith, first-nil m)
hex-clear m b (x ∷ []) h e =
    either x m (λ i. omega (arith, first-mark m x [] i))
    (λ n. absurd (one-digit x (rw (first_next m x [] n, first-nil m) at e)))
hex-clear m b (x ∷ y ∷ s) h e =
    either x m (λ i. omega (arith, first-mark m x (y ∷ s) i))
    λ n.
    either y m (λ i. absurd (one-digit x (rw (first_next m x (y ∷ s) n, first-mark m y s i) at e)))
    λ o.
    let d = two_digits x y (before m s) (rw (first_next m x (y ∷ s) n, first_next m y s o) at e) in
    let p : x ≢ b = λ i. omega (arith, d.0, ap digit i) in
    let q : y ≢ b = λ i. omega (arith, d.1, ap digit i) in
    omega (arith, first_next m x (y ∷ s) n, first_next m y s o, first_next b x (y ∷ s) p, first_next b y s q, hex-clear m b s h d.2)

-- no form up to a mark that is there is no form before it
unhexed : (m : ℕ) (s : List ℕ) → first_of m s ≢ length s → hexed_to m s ≡ false → hexed (before m s) ≡ false
unfolding hexed_to
unhexed m s n e = sym (when_false _ _ _ (ne_eqb _ _ n)) ∙ e

-- ---- command bytes

module _ (k h : ℕ) (s : List ℕ) where
  one_field : first_of TAB (before LINE-FEED s) ≡ length (before LINE-FEED s) → after_host k h (before LINE-FEED s) ≡ Other
  unfolding after_host
  one_field e = when_true _ _ _ (eq-eqb _ _ e)

  bad-bytes : hexed_to TAB s ≡ false → first_of TAB s < first_of LINE-FEED s → after_host k h (before LINE-FEED s) ≡ Other
  unfolding after_host
  bad-bytes e i =
      let n : first_of TAB s ≢ length s = λ q. omega (arith, first-inside LINE-FEED s) in
      let f : hexed (before TAB (before LINE-FEED s)) ≡ false = rw (before-kept s i) (unhexed TAB s n e) in
      when_false _ _ _ (ne_eqb _ _ (tab-inside s i)) ∙ when_false _ _ _ f

  no_bytes : hexed_to TAB s ≡ false → Other ≡ here (after_host k h) s
  no_bytes e = other-here (after_host k h) s (by-tab (after_host k h (before LINE-FEED s) ≡ Other) s (bad-bytes e) one_field)

-- the last field, with the command's bytes
given_by : ℕ → ℕ → List ℕ → List ℕ → Line
given_by k h block s = when (hexed s) (entry_of k h block (bytes_of s)) Other

module _ (s out : List ℕ) (c : ℕ) (read : Bytes TAB s out c) where
  before-feed : first_of TAB s < first_of LINE-FEED s
  before-feed =
      let p = read.parted in
      sooner TAB LINE-FEED s tab-other (omega (arith, p.first, p.inside)) (hex-clear TAB LINE-FEED s feed-marks read.digits)

  command-inside : c + 1 ≤ first_of LINE-FEED s
  command-inside = omega (arith, read.parted.first, before-feed)

  module _ (k h : ℕ) where
    by-command : after_host k h (before LINE-FEED s) ≡ given_by k h (bytes_of (before TAB s)) (drop (c + 1) (before LINE-FEED s))
    unfolding after_host given_by
    by-command =
        let i = before-feed in
        let f : hexed (before TAB (before LINE-FEED s)) ≡ true = rw (before-kept s i) read.digits in
        when_false _ _ _ (ne_eqb _ _ (tab-inside s i)) ∙ when_true _ _ _ f ∙ rw (before-kept s i, tab-kept s i, ← read.parted.first) refl

    with-command : here (given_by k h (bytes_of (before TAB s))) (drop (c + 1) s) ≡ here (after_host k h) s
    with-command = here-from (after_host k h) (given_by k h (bytes_of (before TAB s))) (c + 1) s command-inside by-command

-- ---- parameter bytes

module _ (k h : ℕ) (block s : List ℕ) where
  no-given : hexed_to LINE-FEED s ≡ false → Other ≡ here (given_by k h block) s
  unfolding here hexed_to given_by
  no-given e =
      either (first_of LINE-FEED s) (length s) (λ q. sym (when_true _ _ _ (eq-eqb _ _ q)))
      λ n. sym (when_false _ _ _ (ne_eqb _ _ n) ∙ when_false _ _ _ (sym (when_false _ _ _ (ne_eqb _ _ n)) ∙ e))

  some-given : (out : List ℕ) (p : ℕ) → Bytes LINE-FEED s out p → entry_of k h block (take (p / 2) out) ≡ here (given_by k h block) s
  unfolding here given_by
  some-given out p b =
      let n : first_of LINE-FEED s ≢ length s = λ q. omega (arith, b.parted.first, b.parted.inside) in
      rw b.decoded (sym (when_false _ _ _ (ne_eqb _ _ n) ∙ when_true _ _ _ b.digits))

-- ---- both, from a place of a text on

module _ (t : List ℕ) (at : ℕ) (part : List ℕ) (re : part ≡ drop at t) where
  pub no-command : hexed_to TAB part ≡ false → (k h : ℕ) → Other ≡ here (after_host k h) (drop at t)
  no-command e k h = no_bytes k h (drop at t) (rw re at e)

  module _ (out : List ℕ) (c : ℕ) (command : Bytes TAB part out c) (part2 : List ℕ) (re2 : part2 ≡ drop (at + c + 1) t) where
    commanded : Bytes TAB (drop at t) out c
    commanded = rw re at command

    behind : drop (c + 1) (drop at t) ≡ part2
    behind = let e : at + (c + 1) ≡ at + c + 1 = omega arith in drop-drop (c + 1) at t ∙ ap (λ (i : ℕ). drop i t) e ∙ sym re2

    read-on : (k h : ℕ) → here (given_by k h (bytes_of (before TAB (drop at t)))) part2 ≡ here (after_host k h) (drop at t)
    read-on k h = rw behind at (with-command (drop at t) out c commanded k h)

    pub no-parameters : hexed_to LINE-FEED part2 ≡ false → (k h : ℕ) → Other ≡ here (after_host k h) (drop at t)
    no-parameters e k h = no-given k h _ part2 e ∙ read-on k h

    module _ (out2 : List ℕ) (p : ℕ) (parameters : Bytes LINE-FEED part2 out2 p) where
      line-ends : at + c + 1 + p < length t
      line-ends = let i = parameters.parted.inside in omega (arith, length-drop (at + c + 1) t, ap length re2)

      pub both-fields : (k h : ℕ) → entry_of k h (take (c / 2) out) (take (p / 2) out2) ≡ here (after_host k h) (drop at t)
      both-fields k h = rw commanded.decoded (some-given k h (bytes_of (before TAB (drop at t))) part2 out2 p parameters ∙ read-on k h)

      pub both-held : length t ≤ 2 * length out + 1 → length t ≤ 2 * length out2 + 1 → Held (c / 2) (p / 2) (at + c + 1 + p) at t out out2
      both-held x y =
          let e : first_of LINE-FEED (drop at t) ≡ c + 1 + p
          = first-from LINE-FEED (c + 1) (drop at t) (command-inside (drop at t) out c commanded) ∙ rw (behind, ← parameters.parted.first) refl in
          let i = line-ends in
          record { block_held = omega arith; list_held = omega arith; ends = omega arith; inside = i }
