-- Each way out of a line's number and host is the rules'. Assumes nothing.
use Prim.Native.Nat.{ℕ, ◌+◌, ◌*◌, ◌<◌, ◌≤◌}
use native.Mathlib.Omega.{arith}
use mathlib.Core.Path.{◌≡◌, refl, sym, ap, ◌∙◌}
use mathlib.Core.Logic.{◌≢◌}
use mathlib.Core.Bool.{Bool, true, false}
use mathlib.Core.List.{List, [], ◌∷◌}
use lib.ListN.{length, get_or, drop, length-drop}
use lib.Seq.{get_or-take, drop-drop}
use lib.Dec.{ltb}
use borrow.Author.Tests.{eq-eqb, ne_eqb, le-ltb, ltb-false}
use Rattle.rules.specs.Choice.{when, differ}
use Rattle.rules.specs.Bytes.{byte}
use Rattle.rules.specs.Log.{TAB, LINE-FEED, first_of, before, digit, number_from, number_of, Line, Other, line_of}
use Rattle.rules.proofs.Ladder.{on, either, when_true, when_false, eq-differ, differ-false}
use Rattle.rules.proofs.Replaying.{first-inside}
use Rattle.log_line.specs.Rungs.{after_host, after_number, line_by, here}
use Rattle.std.specs.Prelude.{Some, None}
use Rattle.log_line.specs.Fields.{Parted, Number, number_to, host_to}
use Rattle.log_line.specs.declared.Sequence.{Sequence}
use Rattle.log_line.specs.Read.{Held}
use Rattle.log_line.proofs.Text.{left, first-nil, first-mark, first_next, sooner, first-from}
use Rattle.log_line.proofs.Feeds.{other-here, here-from, feed-none, tab-other, before-length, tab-kept, before-kept, tab-inside, by-tab}
use Rattle.log_line.proofs.Forms.{four-fields}

-- the end of a line is told from any place on before it
held-from : (n m e at k j : ℕ) (t b l : List ℕ) → j ≡ at + k → k ≤ first_of LINE-FEED (drop at t) → Held n m e j t b l → Held n m e at t b l
held-from n m e at k j t b l i h w =
    let z = first-from LINE-FEED k (drop at t) h in
    let d : drop k (drop at t) ≡ drop j t = drop-drop k at t ∙ ap (λ (i : ℕ). drop i t) (sym i) in
    let g : first_of LINE-FEED (drop at t) ≡ k + first_of LINE-FEED (drop j t) = z ∙ ap (λ (s : List ℕ). k + first_of LINE-FEED s) d in
    record { block_held = w.block_held; list_held = w.list_held; ends = w.ends ∙ omega arith; inside = w.inside }

-- ---- the number

-- a number goes on behind a digit
digits : (x : ℕ) (u : List ℕ) (n : ℕ) → number_from (x ∷ u) n ≢ 0 → (digit x ≤ 9) × (number_from u (n * 10 + digit x) ≢ 0)
unfolding number_from
digits x u n q =
    let d : ltb 9 (digit x) ≡ false = left _ (λ e. q (when_true _ _ _ e)) in
    let f : ltb 999999999 (n * 10 + digit x) ≡ false = left _ (λ e. q (when_false _ _ _ d ∙ when_true _ _ _ e)) in
    (ltb-false _ _ d, λ e. q (when_false _ _ _ d ∙ when_false _ _ _ f ∙ e))

-- and holds no line feed
number-clear : (m b n : ℕ) (s : List ℕ) → 9 < digit b → number_from (before m s) n ≢ 0 → first_of m s ≤ first_of b s
number-clear m b n [] h k = omega (arith, first-nil m, first-nil b)
number-clear m b n (x ∷ xs) h k =
    either x m (λ e. omega (arith, first-mark m x xs e))
    λ j.
    let z = first_next m x xs j in
    let q : number_from (x ∷ before m xs) n ≢ 0 = rw z at k in
    let i = digits x (before m xs) n q in
    let o : x ≢ b = λ e. omega (arith, i.0, ap digit e) in
    omega (arith, first_next b x xs o, number-clear m b (n * 10 + digit x) xs h i.1)

-- of a line that begins with no number
module _ (s : List ℕ) (read : number_to s ≡ 0) where
  no-tab : first_of TAB (before LINE-FEED s) ≡ length (before LINE-FEED s) → line_by (before LINE-FEED s) ≡ Other
  unfolding line_by
  no-tab e = when_true _ _ _ (eq-eqb _ _ e)

  bad-number : first_of TAB s < first_of LINE-FEED s → line_by (before LINE-FEED s) ≡ Other
  unfolding line_by after_number number_to
  bad-number h =
      let n : first_of TAB s ≢ length s = λ q. omega (arith, first-inside LINE-FEED s) in
      let k : number_of (before TAB s) ≡ 0 = sym (when_false _ _ _ (ne_eqb _ _ n)) ∙ read in
      when_false _ _ _ (ne_eqb _ _ (tab-inside s h)) ∙ rw (before-kept s h, k) (unfold when in refl)

  pub no_number : Other ≡ here line_of s
  no_number = other-here line_of s (sym (four-fields (before LINE-FEED s)) ∙ by-tab (line_by (before LINE-FEED s) ≡ Other) s bad-number no-tab)

module _ (s : List ℕ) (v end : ℕ) (read : Number s v end) where
  where-tab : Parted TAB s end
  where-tab = read.parted

  number_is : v ≡ number_of (before TAB s)
  unfolding number_to
  number_is =
      let p = where-tab in
      let n : first_of TAB s ≢ length s = λ q. omega (arith, p.first, p.inside) in
      read.value-is ∙ when_false _ _ _ (ne_eqb _ _ n)

  before-feed : first_of TAB s < first_of LINE-FEED s
  unfolding number_of
  before-feed =
      let p = where-tab in
      let q : number_from (before TAB s) 0 ≢ 0 = λ e. read.some (number_is ∙ on (λ (x : ℕ). x ≡ 0) _ (λ _. refl) (λ _. e)) in
      sooner TAB LINE-FEED s tab-other (omega (arith, p.first, p.inside)) (number-clear TAB LINE-FEED 0 s (omega (arith, feed-none)) q)

  by_number : line_by (before LINE-FEED s) ≡ after_number v (drop (end + 1) (before LINE-FEED s))
  unfolding line_by
  by_number =
      when_false _ _ _ (ne_eqb _ _ (tab-inside s before-feed))
      ∙ rw (before-kept s before-feed, tab-kept s before-feed, ← number_is, ← where-tab.first) refl

  number-inside : end + 1 ≤ first_of LINE-FEED s
  number-inside = let p = where-tab in omega (arith, p.first, before-feed)

  -- the fields behind the number
  with_number : here (after_number v) (drop (end + 1) s) ≡ here line_of s
  with_number = here-from line_of (after_number v) (end + 1) s number-inside (sym (four-fields (before LINE-FEED s)) ∙ by_number)

-- ---- the host

-- two bytes that are no line feed
two-clear : (b : ℕ) (s : List ℕ) → 2 ≤ length s → get_or s 0 0 ≢ b → get_or s 1 0 ≢ b → 2 ≤ first_of b s
two-clear b [] h x y = absurd (omega arith)
two-clear b (z ∷ []) h x y = absurd (omega arith)
two-clear b (z ∷ w ∷ s) h x y = omega (arith, first_next b z (w ∷ s) x, first_next b w s y)

-- by the tests of a host
untold : (d f : Bool) (x : ℕ) (l : Line) → when f None (when d None (Some x)) ≡ None → when d Other (when f Other l) ≡ Other
unfolding when
untold true f x l e = refl
untold false true x l e = refl
untold false false x l e = absurd (cc)

chosen : (a f d : Bool) (x h : ℕ) → when a None (when f None (when d None (Some x))) ≡ Some h → (a ≡ false) × (f ≡ false) × (d ≡ false) × (h ≡ x)
unfolding when
chosen true f d x h e = absurd (cc)
chosen false true d x h e = absurd (cc)
chosen false false true x h e = absurd (cc)
chosen false false false x h e = (refl, refl, refl, cc)

module _ (k : ℕ) (s : List ℕ) where
  -- a line that is long enough for a host begins as the text
  begins : (i : ℕ) → i < 2 → 2 ≤ length (before LINE-FEED s) → byte (before LINE-FEED s) i ≡ get_or s i 0
  unfolding byte
  begins i h n = get_or-take (first_of LINE-FEED s) s i 0 (omega (arith, before-length s))

  no_host : host_to s ≡ None → Other ≡ here (after_number k) s
  no_host e = other-here (after_number k) s down
    where
      O : Line → Type 0
      O l = l ≡ Other

      tests : when (ltb (length s) 2) None (when (differ (get_or s 1 0) TAB) None (when (ltb 9 (digit (get_or s 0 0))) None (Some (digit (get_or s 0 0))))) ≡ None
      tests = unfold host_to byte in e

      long : ltb (length (before LINE-FEED s)) 2 ≡ false → when (ltb 9 (digit (byte (before LINE-FEED s) 0))) Other (when (differ (byte (before LINE-FEED s) 1) TAB) Other (after_host k (digit (byte (before LINE-FEED s) 0)) (drop 2 (before LINE-FEED s)))) ≡ Other
      long w =
          let n : 2 ≤ length (before LINE-FEED s) = ltb-false _ _ w in
          let m : 2 ≤ length s = omega (arith, before-length s, first-inside LINE-FEED s) in
          rw (begins 0 (omega arith) n, begins 1 (omega arith) n) (untold _ _ _ _ (sym (when_false _ _ _ (le-ltb _ _ m)) ∙ tests))

      down : after_number k (before LINE-FEED s) ≡ Other
      down = unfold after_number in on O _ (λ _. refl) (λ _. on O _ (λ _. refl) long)

  module _ (some : k ≢ 0) (h : ℕ) (is : host_to s ≡ Some h) where
    told : (ltb (length s) 2 ≡ false) × (differ (byte s 1) TAB ≡ false) × (ltb 9 (digit (byte s 0)) ≡ false) × (h ≡ digit (byte s 0))
    unfolding host_to
    told = chosen _ _ _ _ _ is

    long_enough : 2 ≤ length s
    long_enough = ltb-false _ _ told.0

    tab : get_or s 1 0 ≡ TAB
    unfolding byte
    tab = differ-false _ _ told.1

    one_digit : h ≡ digit (get_or s 0 0)
    unfolding byte
    one_digit = told.3

    small : h ≤ 9
    small = omega (arith, told.3, ltb-false _ _ told.2)

    host-inside : 2 ≤ first_of LINE-FEED s
    host-inside =
        two-clear LINE-FEED s long_enough
        (λ e. let z = feed-none in let d : digit (get_or s 0 0) ≡ digit LINE-FEED = ap digit e in omega (arith, one_digit, small))
        (λ e. tab-other (sym tab ∙ e))

    by-host : after_number k (before LINE-FEED s) ≡ after_host k h (drop 2 (before LINE-FEED s))
    unfolding after_number
    by-host =
        let n : 2 ≤ length (before LINE-FEED s) = omega (arith, before-length s, host-inside) in
        let x : digit (byte (before LINE-FEED s) 0) ≡ h = ap digit (begins 0 (omega arith) n) ∙ sym one_digit in
        let y : byte (before LINE-FEED s) 1 ≡ TAB = begins 1 (omega arith) n ∙ tab in
        when_false _ _ _ (ne_eqb _ _ some)
        ∙ when_false _ _ _ (le-ltb _ _ n)
        ∙ rw x (when_false _ _ _ (le-ltb _ _ small) ∙ when_false _ _ _ (eq-differ _ _ y))

    -- the fields behind the host
    with-host : here (after_host k h) (drop 2 s) ≡ here (after_number k) s
    with-host = here-from (after_number k) (after_host k h) 2 s host-inside by-host

-- ---- both, before a place of a text

module _ (t : List ℕ) (q : Sequence) (numbered : Number t q.value q.end) where
  number-there : q.end + 1 ≤ length t
  number-there = omega (arith, number-inside t _ _ numbered, first-inside LINE-FEED t)

  module _ (part : List ℕ) (re : part ≡ drop (q.end + 1) t) where
    pub no-host : None ≡ host_to part → Other ≡ here line_of t
    no-host e = no_host q.value (drop (q.end + 1) t) (rw re at (sym e)) ∙ with_number t _ _ numbered

    module _ (h : ℕ) (is : Some h ≡ host_to part) where
      hosted : host_to (drop (q.end + 1) t) ≡ Some h
      hosted = rw re at (sym is)

      pub host-there : q.end + 1 + 2 ≤ length t
      host-there =
          omega (arith, host-inside q.value (drop (q.end + 1) t) numbered.some h hosted, first-inside LINE-FEED (drop (q.end + 1) t), length-drop (q.end + 1) t)

      -- what is read behind the host is read of the line
      pub behind-host : (z : Line) → z ≡ here (after_host q.value h) (drop (q.end + 1 + 2) t) → z ≡ here line_of t
      behind-host z e =
          e
          ∙ ap (here (after_host q.value h)) (sym (drop-drop 2 (q.end + 1) t))
          ∙ with-host q.value (drop (q.end + 1) t) numbered.some h hosted
          ∙ with_number t _ _ numbered

      pub held-behind : (n m e : ℕ) (b l : List ℕ) → Held n m e (q.end + 1 + 2) t b l → Held n m e 0 t b l
      held-behind n m e b l w =
          held-from n m e 0 (q.end + 1) _ t b l (omega arith) (number-inside t _ _ numbered)
          (held-from n m e (q.end + 1) 2 _ t b l refl (host-inside q.value (drop (q.end + 1) t) numbered.some h hosted) w)
