-- One line of a log, and one turn of replay: what the promises and the loop both stand on. Assumes nothing.
use Prim.Native.Nat.{ℕ, zero, suc, ◌+◌, ◌<◌, ◌≤◌}
use native.Mathlib.Omega.{arith}
use native.Mathlib.Nat.{zero-add, add-zero, add_assoc}
use mathlib.Core.Path.{◌≡◌, refl, sym, ap, ◌∙◌}
use mathlib.Core.Logic.{◌≢◌}
use mathlib.Core.Bool.{true, false}
use mathlib.Core.List.{List, [], ◌∷◌}
use lib.ListN.{length}
use lib.Dec.{eqb}
use borrow.Author.Tests.{eqb-true, eqb-false, eq-eqb, ne_eqb, ltb-true, ltb-false, le-ltb}
use Rattle.rules.specs.Tables.{Tables}
use Rattle.rules.specs.Roster.{ranges}
use Rattle.rules.specs.Sound.{sound}
use Rattle.rules.specs.Command.{Call}
use Rattle.rules.specs.Log.{LINE-FEED, first_of, before, beyond, number_from, number_of, Line, Other, Entry, event_of, entry_of, fields, four_fields, line_of}
use Rattle.rules.specs.Replay.{after_line, Turn, idle, turn_on, longest_line, turn, Replayed, stopped, ahead, turns}
use Rattle.rules.proofs.Ladder.{on, when_true, when_false, never}
use Rattle.rules.proofs.Answerless.{line-sound, line-ranges}

pub first-inside : (b : ℕ) (s : List ℕ) → first_of b s ≤ length s
unfolding first_of
first-inside b [] = omega arith
first-inside b (x ∷ xs) = let i = first-inside b xs in on (λ (n : ℕ). n ≤ suc (length xs)) (eqb x b) (λ _. omega arith) (λ _. omega arith)

-- ---- "1 to 999,999,999": the numbers of lines

abbrev pub Low : ℕ → Type 0
Low k = k ≤ 999999999

from_low : (s : List ℕ) (n : ℕ) → Low n → Low (number_from s n)
unfolding number_from
from_low [] n h = h
from_low (b ∷ bs) n h = on Low _ (λ _. omega arith) (λ _. on Low _ (λ _. omega arith) (λ z. from_low bs _ (ltb-false _ _ z)))

number-low : (s : List ℕ) → Low (number_of s)
unfolding number_of
number-low s = on Low _ (λ _. omega arith) (λ _. from_low s 0 (omega arith))

abbrev LowLine : Line → Type 0
LowLine Other = Unit {0}
LowLine (Entry k c) = Low k

entry-low : (k h : ℕ) (block list : List ℕ) → Low k → LowLine (entry_of k h block list)
unfolding entry_of event_of
entry-low k h block list i =
    on LowLine _ (λ _. on LowLine _ (λ _. tt) (λ _. on LowLine _ (λ _. i) (λ _. on LowLine _ (λ _. i) (λ _. on LowLine _ (λ _. i) (λ _. tt))))) (λ _. i)

line_low : (s : List ℕ) → LowLine (line_of s)
unfolding line_of
line_low s = by-fields (fields s)
  where
    by-fields : (fs : List (List ℕ)) → LowLine (four_fields fs)
    by-fields [] = unfold four_fields in tt
    by-fields (n ∷ []) = unfold four_fields in tt
    by-fields (n ∷ h ∷ []) = unfold four_fields in tt
    by-fields (n ∷ h ∷ c ∷ []) = unfold four_fields in tt
    by-fields (n ∷ h ∷ c ∷ p ∷ []) = unfold four_fields in on LowLine _ (λ _. entry-low _ _ _ _ (number-low n)) (λ _. tt)
    by-fields (n ∷ h ∷ c ∷ p ∷ q ∷ qs) = unfold four_fields in tt

-- ---- one line

-- a line that is not applied
pub data Unapplied (e : ℕ) (s : List ℕ) : Type 0 where
  no-line-feed : first_of LINE-FEED s ≡ length s → Unapplied e s
  too_long : longest_line < first_of LINE-FEED s → Unapplied e s
  another-form : line_of (before LINE-FEED s) ≡ Other → Unapplied e s
  another-number : {k : ℕ} {c : Call} → line_of (before LINE-FEED s) ≡ Entry k c → k ≢ e → Unapplied e s

-- one that is, and the tables after it
pub record Applied (t : Tables) (e : ℕ) (s : List ℕ) (u : Tables) : Type 0 where
  pub call : Call
  pub line-feed : first_of LINE-FEED s ≢ length s
  pub short : first_of LINE-FEED s ≤ longest_line
  pub form : line_of (before LINE-FEED s) ≡ Entry e call
  pub low : Low e
  pub tables-are : u ≡ after_line t call

module _ (t : Tables) (e : ℕ) (s : List ℕ) where
  -- a property of what a line comes to: where it is not applied, and where it is
  turn_by : (P : Turn → Type 0) → (Unapplied e s → P (idle t)) → ((u : Tables) → Applied t e s u → P (record { applied = true; tables = u })) → P (turn t e s)
  unfolding turn
  turn_by P a b =
      on P _ (λ z. a (no-line-feed (eqb-true _ _ z)))
      λ n. on P _ (λ z. a (too_long (ltb-true _ _ z)))
      λ z. by-line (eqb-false _ _ n) (ltb-false _ _ z) (line_of (before LINE-FEED s)) refl (line_low (before LINE-FEED s))
    where
      by-line : first_of LINE-FEED s ≢ length s → first_of LINE-FEED s ≤ longest_line → (l : Line) → line_of (before LINE-FEED s) ≡ l → LowLine l → P (turn_on t e l)
      by-line n m Other i w = unfold turn_on in a (another-form i)
      by-line n m (Entry k c) i w =
          unfold turn_on in
          on P _
          (λ z.
          let k-is = eqb-true k e z in
          b (after_line t c) (record { call = c; line-feed = n; short = m; form = i ∙ ap (λ (x : ℕ). Entry x c) k-is; low = rw k-is at w; tables-are = refl }))
          (λ z. a (another-number i (eqb-false k e z)))

  pub turn-sound : sound t ≡ true → sound (turn t e s).tables ≡ true
  turn-sound h = turn_by (λ (x : Turn). sound x.tables ≡ true) (λ _. h) (λ u k. rw k.tables-are (line-sound t k.call h))

  pub turn-ranges : ranges (turn t e s).tables.head ≡ ranges t.head
  turn-ranges = turn_by (λ (x : Turn). ranges x.tables.head ≡ ranges t.head) (λ _. refl) (λ u k. rw k.tables-are (line-ranges t k.call))

  pub unapplied-is : (turn t e s).applied ≡ false → Unapplied e s
  unapplied-is y = turn_by (λ (x : Turn). x.applied ≡ false → Unapplied e s) (λ a _. a) (λ u k z. absurd (never (sym z))) y

  pub applied-is : (turn t e s).applied ≡ true → Applied t e s (turn t e s).tables
  applied-is y = turn_by (λ (x : Turn). x.applied ≡ true → Applied t e s x.tables) (λ _ z. absurd (never z)) (λ u k z. k) y

  -- a line of the form and of the number expected is applied
  pub turn-applies : (c : Call) → first_of LINE-FEED s ≢ length s → first_of LINE-FEED s ≤ longest_line → line_of (before LINE-FEED s) ≡ Entry e c
      → turn t e s ≡ record { applied = true; tables = after_line t c }
  unfolding turn turn_on
  turn-applies c n m f =
      when_false _ _ _ (ne_eqb _ _ n) ∙ when_false _ _ _ (le-ltb _ _ m) ∙ ap (turn_on t e) f ∙ when_true _ _ _ (eq-eqb e e refl)

-- ---- one turn

module _ (n : ℕ) (t : Tables) (s : List ℕ) (e : ℕ) where
  abbrev pub onward : Replayed
  onward = ahead 1 (first_of LINE-FEED s + 1) (turns n (turn t e s).tables (beyond LINE-FEED s) (e + 1))

  -- by the three tests of a turn: the log's end, a line that is not applied, a line that is
  pub turns-by : (P : Replayed → Type 0) → (length s ≡ 0 → P (stopped 0 e t)) → (length s ≢ 0 → (turn t e s).applied ≡ false → P (stopped 10 e t))
      → (length s ≢ 0 → (turn t e s).applied ≡ true → P onward) → P (turns (suc n) t s e)
  unfolding turns
  turns-by P a b c = on P _ (λ z. a (eqb-true _ _ z)) (λ z. on P _ (c (eqb-false _ _ z)) (b (eqb-false _ _ z)))

  pub turns-ten : length s ≢ 0 → (turn t e s).applied ≡ false → turns (suc n) t s e ≡ stopped 10 e t
  unfolding turns
  turns-ten h y = when_false _ _ _ (ne_eqb _ _ h) ∙ when_false _ _ _ y

  pub turns-on : length s ≢ 0 → (turn t e s).applied ≡ true → turns (suc n) t s e ≡ onward
  unfolding turns
  turns-on h y = when_false _ _ _ (ne_eqb _ _ h) ∙ when_true _ _ _ y

-- no budget: the log is not looked at
pub turns-none : (t : Tables) (s : List ℕ) (e : ℕ) → turns 0 t s e ≡ stopped 0 e t
unfolding turns
turns-none t s e = refl

pub turns-end : (n : ℕ) (t : Tables) (s : List ℕ) (e : ℕ) → length s ≡ 0 → turns n t s e ≡ stopped 0 e t
unfolding turns
turns-end zero t s e z = turns-none t s e
turns-end (suc n) t s e z = when_true _ _ _ (eq-eqb _ _ z)

pub ahead_none : (r : Replayed) → ahead 0 0 r ≡ r
ahead_none r = simp zero-add

pub ahead-ahead : (a b c d : ℕ) (r : Replayed) → ahead (a + b) (c + d) r ≡ ahead a c (ahead b d r)
ahead-ahead a b c d r = simp add_assoc

pub ahead-stopped : (l p n e : ℕ) (t : Tables) → ahead l p (stopped n e t) ≡ record { number = n; lines = l; place = p; expected = e; tables = t }
ahead-stopped l p n e t = simp add-zero
