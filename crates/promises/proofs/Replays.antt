-- Replay of a recorded log: what follows from its definition. Assumes nothing.
use Prim.Native.Nat.{ℕ, zero, suc, ◌+◌, ◌<◌, ◌≤◌}
use native.Mathlib.Omega.{arith}
use native.Mathlib.Nat.{zero-add, suc-add}
use mathlib.Core.Path.{◌≡◌, refl, sym, ap, subst, ◌∙◌}
use mathlib.Core.Logic.{◌≢◌, ◌⊎◌, inl, inr, ⊎_elim}
use mathlib.Core.Bool.{Bool, true, false}
use mathlib.Core.List.Memᴰ
use mathlib.Core.List.{List, [], ◌∷◌, map, Memᴰ}
use lib.ListN.{length, drop, length-drop}
use lib.Seq.{drop-drop}
use Rattle.rules.specs.Tables.{Tables}
use Rattle.rules.specs.Sound.{sound}
use Rattle.rules.specs.Order.{Outcome}
use Rattle.rules.specs.Command.{Call, Command, Import, Export, Reset, serve}
use Rattle.rules.specs.Histories.{History, begun, called}
use Rattle.rules.specs.Log.{LINE-FEED, first_of, beyond}
use Rattle.rules.specs.Replay.{after_line, Turn, turn, Replayed, stopped, ahead, turns, replay}
use Rattle.rules.proofs.Ladder.{on, when_true, when_false}
use Rattle.rules.proofs.Sequences.{leaves-next}
use Rattle.rules.proofs.Answerless.{line-next, line-lending, roomy, roomy-next, roomy-number}
use Rattle.rules.proofs.Replaying.{Unapplied, no-line-feed as no-feed, too_long as long, another-form as form, another-number as number, Applied, first-inside, turn-sound, unapplied-is, applied-is, turn-applies, onward, turns-by, turns-ten, turns-on, turns-end, ahead_none, ahead-ahead}
use Rattle.promises.proofs.Refusals.{by_number}
use Rattle.promises.specs.Replays.{GoesOn, WithinBudget, WithinLog, StopsOnly, Faulty, no-line-feed, too_long, another-form, another-number, FaultyStops, TenKeeps, RefusedCounts, StaysSound, Lines, none, more, bufferless, Made, OneByOne}

-- ---- the two ways of a call: the lines, or number 1 at once

module _ (t : Tables) (log : List ℕ) (e n : ℕ) where
  of-sound : sound t ≡ true → replay t log e n ≡ turns n t log e
  unfolding replay
  of-sound h = when_true _ _ _ h

  of-unsound : sound t ≡ false → replay t log e n ≡ stopped 1 e t
  unfolding replay
  of-unsound h = when_false _ _ _ h

  -- a property of what a call ends with
  by-sound : (P : Replayed → Type 0) → (sound t ≡ true → P (turns n t log e)) → (sound t ≡ false → P (stopped 1 e t)) → P (replay t log e n)
  unfolding replay
  by-sound P a b = on P (sound t) a b

-- ---- budgets

within : (n : ℕ) (t : Tables) (s : List ℕ) (e : ℕ) → ((turns n t s e).lines ≤ n) × ((turns n t s e).expected ≡ e + (turns n t s e).lines)
unfolding turns
within zero t s e = (omega arith, omega arith)
within (suc n) t s e =
    let i = within n (turn t e s).tables (beyond LINE-FEED s) (e + 1) in
    turns-by n t s e (λ r. (r.lines ≤ suc n) × (r.expected ≡ e + r.lines)) (λ _. (omega arith, omega arith)) (λ _ _. (omega arith, omega arith))
    (λ _ _. (omega arith, omega arith))

pub within-budget : WithinBudget
within-budget t log e n =
    by-sound t log e n (λ r. (r.lines ≤ n) × (r.expected ≡ e + r.lines)) (λ _. within n t log e) (λ _. (omega arith, omega arith))

inside : (n : ℕ) (t : Tables) (s : List ℕ) (e : ℕ) → (turns n t s e).place ≤ length s
unfolding turns
inside zero t s e = omega arith
inside (suc n) t s e =
    let i = inside n (turn t e s).tables (beyond LINE-FEED s) (e + 1) in
    let l = length-drop (first_of LINE-FEED s + 1) s in
    turns-by n t s e (λ r. r.place ≤ length s) (λ _. omega arith) (λ _ _. omega arith)
    (λ _ y. let k = (applied-is t e s y).line-feed in let f = first-inside LINE-FEED s in omega arith)

pub within-log : WithinLog
within-log t log e n = by-sound t log e n (λ r. r.place ≤ length log) (λ _. inside n t log e) (λ _. omega arith)

-- ---- where it stops

-- with sound tables
Stops : ℕ → List ℕ → Replayed → Type 0
Stops n s r = ((r.number ≡ 0) ⊎ (r.number ≡ 10)) × (r.number ≡ 0 → (r.lines ≡ n) ⊎ (r.place ≡ length s))

stops : (n : ℕ) (t : Tables) (s : List ℕ) (e : ℕ) → Stops n s (turns n t s e)
unfolding Stops
stops zero t s e = unfold turns in (inl refl, λ _. inl refl)
stops (suc n) t s e =
    let t₁ = (turn t e s).tables in
    let s₁ = beyond LINE-FEED s in
    let i = stops n t₁ s₁ (e + 1) in
    let l = length-drop (first_of LINE-FEED s + 1) s in
    turns-by n t s e (Stops (suc n) s) (λ z. (inl refl, λ _. inr (sym z))) (λ _ _. (inr refl, λ z. absurd (omega arith)))
    (λ _ y.
    let k = (applied-is t e s y).line-feed in
    let f = first-inside LINE-FEED s in (
      i.0,
      λ z.
          ⊎_elim (λ (q : (turns n t₁ s₁ (e + 1)).lines ≡ n). inl (omega arith)) (λ (q : (turns n t₁ s₁ (e + 1)).place ≡ length s₁). inr (omega arith)) (i.1 z),
    ))

pub stops-only : StopsOnly
unfolding Stops
stops-only t log e n =
    record {
      numbers =
          by-sound t log e n (λ r. (r.number ≡ 0) ⊎ (r.number ≡ 1) ⊎ (r.number ≡ 10))
          (λ _. ⊎_elim (λ (z : (turns n t log e).number ≡ 0). inl z) (λ z. inr (inr z)) (stops n t log e).0) (λ _. inr (inl refl));
      zero = by-sound t log e n (λ r. r.number ≡ 0 → (r.lines ≡ n) ⊎ (r.place ≡ length log)) (λ _. (stops n t log e).1) (λ _ z. absurd (omega arith));
      unsound = of-unsound t log e n;
      one-alone =
          by-sound t log e n (λ r. r.number ≡ 1 → sound t ≡ false)
          (λ _ z. ⊎_elim (λ (q : (turns n t log e).number ≡ 0). absurd (omega arith)) (λ q. absurd (omega arith)) (stops n t log e).0) (λ h _. h);
    }

-- ---- sound stays sound

turns-sound : (n : ℕ) (t : Tables) (s : List ℕ) (e : ℕ) → sound t ≡ true → sound (turns n t s e).tables ≡ true
unfolding turns
turns-sound zero t s e h = h
turns-sound (suc n) t s e h =
    turns-by n t s e (λ r. sound r.tables ≡ true) (λ _. h) (λ _ _. h)
    (λ _ _. turns-sound n (turn t e s).tables (beyond LINE-FEED s) (e + 1) (turn-sound t e s h))

pub stays-sound : StaysSound
stays-sound t log e n h = rw (of-sound t log e n h) (turns-sound n t log e h)

-- ---- two calls and one

module _ (n : ℕ) where
  goes-on-turns : (m : ℕ) (t : Tables) (s : List ℕ) (e : ℕ) → (turns m t s e).number ≡ 0
      → ahead (turns m t s e).lines (turns m t s e).place (turns n (turns m t s e).tables (drop (turns m t s e).place s) (turns m t s e).expected) ≡ turns (m + n) t s e
  goes-on-turns zero t s e z = unfold turns in ahead_none _ ∙ rw zero-add refl
  goes-on-turns (suc m) t s e z =
      rw suc-add (turns-by m t s e P ended (λ _ _ q. absurd (omega arith)) (further (λ q. goes-on-turns m (turn t e s).tables (beyond LINE-FEED s) (e + 1) q)) z)
    where
      P : Replayed → Type 0
      P r = r.number ≡ 0 → ahead r.lines r.place (turns n r.tables (drop r.place s) r.expected) ≡ turns (suc (m + n)) t s e

      ended : length s ≡ 0 → P (stopped 0 e t)
      ended l _ = ahead_none _ ∙ turns-end n t s e l ∙ sym (turns-end (suc (m + n)) t s e l)

      r : Replayed
      r = turns m (turn t e s).tables (beyond LINE-FEED s) (e + 1)

      further : (r.number ≡ 0
          → ahead r.lines r.place (turns n r.tables (drop r.place (beyond LINE-FEED s)) r.expected) ≡ turns (m + n) (turn t e s).tables (beyond LINE-FEED s) (e + 1))
          → length s ≢ 0 → (turn t e s).applied ≡ true → P (onward m t s e)
      further ih l y q =
          let i = ih q in
          ahead-ahead 1 r.lines (first_of LINE-FEED s + 1) r.place _
          ∙ ap (ahead 1 (first_of LINE-FEED s + 1)) (rw (← drop-drop r.place (first_of LINE-FEED s + 1) s) i)
          ∙ sym (turns-on (m + n) t s e l y)

-- a call that ends with 0 was made on sound tables
zero-sound : (t : Tables) (log : List ℕ) (e n : ℕ) → (replay t log e n).number ≡ 0 → sound t ≡ true
zero-sound t log e n = by-sound t log e n (λ r. r.number ≡ 0 → sound t ≡ true) (λ h _. h) (λ _ z. absurd (omega arith))

pub goes_on : GoesOn
goes_on t log e m n z =
    let h = zero-sound t log e m z in
    let a = of-sound t log e m h in
    let r = turns m t log e in
    let b : replay r.tables (drop r.place log) r.expected n ≡ turns n r.tables (drop r.place log) r.expected
    = of-sound r.tables (drop r.place log) r.expected n (turns-sound m t log e h) in
    rw (a, b, of-sound t log e (m + n) h) (goes-on-turns n m t log e (rw a at z))

-- ---- number 10

faulty-of : (e : ℕ) (s : List ℕ) → Unapplied e s → Faulty e s
faulty-of e s (no-feed h) = no-line-feed h
faulty-of e s (long h) = too_long h
faulty-of e s (form h) = another-form h
faulty-of e s (number h n) = another-number h n

-- a faulty line is not applied
unapplied : (t : Tables) (e : ℕ) (s : List ℕ) → Faulty e s → (turn t e s).applied ≡ false
unapplied t e s f = go (turn t e s).applied refl
  where
    against : Applied t e s (turn t e s).tables → Faulty e s → ⊥
    against k (no-line-feed h) = k.line-feed h
    against k (too_long h) = omega (arith, k.short)
    against k (another-form h) = let i = k.form in let y : ◌≡◌ {A = ℕ} 0 1 = cc in omega arith
    against k (another-number h n) = let i = k.form in n (cc)

    go : (b : Bool) → (turn t e s).applied ≡ b → b ≡ false
    go true y = absurd (against (applied-is t e s y) f)
    go false y = refl

pub faulty-stops : FaultyStops
faulty-stops t s e n h some f = of-sound t s e (suc n) h ∙ turns-ten n t s e some (unapplied t e s f)

-- of the lines alone: what the call ended with whose budget is the lines applied, and what the log goes on with
record Keeps (t : Tables) (s : List ℕ) (e n : ℕ) (r : Replayed) : Type 0 where
  kept : turns r.lines t s e ≡ record { number = 0; lines = r.lines; place = r.place; expected = r.expected; tables = r.tables }
  sooner : r.lines < n
  further : r.place < length s
  unapplied-there : Unapplied r.expected (drop r.place s)

keeps : (n : ℕ) (t : Tables) (s : List ℕ) (e : ℕ) → (turns n t s e).number ≡ 10 → Keeps t s e n (turns n t s e)
keeps zero t s e = unfold turns in λ z. absurd (omega arith)
keeps (suc n) t s e =
    turns-by n t s e (λ r. r.number ≡ 10 → Keeps t s e (suc n) r) (λ _ z. absurd (omega arith))
    (λ l y _. record { kept = unfold turns in refl; sooner = omega arith; further = omega arith; unapplied-there = unapplied-is t e s y })
    (λ l y z. go_on l y (keeps n (turn t e s).tables (beyond LINE-FEED s) (e + 1) z))
  where
    r : Replayed
    r = turns n (turn t e s).tables (beyond LINE-FEED s) (e + 1)

    go_on : length s ≢ 0 → (turn t e s).applied ≡ true → Keeps (turn t e s).tables (beyond LINE-FEED s) (e + 1) n r → Keeps t s e (suc n) (onward n t s e)
    go_on l y k =
        let one : 1 + r.lines ≡ suc r.lines = omega arith in
        let d = length-drop (first_of LINE-FEED s + 1) s in
        record {
          kept = ap (λ (m : ℕ). turns m t s e) one ∙ turns-on r.lines t s e l y ∙ ap (ahead 1 (first_of LINE-FEED s + 1)) k.kept;
          sooner = omega (arith, k.sooner);
          further = omega (arith, k.further);
          unapplied-there = rw (← drop-drop r.place (first_of LINE-FEED s + 1) s) k.unapplied-there;
        }

-- a call that ends with 10 was made on sound tables
ten-sound : (t : Tables) (log : List ℕ) (e n : ℕ) → (replay t log e n).number ≡ 10 → sound t ≡ true
ten-sound t log e n = by-sound t log e n (λ r. r.number ≡ 10 → sound t ≡ true) (λ h _. h) (λ _ z. absurd (omega arith))

pub ten-keeps : TenKeeps
ten-keeps t log e n z =
    let h = ten-sound t log e n z in
    let a = of-sound t log e n h in
    let k = keeps n t log e (rw a at z) in
    rw a
    (record {
      kept = of-sound t log e (turns n t log e).lines h ∙ k.kept;
      sooner = k.sooner;
      more = k.further;
      faulty = faulty-of _ _ k.unapplied-there;
    })

-- ---- lines that are applied

some-text : (s : List ℕ) → first_of LINE-FEED s ≢ length s → length s ≢ 0
some-text s n z = n (omega (arith, first-inside LINE-FEED s))

-- refused by a number other than 5
refused-stays : (t : Tables) (c : Call) → (serve t c).number ≢ 0 → (serve t c).number ≢ 5 → after_line t c ≡ t
refused-stays t c n five = line-next t c five ∙ sym (leaves-next t c) ∙ (by_number t c n).tables-is

pub refused-counts : RefusedCounts
refused-counts t s e n c h b z five =
    let u = turn-applies t e s c b.line-feed b.short b.form in
    let x : turn t e s ≡ record { applied = true; tables = t } = u ∙ ap (λ (v : Tables). record { applied = true; tables = v }) (refused-stays t c z five) in
    of-sound t s e (suc n) h
    ∙ turns-on n t s e (some-text s b.line-feed) (ap (λ (y : Turn). y.applied) x)
    ∙ ap (λ (y : Turn). ahead 1 (first_of LINE-FEED s + 1) (turns n y.tables (beyond LINE-FEED s) (e + 1))) x
    ∙ ap (ahead 1 (first_of LINE-FEED s + 1)) (sym (of-sound t (beyond LINE-FEED s) (e + 1) n h))

-- ---- the calls one by one

after_lines : Tables → List Call → Tables
after_lines t [] = t
after_lines t (c ∷ cs) = after_lines (after_line t c) cs

-- the lines that are applied, the calls that they record, and the tables after them
record Recorded (t : Tables) (s : List ℕ) (e : ℕ) (r : Replayed) : Type 0 where
  calls : List Call
  lines_are : Lines e s calls (drop r.place s)
  count-is : r.lines ≡ length calls
  tables-are : r.tables ≡ after_lines t calls

recorded : (n : ℕ) (t : Tables) (s : List ℕ) (e : ℕ) → Recorded t s e (turns n t s e)
unfolding after_lines
recorded zero t s e = unfold turns in record { calls = []; lines_are = none; count-is = refl; tables-are = refl }
recorded (suc n) t s e =
    turns-by n t s e (Recorded t s e) (λ _. record { calls = []; lines_are = none; count-is = refl; tables-are = refl })
    (λ _ _. record { calls = []; lines_are = none; count-is = refl; tables-are = refl })
    (λ _ y. go_on (applied-is t e s y) (recorded n (turn t e s).tables (beyond LINE-FEED s) (e + 1)))
  where
    r : Replayed
    r = turns n (turn t e s).tables (beyond LINE-FEED s) (e + 1)

    go_on : Applied t e s (turn t e s).tables → Recorded (turn t e s).tables (beyond LINE-FEED s) (e + 1) r → Recorded t s e (onward n t s e)
    go_on a k =
        record {
          calls = a.call ∷ k.calls;
          lines_are =
              more (record { line-feed = a.line-feed; short = a.short; form = a.form })
              (subst (Lines (e + 1) (beyond LINE-FEED s) k.calls) (drop-drop r.place (first_of LINE-FEED s + 1) s) k.lines_are);
          count-is = omega (arith, k.count-is);
          tables-are = k.tables-are ∙ ap (λ (u : Tables). after_lines u k.calls) a.tables-are;
        }

-- ---- such calls can be made, each with a buffer as long as what it returns

roomy-bufferless : (t : Tables) (c : Call) → bufferless (roomy t c) ≡ bufferless c
unfolding bufferless roomy
roomy-bufferless t (Command r) = refl
roomy-bufferless t (Import a v) = refl
roomy-bufferless t (Export a) = refl
roomy-bufferless t Reset = refl

made_one : (t u : Tables) (c : Call) (cs : List Call) → Made (after_line t c) cs u → Made t (c ∷ cs) u
made_one t u c cs m =
    record {
      calls = roomy t c ∷ m.calls;
      outcomes = serve t (roomy t c) ∷ m.outcomes;
      same-calls = cc (roomy-bufferless t c, m.same-calls);
      long-enough = λ o i. ⊎_elim (λ (e : o ≡ serve t (roomy t c)). rw e (roomy-number t c)) (m.long-enough o) (Memᴰ.cases_cons i);
      history =
          called refl
          (subst (λ (v : Tables). History v m.calls m.outcomes u) (sym (leaves-next t (roomy t c) ∙ roomy-next t c)) m.history);
    }

made_all : (t : Tables) (cs : List Call) → Made t cs (after_lines t cs)
unfolding after_lines
made_all t [] = record { calls = []; outcomes = []; same-calls = refl; long-enough = λ o i. absurd (Memᴰ.not-nil i); history = begun }
made_all t (c ∷ cs) = made_one t (after_lines (after_line t c) cs) c cs (made_all (after_line t c) cs)

-- ---- and however they are made, they end there

line-bufferless : (t : Tables) (c : Call) → after_line t (bufferless c) ≡ after_line t c
unfolding bufferless
line-bufferless t (Command r) = line-lending t r []
line-bufferless t (Import a v) = refl
line-bufferless t (Export a) = refl
line-bufferless t Reset = refl

same_line : (t : Tables) (c d : Call) → bufferless d ≡ bufferless c → (serve t d).number ≢ 5 → (serve t d).tables ≡ after_line t c
same_line t c d e five = leaves-next t d ∙ sym (line-next t d five) ∙ sym (line-bufferless t d) ∙ ap (after_line t) e ∙ line-bufferless t c

one_end : {t u : Tables} {ds : List Call} {os : List Outcome} → History t ds os u → (cs : List Call) → map bufferless ds ≡ map bufferless cs
    → ((o : Outcome) → Memᴰ o os → o.number ≢ 5) → u ≡ after_lines t cs
unfolding after_lines
one_end begun [] e f = refl
one_end begun (c ∷ cs) e f = let y : ◌≡◌ {A = ℕ} 0 1 = cc in absurd (omega arith)
one_end (called i hs) [] e f = let y : ◌≡◌ {A = ℕ} 0 1 = cc in absurd (omega arith)
one_end (called {t = t} {c = d} {o = o} {cs = ds} i hs) (c ∷ cs) e f =
    let first : bufferless d ≡ bufferless c = cc in
    let rest : map bufferless ds ≡ map bufferless cs = cc in
    let five : (serve t d).number ≢ 5 = rw (← i) (f o (Memᴰ.head refl)) in
    one_end hs cs rest (λ p m. f p (Memᴰ.tail m)) ∙ ap (λ (v : Tables). after_lines v cs) (ap (λ (q : Outcome). q.tables) i ∙ same_line t c d first five)

-- the lines tell their calls
lines_same : {e : ℕ} {s x y : List ℕ} {cs ds : List Call} → Lines e s cs x → Lines e s ds y → length cs ≡ length ds → cs ≡ ds
lines_same none none l = refl
lines_same none (more b w) l = absurd (omega arith)
lines_same (more b w) none l = absurd (omega arith)
lines_same (more {c = c} b w) (more {c = d} f v) l =
    let tails = lines_same w v (omega arith) in
    let g = b.form in
    let h = f.form in
    let heads : c ≡ d = cc in
    cc

pub one_by_one : OneByOne
one_by_one t log e n h =
    let k = recorded n t log e in
    rw (of-sound t log e n h)
    (record {
      calls = k.calls;
      lines_are = k.lines_are;
      count-is = k.count-is;
      made = rw k.tables-are (made_all t k.calls);
      one_end = λ cs left u w l m.
          one_end m.history cs m.same-calls m.long-enough
          ∙ ap (after_lines t) (lines_same w k.lines_are (l ∙ k.count-is)) ∙ sym k.tables-are;
    })
