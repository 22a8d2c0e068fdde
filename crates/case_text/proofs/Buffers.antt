-- Laws of bytes written one after the other, and of the bytes that a text gives. Assumes nothing.
use Prim.Native.Nat.{ℕ, zero, suc, ◌+◌, ◌-◌, ◌<◌, ◌≤◌}
use native.Mathlib.Omega.{arith}
use native.Mathlib.Nat.{add-suc, suc-add, add-zero, zero-add}
use mathlib.Core.Path.{◌≡◌, refl, sym, ap, ◌∙◌}
use mathlib.Core.List.{List, [], ◌∷◌, ◌++◌}
use mathlib.Core.Bool.{Bool, true, false}
use lib.ListN.{length, set, take, replicate, drop, length-append, length-drop, length-replicate, take-append-drop}
use lib.Seq.{sets, sets-eq, take_at, length-take-le, drop-drop}
use lib.Dec.{leb, ltb}
use borrow.Rule.Slice.PartMut.{put_mid}
use borrow.Author.Tests.{lt-ltb, le-ltb, le-leb, lt-leb, ltb-false, leb-false}
use Rattle.std.proofs.Common.{append_assoc}
use Rattle.rules.specs.Choice.{when}
use Rattle.rules.specs.Bytes.{put}
use Rattle.rules.proofs.Writes.{put-length}
use Rattle.rules.proofs.Ladder.{when_true, when_false, on}
use Rattle.std.specs.Prelude.{Result, Ok, Err}
use Rattle.case_text.specs.declared.bytes.Run.{Run}
use Rattle.case_text.specs.declared.fault.Fault.{Fault}
use Rattle.case_text.specs.declared.fault.Fault.TheVariants.{TooManyBytes}
use Rattle.case_text.specs.declared.fault.Stop.{Stop}
use Rattle.case_text.specs.Text.{byte_start, byte_end, between}
use Rattle.case_text.specs.Bytes.{run_of, Given, all, and_then, runs_from, given, Filled, onto}
use Rattle.case_text.specs.Letters.{letter_of, letter_end, written}

-- why bytes can not be read, and where
abbrev stop : Fault → ℕ → Result ℕ Stop
stop why at = Err (record { why = why; at = at })

-- ---- one run behind another

sets-append : (vs ws l : List ℕ) (i : ℕ) → sets l i (vs ++ ws) ≡ sets (sets l i vs) (i + length vs) ws
sets-append [] ws l i = rw add-zero refl
sets-append (v ∷ vs) ws l i = sets-append vs ws (set l i v) (suc i) ∙ rw (suc-add, add-suc)

pub put-append : (l : List ℕ) (i : ℕ) (vs ws : List ℕ) → put (put l i vs) (i + length vs) ws ≡ put l i (vs ++ ws)
unfolding put
put-append l i vs ws = sym (sets-append vs ws l i)

pub put-none : (l : List ℕ) (i : ℕ) → l ≡ put l i []
unfolding put
put-none l i = refl

-- ---- a byte written so many times, into a part of a buffer

pub filled : (l : List ℕ) (from b n : ℕ) → from + n ≤ length l → (m : List ℕ) → m ≡ replicate (length (take (from + n - from) (drop from l))) b
    → put_mid from (from + n - from) l m ≡ put l from (replicate n b)
unfolding put
filled l from b n h m e =
    let k : from + n - from ≡ n = omega arith in
    let len : length (take n (drop from l)) ≡ n = length-take-le n (drop from l) (omega (arith, length-drop from l)) in
    let is : m ≡ replicate n b = e ∙ rw (k, len) in
    rw (is, k, drop-drop n from l)
    (sym (sets-eq (replicate n b) l from (omega (arith, length-replicate n b)) ∙ rw (length-replicate n b) (append_assoc (take from l) (replicate n b) (drop (from + n) l))))

-- ---- what stands at the front already

pub put_front : (l : List ℕ) (n : ℕ) → n ≤ length l → l ≡ put l 0 (take n l)
unfolding put
put_front l n h =
    let e : 0 + length (take n l) ≡ n = zero-add _ ∙ length-take-le n l h in
    sym (sets-eq (take n l) l 0 (omega arith) ∙ rw e (take-append-drop n l))

pub take_put : (l vs : List ℕ) (n : ℕ) → length vs ≡ n → n ≤ length l → take n (put l 0 vs) ≡ vs
unfolding put
take_put l vs n e h = rw (sets-eq vs l 0 (omega arith)) (take_at vs _ n e)

put-behind : (l : List ℕ) (n : ℕ) (ws : List ℕ) → n ≤ length l → put l n ws ≡ put l 0 (take n l ++ ws)
put-behind l n ws h =
    let e : n ≡ 0 + length (take n l) = sym (zero-add _ ∙ length-take-le n l h) in
    ap (λ (k : ℕ). put l k ws) e
    ∙ ap (λ (m : List ℕ). put m (0 + length (take n l)) ws) (put_front l n h)
    ∙ put-append l 0 (take n l) ws

-- ---- one run behind the bytes that are there

module _ (at : ℕ) (l : List ℕ) (count : ℕ) (h : count ≤ length l) (x : Result Run Fault) where
  abbrev after : Filled
  after = onto l (and_then (length l) at (take count l) x all)

  stays : (t : Result ℕ Stop) → record { told = t; bytes = l } ≡ onto l (record { told = t; front = take count l })
  stays t = ap (λ (b : List ℕ). record { told = t; bytes = b }) (put_front l count h)

  pub put-bad : (why : Fault) → x ≡ Err why → record { told = stop why at; bytes = l } ≡ after
  unfolding and_then
  put-bad why e = rw e (stays _)

  module _ (b n : ℕ) (e : x ≡ Ok (record { byte = b; times = n })) where
    pub put-many : length l - count < n → record { told = stop TooManyBytes at; bytes = l } ≡ after
    unfolding and_then
    put-many k =
        let room : length l - length (take count l) < n = rw (length-take-le count l h) k in
        rw (e, when_true _ _ _ (lt-ltb _ _ room)) (stays _)

    pub put-done : n ≤ length l - count → (m : List ℕ) → m ≡ put l count (replicate n b) → record { told = Ok (count + n); bytes = m } ≡ after
    unfolding and_then
    put-done k m d =
        let len : length (take count l) ≡ count = length-take-le count l h in
        let room : n ≤ length l - length (take count l) = rw len k in
        let many : count + n ≡ length (take count l ++ replicate n b) = omega (arith, length-append (take count l) (replicate n b), length-replicate n b) in
        rw (e, when_false _ _ _ (le-ltb _ _ room), many, d ∙ put-behind l count (replicate n b) h)

-- what a run does to the bytes so far, whatever follows: it stops them as they are, or it adds to them
abbrev stopped : List ℕ → Fault → ℕ → Given
stopped front why place = record { told = stop why place; front = front }

module _ (room at : ℕ) (front : List ℕ) (rest : List ℕ → Given) (P : Type 0) where
  -- of the bytes as they end here, and as the rest goes on
  abbrev Stops : Given → Given → Type 0
  Stops here on = (why : Fault) (place : ℕ) → here ≡ stopped front why place → on ≡ stopped front why place → P

  abbrev Adds : Given → Given → Type 0
  Adds here on = (more : List ℕ) → length more ≤ room - length front → here ≡ all (front ++ more) → on ≡ rest (front ++ more) → P

  and_cases : (x : Result Run Fault) → Stops (and_then room at front x all) (and_then room at front x rest) → Adds (and_then room at front x all) (and_then room at front x rest) → P
  unfolding and_then when
  and_cases (Err why) f g = f why at refl refl
  and_cases (Ok run) f g = go (ltb (room - length front) run.times) refl f g
    where
      go : (t : Bool) → ltb (room - length front) run.times ≡ t
          → Stops (when t (stopped front TooManyBytes at) (all (front ++ replicate run.times run.byte))) (when t (stopped front TooManyBytes at) (rest (front ++ replicate run.times run.byte)))
          → Adds (when t (stopped front TooManyBytes at) (all (front ++ replicate run.times run.byte))) (when t (stopped front TooManyBytes at) (rest (front ++ replicate run.times run.byte)))
          → P
      go true e f g = f TooManyBytes at refl refl
      go false e f g = g (replicate run.times run.byte) (omega (arith, ltb-false (room - length front) run.times e, length-replicate run.times run.byte)) refl refl

-- ---- all the runs of a text, which are w: those up to the place `at` are in the buffer, and the rest follows

pub record Going (run : ℕ → Result Run Fault) (next : ℕ → ℕ) (end : ℕ) (w : Given) (l : List ℕ) (at count : ℕ) (m : List ℕ) : Type 0 where
  pub turns : ℕ
  pub enough : end ≤ at + turns
  pub few : count ≤ length m
  pub long : length m ≡ length l
  pub holds : m ≡ put l 0 (take count m)
  pub whole : w ≡ runs_from run next (length l) end turns at (take count m)

module _ (run : ℕ → Result Run Fault) (next : ℕ → ℕ) (end : ℕ) (w : Given) (l : List ℕ) where
  runs-end : (at : ℕ) (front : List ℕ) → end ≤ at → (n : ℕ) → runs_from run next (length l) end n at front ≡ all front
  unfolding runs_from
  runs-end at front h zero = refl
  runs-end at front h (suc n) = when_true _ _ _ (le-leb _ _ h)

  runs-turn : (at : ℕ) (front : List ℕ) → at < end → (n : ℕ)
      → runs_from run next (length l) end (suc n) at front ≡ and_then (length l) at front (run at) (λ more. runs_from run next (length l) end n (next at) more)
  unfolding runs_from
  runs-turn at front h n = when_false _ _ _ (lt-leb _ _ h)

  going_start : (at n : ℕ) → end ≤ at + n → w ≡ runs_from run next (length l) end n at [] → Going run next end w l at 0 l
  going_start at n h e =
      record { turns = n; enough = h; few = omega arith; long = refl; holds = put-none l 0; whole = e }

  module _ (at count : ℕ) (m : List ℕ) (g : Going run next end w l at count m) where
    pub going_end : end ≤ at → record { told = Ok count; bytes = m } ≡ onto l w
    going_end h = sym (rw (g.whole ∙ runs-end at (take count m) h g.turns, length-take-le count m g.few, sym g.holds))

    module _ (h : at < end) (x : Result Run Fault) (stands : x ≡ run at) (r : Result ℕ Stop) (m2 : List ℕ)
        (is : record { told = r; bytes = m2 } ≡ onto m (and_then (length m) at (take count m) x all)) where
      abbrev rest : List ℕ → Given
      rest = λ more. runs_from run next (length l) end (g.turns - 1) (next at) more

      turn : w ≡ and_then (length l) at (take count m) x rest
      turn =
          let e : g.turns ≡ suc (g.turns - 1) = omega (arith, g.enough) in
          g.whole
          ∙ ap (λ (k : ℕ). runs_from run next (length l) end k at (take count m)) e
          ∙ runs-turn at (take count m) h (g.turns - 1)
          ∙ ap (λ (y : Result Run Fault). and_then (length l) at (take count m) y rest) (sym stands)

      here : (y : Given) → and_then (length l) at (take count m) x all ≡ y → record { told = r; bytes = m2 } ≡ onto m y
      here y e = is ∙ rw (g.long, e)

      pub going-stop : (why : Stop) → r ≡ Err why → (t : Result ℕ Stop) → t ≡ Err why → record { told = t; bytes = m2 } ≡ onto l w
      going-stop why e t f =
          ap (λ (y : Result ℕ Stop). record { told = y; bytes = m2 }) (f ∙ sym e)
          ∙ and_cases (length l) at (take count m) rest (record { told = r; bytes = m2 } ≡ onto l w) x
          (λ v p a b. here _ a ∙ ap (λ (y : List ℕ). record { told = stop v p; bytes = y }) (sym (put_front m count g.few) ∙ g.holds) ∙ ap (onto l) (sym (turn ∙ b)))
          (λ more k a b. let d : r ≡ Ok (length (take count m ++ more)) = ap (λ (y : Filled). y.told) (here _ a) in absurd (cc))

      grown : (more : List ℕ) → put m 0 (take count m ++ more) ≡ put l 0 (take count m ++ more)
      grown more =
          sym (put-append m 0 (take count m) more)
          ∙ ap (λ (y : List ℕ). put y (0 + length (take count m)) more) (sym (put_front m count g.few) ∙ g.holds)
          ∙ put-append l 0 (take count m) more

      pub going_on : (n : ℕ) → r ≡ Ok n → (behind : ℕ) → behind ≡ next at → at < behind → Going run next end w l behind n m2
      going_on n e behind there k =
          and_cases (length l) at (take count m) rest (Going run next end w l behind n m2) x
          (λ v p a b. let d : r ≡ stop v p = ap (λ (y : Filled). y.told) (here _ a) in absurd (cc))
          (λ more room a b.
          let d : r ≡ Ok (length (take count m ++ more)) = ap (λ (y : Filled). y.told) (here _ a) in
          let many : length (take count m ++ more) ≡ n = cc in
          let now : m2 ≡ put m 0 (take count m ++ more) = ap (λ (y : Filled). y.bytes) (here _ a) in
          let same : length m2 ≡ length m = ap length now ∙ put-length m 0 (take count m ++ more) in
          let fits : n ≤ length m = omega (arith, length-append (take count m) more, length-take-le count m g.few, g.long, g.few) in
          let written : take n m2 ≡ take count m ++ more = rw now (take_put m (take count m ++ more) n many fits) in
          record {
            turns = g.turns - 1;
            enough = omega (arith, g.enough);
            few = omega arith;
            long = same ∙ g.long;
            holds = now ∙ grown more ∙ ap (put l 0) (sym written);
            whole = turn ∙ b ∙ rw (written, there);
          })

-- the bytes of a text

abbrev pub byte_run : List ℕ → ℕ → Result Run Fault
byte_run s at = run_of (between s at (byte_end s at))

abbrev pub byte_next : List ℕ → ℕ → ℕ
byte_next s at = byte_start s (byte_end s at)

pub bytes-start : (s : List ℕ) (from : ℕ) (l : List ℕ) (at : ℕ) → at ≡ byte_start s from → Going (byte_run s) (byte_next s) (length s) (given (length l) s from) l at 0 l
unfolding given
bytes-start s from l at e = going_start (byte_run s) (byte_next s) (length s) _ l at (length s) (omega arith) (rw e)

module _ (s : List ℕ) (at to : ℕ) (ends : to ≡ byte_end s at) where
  pub byte-run : run_of (between s at to) ≡ byte_run s at
  byte-run = rw ends

  pub byte_next_lem : (next : ℕ) → next ≡ byte_start s to → next ≡ byte_next s at
  byte_next_lem next e = rw ends at e

-- the text of a line

pub text-start : (s : List ℕ) (from : ℕ) (l : List ℕ) → Going (letter_of s) (letter_end s) (length s + 1) (written (length l) s from) l from 0 l
unfolding written
text-start s from l = going_start (letter_of s) (letter_end s) (length s + 1) _ l from (length s + 1) (omega arith) refl

-- ---- the count is within the room, and a fault within the text

abbrev pub Fits : ℕ → ℕ → Result ℕ Stop → Type 0
Fits room n (Ok k) = k ≤ room
Fits room n (Err s) = s.at ≤ n

and-fits : (room n at : ℕ) (front : List ℕ) (next : List ℕ → Given) → at ≤ n → length front ≤ room
    → ((more : List ℕ) → length more ≤ room → Fits room n (next more).told) → (x : Result Run Fault) → Fits room n (and_then room at front x next).told
unfolding and_then
and-fits room n at front next h k f (Err why) = h
and-fits room n at front next h k f (Ok run) =
    on (λ (g : Given). Fits room n g.told) (ltb (room - length front) run.times) (λ _. h)
    (λ t. f (front ++ replicate run.times run.byte) (omega (arith, ltb-false (room - length front) run.times t, length-append front (replicate run.times run.byte), length-replicate run.times run.byte)))

runs_fit : (run : ℕ → Result Run Fault) (next : ℕ → ℕ) (room end last n at : ℕ) (front : List ℕ) → end ≤ suc last → length front ≤ room
    → Fits room last (runs_from run next room end n at front).told
unfolding runs_from
runs_fit run next room end last zero at front e k = k
runs_fit run next room end last (suc n) at front e k =
    on (λ (g : Given). Fits room last g.told) (leb end at) (λ _. k)
    (λ t. and-fits room last at front _ (omega (arith, leb-false end at t)) k (λ more j. runs_fit run next room end last n _ more e j) _)

pub given-fits : (room : ℕ) (s : List ℕ) (i : ℕ) → Fits room (length s) (given room s i).told
unfolding given
given-fits room s i = runs_fit _ _ room (length s) (length s) (length s) (byte_start s i) [] (omega arith) (omega arith)

pub written-fits : (room : ℕ) (s : List ℕ) (i : ℕ) → Fits room (length s) (written room s i).told
unfolding written
written-fits room s i = runs_fit _ _ room (length s + 1) (length s) (length s + 1) i [] (omega arith) (omega arith)
