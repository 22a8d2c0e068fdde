-- One turn of replay, and each way out of it. Assumes nothing.
use Prim.Native.Nat.{ℕ, suc, ◌+◌, ◌-◌, ◌<◌, ◌≤◌}
use native.Mathlib.Omega.{arith}
use mathlib.Core.Path.{◌≡◌, refl, sym, ap, ◌∙◌}
use mathlib.Core.Logic.{◌≢◌}
use mathlib.Core.Bool.{true, false}
use mathlib.Core.List.{List}
use lib.ListN.{length, drop, length-drop}
use lib.Seq.{drop-drop}
use Rattle.rules.specs.Tables.{Tables, Rest, lent, searching, head_size, search_size}
use Rattle.rules.specs.Roster.{ranges, sorted}
use Rattle.rules.specs.Sound.{sound}
use Rattle.rules.proofs.Soundness.{sound-true}
use Rattle.acts.proofs.Supply.{search-long}
use Rattle.rules.specs.Log.{LINE-FEED, first_of, before, Line, Other, Entry, line_of}
use Rattle.rules.specs.Replay.{Turn, turn_on, turn, Replayed, stopped, ahead, turns, replay}
use Rattle.rules.proofs.Ladder.{yes, no, on, never}
use Rattle.rules.proofs.Replaying.{applied-is, turn-sound, turn-ranges, turns-ten, turns-on, turns-end, ahead_none, ahead-ahead, ahead-stopped}
use Rattle.tables.specs.declared.Range.{Range}
use Rattle.tables.specs.Ranges.{Runs}
use Rattle.log_steps.specs.Recorded.{Given}
use Rattle.std.specs.Prelude.{Option, Some, None}
use Rattle.tables.specs.declared.Fixed.{Fixed}
use Rattle.tables.specs.Lent.{rest_of}
use Rattle.log_call.specs.Turned.{Kept, turned, Taken}
use Rattle.replay.specs.declared.Replayed.{Replayed as Told}
use Rattle.replay.specs.Ended.{ended}

-- a line that is not applied leaves the tables as they were
turn-left : (t : Tables) (e : ℕ) (s : List ℕ) → (turn t e s).applied ≡ false → (turn t e s).tables ≡ t
unfolding turn turn_on
turn-left t e s = on Left _ (λ _ _. refl) (λ _. on Left _ (λ _ _. refl) (λ _. by-line (line_of (before LINE-FEED s))))
  where
    Left : Turn → Type 0
    Left x = x.applied ≡ false → x.tables ≡ t

    by-line : (l : Line) → Left (turn_on t e l)
    by-line Other = λ z. refl
    by-line (Entry k c) = on Left _ (λ _ z. absurd (never (sym z))) (λ _ _. refl)

-- what is told, with the tables
pub told-ends : (r : Told) (n l p e : ℕ) (t : Tables) (z : Replayed) → r ≡ record { number = n; lines = l; place = p; expected = e }
    → record { number = n; lines = l; place = p; expected = e; tables = t } ≡ z → ended r t ≡ z
told-ends r n l p e t z i j = ap (λ (x : Told). ended x t) i ∙ j

-- ---- what is left to do

-- a line that was applied lies in the log, and its number is one of a line
pub record Went (log : List ℕ) (place next n : ℕ) : Type 0 where
  pub inside : place + n ≤ length log
  pub low : next ≤ 999999999

module _ (t₀ : Tables) (log : List ℕ) (e₀ budget : ℕ) where
  -- so many lines are done, which take so many bytes
  abbrev pub Stands : Tables → ℕ → ℕ → ℕ → Type 0
  Stands t lines place next = turns budget t₀ log e₀ ≡ ahead lines place (turns (budget - lines) t (drop place log) next)

  pub starts : Stands t₀ 0 0 e₀
  starts = let k : budget - 0 ≡ budget = omega arith in sym (ahead_none (turns (budget - 0) t₀ (drop 0 log) e₀) ∙ rw k refl)

  module _ (t : Tables) (lines place next : ℕ) (inv : Stands t lines place next) where
    abbrev Ends : ℕ → Tables → Type 0
    Ends n u = record { number = n; lines = lines; place = place; expected = next; tables = u } ≡ turns budget t₀ log e₀

    pub all_done : budget ≡ lines → record { number = 0; lines = budget; place = place; expected = next; tables = t } ≡ turns budget t₀ log e₀
    all_done h =
        let k : budget - lines ≡ 0 = omega arith in
        let e : turns budget t₀ log e₀ ≡ record { number = 0; lines = lines; place = place; expected = next; tables = t }
        = inv ∙ rw k (unfold turns in ahead-stopped lines place 0 next t) in
        ap (λ (n : ℕ). record { number = 0; lines = n; place = place; expected = next; tables = t }) h ∙ sym e

    module _ (more : lines < budget) where
      one_more : budget - lines ≡ suc (budget - (lines + 1))
      one_more = omega arith

      pub log-ends : place ≡ length log → Ends 0 t
      log-ends h =
          let l : length (drop place log) ≡ 0 = length-drop place log ∙ omega arith in
          let g : turns (budget - lines) t (drop place log) next ≡ stopped 0 next t = turns-end _ t _ next l in
          sym (inv ∙ rw g (ahead-stopped lines place 0 next t))

      module _ (within : place ≤ length log) (some : place ≡ length log → ⊥) (text : List ℕ) (te : text ≡ drop place log)
          (r : Option ℕ) (u : Tables) (ue : turned r u ≡ turn t next text) where
        left : length (drop place log) ≢ 0
        left h = some (omega (arith, length-drop place log))

        here : turned r u ≡ turn t next (drop place log)
        here = rw te at ue

        pub ten : r ≡ None → Ends 10 u
        ten i =
            let y : record { applied = false; tables = u } ≡ turn t next (drop place log) = rw i at here in
            let z : (turn t next (drop place log)).applied ≡ false = sym (ap (λ (x : Turn). x.applied) y) in
            let v : u ≡ t = ap (λ (x : Turn). x.tables) y ∙ turn-left t next (drop place log) z in
            let g : turns (budget - lines) t (drop place log) next ≡ stopped 10 next u = rw (one_more, v) (turns-ten _ t _ next left z) in
            sym (inv ∙ rw g (ahead-stopped lines place 10 next u))

        module _ (n : ℕ) (i : r ≡ Some n) (takes : Taken r text) where
          applied : record { applied = true; tables = u } ≡ turn t next (drop place log)
          applied = rw i at here

          is-applied : (turn t next (drop place log)).applied ≡ true
          is-applied = sym (ap (λ (x : Turn). x.applied) applied)

          takes-here : (n ≡ first_of LINE-FEED (drop place log) + 1) × (n ≤ length (drop place log))
          takes-here = rw (te, i) at takes

          pub went : Went log place next n
          went =
              record {
                inside = omega (arith, takes-here.1, length-drop place log);
                low = (applied-is t next (drop place log) is-applied).low;
              }

          pub onward : Stands u (lines + 1) (place + n) (next + 1)
          onward =
              let f = takes-here.0 in
              let v : (turn t next (drop place log)).tables ≡ u = sym (ap (λ (x : Turn). x.tables) applied) in
              let g : turns (budget - lines) t (drop place log) next ≡ ahead 1 n (turns (budget - (lines + 1)) u (drop (place + n) log) (next + 1))
              = rw one_more (turns-on _ t _ next left is-applied ∙ rw (← f, v, drop-drop n place log) refl) in
              inv ∙ ap (ahead lines place) g ∙ sym (ahead-ahead lines 1 place n _)

-- ---- "checked once": a line leaves sound tables sound, and the ranges as they are

module _ (t u : Tables) (e : ℕ) (s : List ℕ) (r : Option ℕ) (i : turned r u ≡ turn t e s) where
  left_is : u ≡ (turn t e s).tables
  left_is = of r ∙ ap (λ (x : Turn). x.tables) i
    where
      of : (q : Option ℕ) → u ≡ (turned q u).tables
      of None = refl
      of (Some n) = refl

  pub still-sound : sound t ≡ true → sound u ≡ true
  still-sound k = rw left_is (turn-sound t e s k)

  pub still-runs : (runs : List Range) → Runs runs t.head → Runs runs u.head
  still-runs runs k = k ∙ ap sorted (sym (ap (λ (x : Tables). ranges x.head) left_is ∙ turn-ranges t e s))

-- ---- the loop

-- of every rest that has what a line reads, and with which the tables were sound
abbrev pub Every : (head₀ elements₀ : List ℕ) (fixed : Fixed) (search₀ : List ℕ) → (Rest → Type 0) → Type 0
Every head₀ elements₀ fixed search₀ P = (rest : Rest) → Given rest fixed → sound (lent head₀ elements₀ (searching rest search₀)) ≡ true → P rest

pub record Going (head₀ elements₀ : List ℕ) (fixed : Fixed) (search₀ log : List ℕ) (expected budget : ℕ) (runs : List Range) (head elements search : List ℕ) (lines place next : ℕ) : Type 0 where
  pub runs-are : Runs runs head
  pub sound-still : Every head₀ elements₀ fixed search₀ (λ rest. sound (lent head elements (searching rest search)) ≡ true)
  pub inside : place ≤ length log
  pub stands : Every head₀ elements₀ fixed search₀
      (λ rest. Stands (lent head₀ elements₀ (searching rest search₀)) log expected budget (lent head elements (searching rest search)) lines place next)

-- what was kept until a line that was then applied
module _ (head₀ elements₀ : List ℕ) (fixed : Fixed) (search₀ log : List ℕ) (expected budget : ℕ) (runs : List Range) (head elements search : List ℕ) (lines place next : ℕ)
    (g : Going head₀ elements₀ fixed search₀ log expected budget runs head elements search lines place next)
    (k : Kept runs head₀ elements₀ fixed search₀) (more : lines < budget) (some : place ≡ length log → ⊥) where
  pub kept-on : Kept runs head elements fixed search
  kept-on = record { rest = k.rest; given = k.given; sound-now = g.sound-still k.rest k.given k.sound-now; runs-are = g.runs-are }

  module _ (text : List ℕ) (te : text ≡ drop place log) (r : Option ℕ) (head' elements' search' : List ℕ)
      (after : (rest : Rest) → Given rest fixed → sound (lent head elements (searching rest search)) ≡ true
      → turned r (lent head' elements' (searching rest search')) ≡ turn (lent head elements (searching rest search)) next text)
      (n : ℕ) (i : r ≡ Some n) (takes : Taken r text) where
    pub went_on : Went log place next n
    went_on =
        went (lent head₀ elements₀ (searching k.rest search₀)) log expected budget (lent head elements (searching k.rest search)) lines place next
        (g.stands k.rest k.given k.sound-now) more g.inside some text te r (lent head' elements' (searching k.rest search'))
        (after k.rest k.given (g.sound-still k.rest k.given k.sound-now)) n i takes

    pub goes_on : Going head₀ elements₀ fixed search₀ log expected budget runs head' elements' search' (lines + 1) (place + n) (next + 1)
    goes_on =
        record {
          runs-are = still-runs (lent head elements (searching k.rest search)) (lent head' elements' (searching k.rest search')) next text r (after k.rest k.given (g.sound-still k.rest k.given k.sound-now)) runs g.runs-are;
          sound-still = λ rest h s. still-sound (lent head elements (searching rest search)) (lent head' elements' (searching rest search')) next text r (after rest h (g.sound-still rest h s)) (g.sound-still rest h s);
          inside = omega (arith, went_on.inside);
          stands = λ rest h s. onward (lent head₀ elements₀ (searching rest search₀)) log expected budget (lent head elements (searching rest search)) lines place next (g.stands rest h s) more g.inside some text te r (lent head' elements' (searching rest search')) (after rest h (g.sound-still rest h s)) n i takes;
        }

-- ---- the whole

module _ (head elements : List ℕ) (fixed : Fixed) (search : List ℕ) (s : sound (lent head elements (rest_of fixed search)) ≡ true) where
  -- what the first line finds
  pub first-kept : (runs : List Range) → Runs runs head → Kept runs head elements fixed search
  first-kept runs is =
      record { rest = rest_of fixed search; given = record { tags-is = refl; generations-is = refl; masks-is = refl }; sound-now = s; runs-are = is }

  -- "sound": the head and the search are whole
  pub head-whole : length head ≡ head_size
  head-whole = (sound-true (lent head elements (rest_of fixed search)) s).head-fits.length-is

  pub search-whole : length search ≡ search_size
  search-whole = search-long head elements (rest_of fixed search) s

module _ (t : Tables) (log : List ℕ) (e budget : ℕ) where
  pub unsound : sound t ≡ false → stopped 1 e t ≡ replay t log e budget
  unfolding replay
  unsound f = no _ _ _ _ _ refl f refl

  pub replayed : sound t ≡ true → (r : Replayed) → r ≡ turns budget t log e → r ≡ replay t log e budget
  unfolding replay
  replayed f r j = yes _ _ _ _ _ refl f j

-- what the lines come to, from a head and a search that are those which were checked
module _ (head elements : List ℕ) (fixed : Fixed) (search : List ℕ) (s : sound (lent head elements (rest_of fixed search)) ≡ true)
    (head' search' : List ℕ) (same : head' ≡ head) (also : search' ≡ search) where
  pub kept-whole : (runs : List Range) → Runs runs head → Kept runs head' elements fixed search'
  kept-whole runs is = rw (same, also) (first-kept head elements fixed search s runs is)

  pub ends_whole : (r : Told) (h e x log : List ℕ) (expected budget : ℕ)
      → ((rest : Rest) → Given rest fixed → sound (lent head' elements (searching rest search')) ≡ true → ended r (lent h e (searching rest x)) ≡ turns budget (lent head' elements (searching rest search')) log expected)
      → ended r (lent h e (rest_of fixed x)) ≡ replay (lent head elements (rest_of fixed search)) log expected budget
  ends_whole r h e x log expected budget after =
      let given : Given (rest_of fixed search) fixed = record { tags-is = refl; generations-is = refl; masks-is = refl } in
      let still : sound (lent head' elements (rest_of fixed search')) ≡ true = rw (same, also) s in
      let told : ended r (lent h e (rest_of fixed x)) ≡ turns budget (lent head' elements (rest_of fixed search')) log expected = after (rest_of fixed search) given still in
      replayed (lent head elements (rest_of fixed search)) log expected budget s _ (rw (same, also) at told)
