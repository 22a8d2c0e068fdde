-- Any sequence of calls ends where the rules, one by one, end; sound tables stay sound all along it. Assumes nothing.
use Prim.Native.Nat.{ℕ}
use mathlib.Core.Path.{◌≡◌, refl, sym, subst}
use mathlib.Core.Logic.{◌≢◌, ⊎_elim}
use mathlib.Core.Bool.{true}
use mathlib.Core.List.Memᴰ
use mathlib.Core.List.{List, [], ◌∷◌, Memᴰ}
use Rattle.rules.specs.Tables.{Tables}
use Rattle.rules.specs.Sound.{sound}
use Rattle.rules.specs.Order.{Verdict, Number, Prevented, Done, Outcome, outcome, after}
use Rattle.rules.specs.Command.{Call, verdict, buffer_of, serve}
use Rattle.rules.specs.Histories.{next, run, outcomes, History, begun, called}
use Rattle.rules.proofs.Keeps.{sound-stays}
use Rattle.rules.proofs.Numbers.{sound-number}

-- the tables that an outcome leaves are those of its verdict, and those that the next call finds
pub outcome-leaves : (t : Tables) (buffer : List ℕ) (v : Verdict) → (outcome t buffer v).tables ≡ after v t
unfolding outcome after
outcome-leaves t buffer (Number n) = refl
outcome-leaves t buffer (Prevented n h) = refl
outcome-leaves t buffer (Done status bytes cs) = refl

pub leaves-next : (t : Tables) (c : Call) → (serve t c).tables ≡ next t c
unfolding serve next
leaves-next t c = outcome-leaves t (buffer_of c) (verdict t c)

pub history-outcomes : {t u : Tables} {cs : List Call} {os : List Outcome} → History t cs os u → os ≡ outcomes t cs
unfolding outcomes
history-outcomes begun = refl
history-outcomes (called {t = t} {c = c} {o = o} e hs) = let i = history-outcomes hs in let l = leaves-next t c in cc

pub history-run : {t u : Tables} {cs : List Call} {os : List Outcome} → History t cs os u → u ≡ run t cs
unfolding run
history-run begun = refl
history-run (called {t = t} {c = c} e hs) = let i = history-run hs in let l = leaves-next t c in cc

pub next-sound : (t : Tables) (c : Call) (o : Outcome) → o ≡ serve t c → sound t ≡ true → sound o.tables ≡ true
next-sound t c o e s = rw (e, leaves-next t c) (sound-stays t c s)

pub history-sound : {t u : Tables} {cs : List Call} {os : List Outcome} → History t cs os u → sound t ≡ true → sound u ≡ true
history-sound begun s = s
history-sound (called {t = t} {c = c} e hs) s = history-sound hs (next-sound t c _ e s)

-- no call of it meets number 1
pub history-numbers : {t u : Tables} {cs : List Call} {os : List Outcome} → History t cs os u → sound t ≡ true
    → (o : Outcome) → Memᴰ o os → o.number ≢ 1
history-numbers begun s o m = absurd (Memᴰ.not-nil m)
history-numbers (called {t = t} {c = c} {o = x} e hs) s o m =
    ⊎_elim (λ (i : o ≡ x). rw (i, e) (sound-number t c s)) (λ r. history-numbers hs (next-sound t c x e s) o r) (Memᴰ.cases_cons m)

-- the rules themselves make a history of any calls
pub history-made : (t : Tables) (cs : List Call) → History t cs (outcomes t cs) (run t cs)
unfolding outcomes run
history-made t [] = begun
history-made t (c ∷ cs) =
    called refl (subst (λ (u : Tables). History u cs (outcomes (next t c) cs) (run (next t c) cs)) (sym (leaves-next t c)) (history-made (next t c) cs))
