-- No call writes the labels, the generations or the masks, and none the ranges; so what stands in a drive is what it takes by the tables that were lent at the
-- start. Assumes nothing.
use Prim.Native.Nat.{ℕ, ◌+◌, ◌-◌, ◌<◌}
use native.Mathlib.Omega.{arith}
use mathlib.Core.Path.{◌≡◌, refl, ap, ◌∙◌}
use mathlib.Core.Logic.{◌≢◌}
use mathlib.Core.Bool.{true}
use mathlib.Core.List.{List, [], ◌∷◌}
use lib.ListN.{get_or}
use Rattle.rules.specs.Bytes.{byte}
use Rattle.rules.specs.Tables.{Tables, Change, OfHead, OfElements, OfSearch, Recount, change, changes}
use Rattle.rules.specs.Roster.{Range, range, ranges}
use Rattle.rules.specs.Fitting.{generation, accepts, mask_of, drive_takes}
use Rattle.rules.specs.Sound.{sound}
use Rattle.rules.specs.Order.{Verdict, Number, Prevented, Done, Outcome, after, volume_of}
use Rattle.rules.specs.Command.{Call, verdict, serve}
use Rattle.rules.specs.Histories.{next, History, begun, called, AsGiven}
use Rattle.rules.proofs.Soundness.{sound-true}
use Rattle.rules.proofs.KeepDrives.{suited-true}
use Rattle.rules.proofs.Ranged.{next-ranges}
use Rattle.rules.proofs.Sequences.{leaves-next, history-sound}

given-refl : (t : Tables) → AsGiven t t
given-refl t = record { tags-are = refl; blank-is = refl; generations-are = refl; masks-are = refl }

given-trans : {t u w : Tables} → AsGiven t u → AsGiven u w → AsGiven t w
given-trans a b =
    record {
      tags-are = b.tags-are ∙ a.tags-are;
      blank-is = b.blank-is ∙ a.blank-is;
      generations-are = b.generations-are ∙ a.generations-are;
      masks-are = b.masks-are ∙ a.masks-are;
    }

change-given : (c : Change) (t : Tables) → AsGiven t (change c t)
unfolding change
change-given (OfHead c) t = record { tags-are = refl; blank-is = refl; generations-are = refl; masks-are = refl }
change-given (OfElements c) t = record { tags-are = refl; blank-is = refl; generations-are = refl; masks-are = refl }
change-given (OfSearch c) t = record { tags-are = refl; blank-is = refl; generations-are = refl; masks-are = refl }
change-given Recount t = record { tags-are = refl; blank-is = refl; generations-are = refl; masks-are = refl }

changes-given : (cs : List Change) (t : Tables) → AsGiven t (changes cs t)
unfolding changes
changes-given [] t = given-refl t
changes-given (c ∷ cs) t = given-trans (change-given c t) (changes-given cs (change c t))

after-given : (t : Tables) (v : Verdict) → AsGiven t (after v t)
unfolding after
after-given t (Number n) = given-refl t
after-given t (Prevented n h) = given-refl t
after-given t (Done status bytes cs) = changes-given cs t

-- what one call leaves is what its outcome has
next-given : (t : Tables) (c : Call) (o : Outcome) → o ≡ serve t c → AsGiven t o.tables
unfolding next
next-given t c o e = rw (e, leaves-next t c) (after-given t (verdict t c))

pub history-given : {t u : Tables} {cs : List Call} {os : List Outcome} → History t cs os u → AsGiven t u
history-given begun = given-refl _
history-given (called {t = t} {c = c} {o = o} e hs) = given-trans (next-given t c o e) (history-given hs)

-- ---- the drives

history-ranges : {t u : Tables} {cs : List Call} {os : List Outcome} → History t cs os u → ranges u.head ≡ ranges t.head
history-ranges begun = refl
history-ranges (called {t = t} {c = c} {o = o} e hs) = history-ranges hs ∙ rw (e, leaves-next t c) (next-ranges t c)

drives-of-ranges : (head head' : List ℕ) → ranges head' ≡ ranges head → range head' 3 ≡ range head 3
unfolding ranges
drives-of-ranges head head' e = ap (λ (rs : List Range). get_or rs 3 (range head 0)) e

pub history-drives : {t u : Tables} {cs : List Call} {os : List Outcome} → History t cs os u → sound t ≡ true
    → (k : ℕ) → k < (range t.head 3).count → volume_of u ((range t.head 3).first + k) ≢ 0
    → accepts (byte t.rest.masks k) (byte t.rest.generations (volume_of u ((range t.head 3).first + k) - 1)) ≡ true
unfolding drive_takes mask_of generation volume_of
history-drives {t} {u} hs s k h n =
    let d = drives-of-ranges t.head u.head (history-ranges hs) in
    let g = history-given hs in
    let fit = (sound-true u (history-sound hs s)).drives-fit in
    let here : (range t.head 3).first + k - (range t.head 3).first ≡ k = omega arith in
    let x = rw d at (suited-true u ((range t.head 3).first + k) (rw d at (fit.each-suited k (rw d h))) n) in
    rw here at (rw (g.masks-are, g.generations-are) at x)
