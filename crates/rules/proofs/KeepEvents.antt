-- Each of the three events leaves sound tables sound. Assumes nothing.
use Prim.Native.Nat.{ℕ, zero, suc, ◌+◌, ◌≤◌}
use native.Mathlib.Omega.{arith}
use mathlib.Core.Path.{◌≡◌, refl, ◌∙◌}
use mathlib.Core.Logic.{◌≢◌}
use mathlib.Core.Bool.{false}
use mathlib.Core.List.{List, [], ◌∷◌}
use lib.Dec.{eqb}
use borrow.Author.Tests.{eqb-false, ltb-false}
use Rattle.rules.specs.Tables.{Tables, hosts, places, volumes, volume, Sense, Attention, Announce, HoldUnit, Prevent, Fill, Free, Anyone, changes, Seek, in_search, change}
use Rattle.rules.specs.Roster.{Slot, roster, place_of, kind_of, port}
use Rattle.rules.specs.Sound.{sound}
use Rattle.rules.specs.Order.{Verdict}
use Rattle.rules.specs.Search.{no_search}
use Rattle.rules.specs.Events.{no_port, at_port, present, wrong_volume, done, importing, exporting, restarted_from, resetting}
use Rattle.rules.proofs.Ladder.{on, any-first, any-rest, any-nowhere, differ-false}
use Rattle.rules.proofs.Places.{place_in, kind-in}
use Rattle.rules.proofs.Soundness.{StockFits, Sound, places_is}
use Rattle.rules.proofs.KeepElements.{empty-fits}
use Rattle.rules.proofs.KeepSearch.{search-cleared}
use Rattle.rules.proofs.Keep.{Fit, change-sound, Sounds}
use Rattle.rules.proofs.KeepCommands.{no-sense}

at_port-sound : (t : Tables) (a : ℕ) (v : Verdict) → (kind_of (roster t.head) a ≡ port → Sounds t v) → Sounds t (at_port t a v)
unfolding at_port no_port
at_port-sound t a v x =
    on (Sounds t) (sound t) (λ _. on (Sounds t) _ (λ _. tt) (λ e. on (Sounds t) _ (λ _. tt) (λ _. x (differ-false _ _ e)))) (λ _. tt)

imported-fits : (top : ℕ) (ss : List Slot) (kind v : ℕ) → kind ≡ port → v ≢ 0 → v ≤ top → StockFits top ss kind v 0 1
imported-fits top ss kind v k n l =
    record {
      small = l;
      transport-empty = λ e. absurd (omega arith);
      source-full = λ z. absurd (z refl);
      source-shelf = λ z. absurd (z refl);
      mark-one = λ _. refl;
      mark-port = λ _. k;
      mark-full = λ _. n;
    }

module _ (t : Tables) (s : Sound t) where
  announced-sound : (p v m : ℕ) → Fit t (Fill p v 0 m) → Sounds t (done (Fill p v 0 m ∷ Announce 0x28 0x01 ∷ []))
  unfolding done changes
  announced-sound p v m f = change-sound (Announce 0x28 0x01) _ (omega arith) (change-sound (Fill p v 0 m) t f s)

  pub importing-sound : (a v : ℕ) → Sounds t (importing t a v)
  unfolding importing
  importing-sound a v =
      at_port-sound t a _
      (λ k. on (Sounds t) _ (λ _. tt) (λ _. on (Sounds t) _ (λ _. tt) (λ e. announced-sound _ v 1 (fit k e))))
    where
      fit : kind_of (roster t.head) a ≡ port → wrong_volume t v ≡ false → Fit t (Fill (place_of (roster t.head) a) v 0 1)
      fit k e =
          unfold wrong_volume present in
          let e₁ = any-rest _ _ e in
          let known : kind_of (roster t.head) a ≢ 0 = omega arith in
          let kind = kind-in (roster t.head) a known ∙ k in
          let absent = any-nowhere (λ p. eqb (volume t.elements p) v) (places t.elements) 0 (any-first _ _ (any-rest _ _ e₁)) in (
            place_in (roster t.head) a known,
            kind,
            imported-fits (volumes t.rest.tags) (roster t.head) _ v kind (eqb-false v 0 (any-first _ _ e)) (ltb-false _ _ (any-first _ _ e₁)),
            λ _ q i _. eqb-false _ _ (absent q (omega arith) (omega (arith, places_is t s))),
          )

  pub exporting-sound : (a : ℕ) → Sounds t (exporting t a)
  unfolding exporting
  exporting-sound a =
      at_port-sound t a _
      (λ k. on (Sounds t) _ (λ _. tt)
      (λ _.
      announced-sound _ 0 0
      (place_in (roster t.head) a (omega arith), kind-in (roster t.head) a (omega arith) ∙ k, empty-fits _ _ _, λ n. absurd (n refl))))

restarted-sound : (n h : ℕ) (t : Tables) → 1 ≤ h → h + n ≤ hosts + 1 → Sound t → Sound (changes (restarted_from n h) t)
unfolding restarted_from changes
restarted-sound zero h t l m s = s
restarted-sound (suc n) h t l m s =
    restarted-sound n (suc h) _ (omega arith) (omega arith)
    (change-sound (Attention h 0x29 0x00) _ (l, omega arith, omega arith) (change-sound (Sense h 0 0 0) t (l, omega arith, no-sense) s))

forgetting : (t : Tables) → Sound t → Sound (change (Seek no_search) t)
unfolding in_search
forgetting t s = change-sound (Seek no_search) t (search-cleared t.rest.search s.rest-fits.search-fits) s

pub resetting-sound : (t : Tables) → Sound t → Sounds t (resetting t)
unfolding resetting done changes
resetting-sound t s =
    on (Sounds t) (sound t)
    (λ _.
    restarted-sound hosts 1 _ (omega arith) (omega arith)
    (change-sound (Prevent 0) _ tt (forgetting _ (change-sound (Free Anyone) _ tt (change-sound (HoldUnit 0) t (omega arith, λ p i n. absurd (n refl)) s)))))
    (λ _. tt)
