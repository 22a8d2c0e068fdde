-- What is answered with GOOD was carried out: a command that ends with number 0 and GOOD has passed steps 1 to 4, and ends as `act` says. Assumes nothing.
use Prim.Native.Nat.{ℕ}
use native.Mathlib.Omega.{arith}
use mathlib.Core.Path.{◌≡◌, refl, ap, subst, ◌∙◌}
use mathlib.Core.Bool.{true}
use mathlib.Core.List.{List, [], ◌∷◌}
use lib.ListN.{length}
use lib.Dec.{leb}
use borrow.Author.Tests.{eqb-true}
use Rattle.rules.specs.Choice.{when}
use Rattle.rules.specs.Bytes.{byte, triple}
use Rattle.rules.specs.Tables.{Tables, hosts, Sense}
use Rattle.rules.specs.Operation.{Operation, ReadElementStatus, RequestVolumeElementAddress, READ-ELEMENT-STATUS, REQUEST-VOLUME-ELEMENT-ADDRESS, decoded, operation}
use Rattle.rules.specs.Sound.{sound, within}
use Rattle.rules.specs.Order.{Verdict, Number, Prevented, Done, GOOD, check, conflict, outcome, fits}
use Rattle.rules.specs.Listing.{with_tags, chosen_by, listing, read_status}
use Rattle.rules.specs.Search.{request_address}
use Rattle.rules.specs.Form.{fault}
use Rattle.rules.specs.Command.{Request, Command, act, steps_of, steps, after_numbers, judged, judge, verdict, buffer_of, serve}
use Rattle.rules.proofs.Ladder.{on}
use Rattle.rules.proofs.Walks.{telling, Refusals, refused-by, steps-shown-by}

-- number 0 and GOOD
abbrev pub Good : Verdict → Type 0
Good (Number n) = n ≡ 0
Good (Prevented n h) = ⊥
Good (Done status bytes cs) = status ≡ GOOD

-- what a GOOD answer shows of a command: step 4 found no fault, and the verdict is that of what follows it
pub record Acted (op : Operation) (t : Tables) (r : Request) (v : Verdict) : Type 0 where
  pub no-fault : fault op t.head r.block r.parameters ≡ 0
  pub acts : v ≡ act op t r.host r.block r.parameters

abbrev IfGood : Operation → Tables → Request → Verdict → Type 0
IfGood op t r v = Good v → Acted op t r v

module _ (op : Operation) (t : Tables) (r : Request) where
  refusals : Refusals (IfGood op t r) t r.host
  unfolding conflict telling
  refusals =
      record {
        refuses = refused-by (IfGood op t r) r.host (λ a q. unfold check in λ e. absurd (omega (arith, e)));
        conflicts = λ e. absurd (omega (arith, e));
        tells = λ e. absurd (omega (arith, e));
      }

  good-steps : IfGood op t r (steps_of op t r.host r.block r.parameters)
  good-steps =
      steps-shown-by (IfGood op t r) t r.host refusals op r.block r.parameters
      λ _ e _. record { no-fault = eqb-true _ _ e; acts = refl }

-- house number 5 is no GOOD answer, and what fits is as it was
good-fits : (buffer : List ℕ) (v : Verdict) → Good (fits buffer v) → fits buffer v ≡ v
unfolding fits
good-fits buffer (Number n) g = refl
good-fits buffer (Prevented n h) g = refl
good-fits buffer (Done s bytes cs) g =
    on (λ (v : Verdict). Good v → v ≡ Done s bytes cs) (leb (length bytes) (length buffer)) (λ _ _. refl) (λ _ e. absurd (omega (arith, e))) g

good-verdict : (t : Tables) (r : Request) → IfGood (operation r.block) t r (verdict t (Command r))
unfolding verdict judge judged after_numbers steps
good-verdict t r =
    let op = operation r.block in
    let F : Verdict → Type 0 = IfGood op t r in
    on F _
    (λ _. on F _
    (λ _. on F _
    (λ _. on F _
    (λ _ g.
    let v = steps_of op t r.host r.block r.parameters in
    let e = good-fits r.buffer v g in
    let a = good-steps op t r (subst Good e g) in
    record { no-fault = a.no-fault; acts = e ∙ a.acts })
    (λ _ e. absurd (omega (arith, e))))
    (λ _ e. absurd (omega (arith, e))))
    (λ _ e. absurd (omega (arith, e))))
    (λ _ e. absurd (omega (arith, e)))

good-outcome : (t : Tables) (buffer : List ℕ) (v : Verdict) → (outcome t buffer v).number ≡ 0 → (outcome t buffer v).status ≡ GOOD → Good v
unfolding outcome
good-outcome t buffer (Number n) e g = e
good-outcome t buffer (Prevented n h) e g = omega (arith, e)
good-outcome t buffer (Done s bytes cs) e g = g

pub good-acts : (t : Tables) (r : Request) → (serve t (Command r)).number ≡ 0 → (serve t (Command r)).status ≡ GOOD
    → Acted (operation r.block) t r (verdict t (Command r))
unfolding serve
good-acts t r e g = good-verdict t r (good-outcome t _ _ e g)

-- of a command whose operation is known: its outcome is that of what is carried out
pub good-serves : (op : Operation) (t : Tables) (r : Request) → operation r.block ≡ op → (serve t (Command r)).number ≡ 0 → (serve t (Command r)).status ≡ GOOD
    → serve t (Command r) ≡ outcome t r.buffer (act op t r.host r.block r.parameters)
unfolding serve buffer_of
good-serves op t r o e g =
    ap (outcome t r.buffer) ((good-acts t r e g).acts ∙ ap (λ (x : Operation). act x t r.host r.block r.parameters) o)

-- a call with number 0 is one of hosts 1 to 8, on sound tables
abbrev Known : Tables → Request → Verdict → Type 0
Known t r v = (outcome t r.buffer v).number ≡ 0 → (within 1 hosts r.host ≡ true) × (sound t ≡ true)

pub good-known : (t : Tables) (r : Request) → (serve t (Command r)).number ≡ 0 → (within 1 hosts r.host ≡ true) × (sound t ≡ true)
unfolding serve buffer_of verdict judge judged after_numbers
good-known t r =
    let K : Verdict → Type 0 = Known t r in
    on K (sound t)
    (λ s. on K (within 1 hosts r.host) (λ w _. (w, s)) (λ _. unfold outcome in λ e. absurd (omega (arith, e))))
    (λ _. unfold outcome in λ e. absurd (omega (arith, e)))

-- READ ELEMENT STATUS returns the listing for the block's own allocation
pub listing-serves : (t : Tables) (r : Request) → byte r.block 0 ≡ READ-ELEMENT-STATUS → (serve t (Command r)).number ≡ 0 → (serve t (Command r)).status ≡ GOOD
    → serve t (Command r)
    ≡ outcome t r.buffer (Done GOOD (listing 0 (with_tags r.block) t (triple r.block 7) (chosen_by t r.block)) (Sense r.host 0 0 0 ∷ []))
unfolding operation decoded when act read_status
listing-serves t r first e g = good-serves ReadElementStatus t r (ap decoded first) e g

-- REQUEST VOLUME ELEMENT ADDRESS ends with what it carries out
pub found-serves : (t : Tables) (r : Request) → byte r.block 0 ≡ REQUEST-VOLUME-ELEMENT-ADDRESS → (serve t (Command r)).number ≡ 0 → (serve t (Command r)).status ≡ GOOD
    → serve t (Command r) ≡ outcome t r.buffer (request_address t r.host r.block)
unfolding operation decoded when act
found-serves t r first e g = good-serves RequestVolumeElementAddress t r (ap decoded first) e g
