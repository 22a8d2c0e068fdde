-- What a command of demand 3 reads: tables that are alike in that much are answered alike. Assumes nothing.
use Prim.Native.Nat.{ℕ, ◌+◌, ◌<◌, ◌≤◌}
use native.Mathlib.Omega.{arith}
use mathlib.Core.Path.{◌≡◌, refl, ap, subst, ◌∙◌}
use mathlib.Core.Bool.{Bool, true, false}
use mathlib.Core.List.{List, [], ◌∷◌, Memᴰ}
use Rattle.rules.specs.Choice.{when}
use Rattle.rules.specs.Bytes.{byte, word}
use Rattle.rules.specs.Tables.{Tables, hosts, host_at, attention_at, element_at, element_size, unit, key, asc, ascq, attention, attentionq, volume, source}
use Rattle.rules.specs.Roster.{range, roster, place_of, first_transport}
use Rattle.rules.specs.Sound.{within}
use Rattle.rules.specs.Order.{Verdict, other, held_by_other, volume_of, source_of, after_attention, after_unit, guarded}
use Rattle.rules.specs.Fitting.{mask_of, drive_takes, unfit}
use Rattle.rules.specs.Moves.{open_transport, transport_used, no_transport, no_place, leave, shelf_of, carry, move_of, move, exchange_of, exchange}
use Rattle.rules.specs.Sense.{tells_attention, request_sense}
use Rattle.rules.specs.Operation.{Operation, TestUnitReady, RequestSense, Reserve, Release, PreventAllow, MoveMedium, ExchangeMedium, ReadElementStatus, ModeSense, SendVolumeTag, RequestVolumeElementAddress, Unknown, operation}
use Rattle.rules.specs.Form.{own_fault, fault, formed}
use Rattle.rules.specs.Command.{Request, act, admitted, steps_of, steps, block_fits, after_numbers, judged}
use Rattle.rules.specs.Histories.{named, named_by, mixes, joins}
use Rattle.rules.proofs.Ladder.{never, when_true, when_false}
use Rattle.rules.proofs.Local.{OfHost}
use Rattle.rules.proofs.Soundness.{within-high}

-- the j-th byte of the record of the element at an address
abbrev pub record_byte : Tables → ℕ → ℕ → ℕ
record_byte t a j = byte t.elements (element_at (place_of (roster t.head) a) + j)

-- the number in its j-th and next byte
abbrev record_word : Tables → ℕ → ℕ → ℕ
record_word t a j = word t.elements (element_at (place_of (roster t.head) a) + j)

-- the addresses that a block's command touches: those named and, where one is, the transport used
unfoldable pub touching : Tables → ℕ → List ℕ → List ℕ → List ℕ
touching t h block [] = []
touching t h block (a ∷ more) = transport_used t h (word block 2) ∷ a ∷ more

unfoldable pub touched : Tables → ℕ → List ℕ → List ℕ
touched t h block = touching t h block (named block)

-- a block of wrong length names nothing
pub unfit-names-none : (block : List ℕ) → block_fits block ≡ false → named block ≡ []
unfolding named
unfit-names-none block e = when_false (block_fits block) (named_by (operation block) block) [] e

-- t and u are alike in all that a command of host h reads which touches T and names N: the elements there are, what no call writes, whether another
-- host holds the unit or an element touched, which transport is open to this one, the host's own bytes of the head, and the bytes of the elements named
pub record Same (h : ℕ) (T N : List ℕ) (t u : Tables) : Type 0 where
  pub roster-is : roster t.head ≡ roster u.head
  pub drives-are : range t.head 3 ≡ range u.head 3
  pub rest-is : t.rest ≡ u.rest
  pub unit-is : other h (unit t.head) ≡ other h (unit u.head)
  pub own_is : h ≤ hosts → (j : ℕ) → OfHost h j → byte t.head j ≡ byte u.head j
  pub open_is : open_transport h t.elements (roster t.head) (first_transport (roster t.head))
      ≡ open_transport h u.elements (roster u.head) (first_transport (roster u.head))
  pub held-is : (a : ℕ) → Memᴰ a T → held_by_other t h a ≡ held_by_other u h a
  pub record_is : (a : ℕ) → Memᴰ a N → (j : ℕ) → j < element_size → record_byte t a j ≡ record_byte u a j

pub here : (a : ℕ) (N : List ℕ) → Memᴰ a (a ∷ N)
here a N = Memᴰ.head refl

pub there : {a b : ℕ} {N : List ℕ} → Memᴰ a N → Memᴰ a (b ∷ N)
there m = Memᴰ.tail m

-- ---- alike in what is read: alike in the verdict

module _ (h : ℕ) (T N : List ℕ) (t u : Tables) (k : h ≤ hosts) (s : Same h T N t u) where
  no_place-is : (a : ℕ) → no_place t a ≡ no_place u a
  unfolding no_place
  no_place-is a = cc s.roster-is

  no_transport-is : (a : ℕ) → no_transport t a ≡ no_transport u a
  unfolding no_transport
  no_transport-is a = cc s.roster-is

  transport_used-is : (a : ℕ) → transport_used t h a ≡ transport_used u h a
  unfolding transport_used
  transport_used-is a = cc s.open_is

  leave-is : (a : ℕ) → leave t a ≡ leave u a
  unfolding leave
  leave-is a = cc s.roster-is

  -- two bytes of the record of an element named
  field_is : (a : ℕ) → Memᴰ a N → (j : ℕ) → j + 1 < element_size → record_word t a j ≡ record_word u a j
  unfolding word
  field_is a m j l =
      let p = element_at (place_of (roster t.head) a) in
      let q = element_at (place_of (roster u.head) a) in
      let x : p + j + 1 ≡ p + (j + 1) = omega arith in
      let y : q + j + 1 ≡ q + (j + 1) = omega arith in
      cc (s.record_is a m j (omega arith), s.record_is a m (j + 1) l, x, y)

  volume-is : (a : ℕ) → Memᴰ a N → volume_of t a ≡ volume_of u a
  unfolding volume_of volume
  volume-is a m =
      let p = element_at (place_of (roster t.head) a) in
      let q = element_at (place_of (roster u.head) a) in
      let x : p + 0 ≡ p = omega arith in
      let y : q + 0 ≡ q = omega arith in
      cc (field_is a m 0 (omega arith), x, y)

  source_is : (a : ℕ) → Memᴰ a N → source_of t a ≡ source_of u a
  unfolding source_of source
  source_is a m = field_is a m 2 (omega arith)

  carry-is : (a b : ℕ) → Memᴰ a N → carry t a b ≡ carry u a b
  unfolding carry shelf_of
  carry-is a b m = cc (s.roster-is, volume-is a m, source_is a m)

  unfit-is : (a b : ℕ) → Memᴰ b N → unfit t a (volume_of t b) ≡ unfit u a (volume_of u b)
  unfolding unfit drive_takes mask_of
  unfit-is a b m = cc (s.roster-is, s.drives-are, s.rest-is, volume-is b m)

  attention-is : attention t.head h ≡ attention u.head h
  unfolding attention
  attention-is = s.own_is k (attention_at h) (omega arith, omega arith)

  attentionq-is : attentionq t.head h ≡ attentionq u.head h
  unfolding attentionq
  attentionq-is = s.own_is k (1 + attention_at h) (omega arith, omega arith)

  guarded-is : (v w : Verdict) → v ≡ w → guarded t h v ≡ guarded u h w
  unfolding guarded after_attention after_unit
  guarded-is v w e = cc (s.unit-is, attention-is, attentionq-is)

  sense-is : (block : List ℕ) → request_sense t h block ≡ request_sense u h block
  unfolding request_sense tells_attention key asc ascq
  sense-is block =
      let key-is = s.own_is k (host_at h) (omega arith, omega arith) in
      let asc-is = s.own_is k (1 + host_at h) (omega arith, omega arith) in
      let ascq-is = s.own_is k (2 + host_at h) (omega arith, omega arith) in
      cc (key-is, asc-is, ascq-is, attention-is, attentionq-is)

  move_of-is : (arm from to : ℕ) → Memᴰ arm T → Memᴰ from T → Memᴰ to T → Memᴰ from N → Memᴰ to N
      → move_of t h arm from to ≡ move_of u h arm from to
  unfolding move_of
  move_of-is arm from to x y z m n =
      cc (
        no_transport-is arm,
        no_place-is from,
        no_place-is to,
        s.held-is arm x,
        s.held-is from y,
        s.held-is to z,
        volume-is from m,
        volume-is to n,
        unfit-is to from m,
        leave-is from,
        carry-is from to m,
      )

  exchange_of-is : (arm from first second : ℕ)
      → Memᴰ arm T → Memᴰ from T → Memᴰ first T → Memᴰ second T → Memᴰ from N → Memᴰ first N → Memᴰ second N
      → exchange_of t h arm from first second ≡ exchange_of u h arm from first second
  unfolding exchange_of
  exchange_of-is arm from first second x y z w m n o =
      cc (
        no_transport-is arm,
        no_place-is from,
        no_place-is first,
        no_place-is second,
        s.held-is arm x,
        s.held-is from y,
        s.held-is first z,
        s.held-is second w,
        volume-is from m,
        volume-is first n,
        volume-is second o,
        unfit-is first from m,
        unfit-is second first n,
        leave-is from,
        leave-is first,
        carry-is first second n,
        carry-is from first m,
      )

module _ (h : ℕ) (k : h ≤ hosts) (block : List ℕ) (t u : Tables) where
  -- by the operation of the block
  abbrev Alike : Operation → Type 0
  Alike op = Same h (touching t h block (named_by op block)) (named_by op block) t u

  move-is : Alike MoveMedium → move t h block ≡ move u h block
  unfolding move touching named_by
  move-is s =
      move_of-is h _ _ t u k s _ _ _ (here _ _) (there (here _ _)) (there (there (here _ _))) (here _ _) (there (here _ _))
      ∙ ap (λ (arm : ℕ). move_of u h arm (word block 4) (word block 6)) (transport_used-is h _ _ t u k s (word block 2))

  exchange-is : Alike ExchangeMedium → exchange t h block ≡ exchange u h block
  unfolding exchange touching named_by
  exchange-is s =
      exchange_of-is h _ _ t u k s _ _ _ _ (here _ _) (there (here _ _)) (there (there (here _ _))) (there (there (there (here _ _))))
      (here _ _) (there (here _ _)) (there (there (here _ _)))
      ∙ ap (λ (arm : ℕ). exchange_of u h arm (word block 4) (word block 6) (word block 8)) (transport_used-is h _ _ t u k s (word block 2))

  steps_of-is : (op : Operation) (list : List ℕ) → joins op ≡ true → Alike op → steps_of op t h block list ≡ steps_of op u h block list
  unfolding steps_of admitted formed fault own_fault act joins
  steps_of-is TestUnitReady list m s = guarded-is h _ _ t u k s _ _ refl
  steps_of-is RequestSense list m s = cc (sense-is h _ _ t u k s block)
  steps_of-is Reserve list m s = absurd (never m)
  steps_of-is Release list m s = absurd (never m)
  steps_of-is PreventAllow list m s = absurd (never m)
  steps_of-is MoveMedium list m s = guarded-is h _ _ t u k s _ _ (cc (move-is s))
  steps_of-is ExchangeMedium list m s = guarded-is h _ _ t u k s _ _ (cc (exchange-is s))
  steps_of-is ReadElementStatus list m s = absurd (never m)
  steps_of-is ModeSense list m s = absurd (never m)
  steps_of-is SendVolumeTag list m s = absurd (never m)
  steps_of-is RequestVolumeElementAddress list m s = absurd (never m)
  steps_of-is Unknown list m s = absurd (never m)

  steps-is : (list : List ℕ) → mixes block ≡ true → block_fits block ≡ true → Same h (touched t h block) (named block) t u
      → steps t h block list ≡ steps u h block list
  unfolding steps mixes touched named
  steps-is list m f s =
      let e = when_true (block_fits block) (named_by (operation block) block) [] f in
      steps_of-is (operation block) list m (subst (λ (N : List ℕ). Same h (touching t h block N) N t u) e s)

-- a host that there is not, and a block that does not fit, are refused whatever the tables hold
pub judged-is : (r : Request) (t u : Tables) → mixes r.block ≡ true → Same r.host (touched t r.host r.block) (named r.block) t u
    → judged t r ≡ judged u r
unfolding judged after_numbers
judged-is r t u m s = go (within 1 hosts r.host) (block_fits r.block) refl refl
  where
    go : (a b : Bool) → within 1 hosts r.host ≡ a → block_fits r.block ≡ b → judged t r ≡ judged u r
    go true true e f = rw (steps-is r.host (within-high 1 hosts r.host e) r.block t u r.parameters m f s)
    go true false e f = unfold when in rw f
    go false b e f = unfold when in rw e
