-- Demand 3: every mixing of two hosts' lists over disjoint addresses gives each host the replies of its own list alone, and ends where one
-- list after the other ends. Assumes nothing.
use Prim.Native.Nat.{ℕ}
use mathlib.Core.Path.{◌≡◌, refl, sym, ap, ◌∙◌}
use mathlib.Core.Logic.{◌≢◌}
use mathlib.Core.Bool.{Bool, true, false}
use mathlib.Core.List.{List, [], ◌∷◌, ◌++◌, Memᴰ}
use borrow.Author.Tests.{eq-eqb, ne_eqb}
use Rattle.rules.specs.Tables.{Tables}
use Rattle.rules.specs.Roster.{roster}
use Rattle.rules.specs.Sound.{sound}
use Rattle.rules.specs.Order.{Verdict, Number, Prevented, Done, outcome, after}
use Rattle.rules.specs.Command.{Request, Command, judged, judge, verdict, buffer_of, serve}
use Rattle.rules.specs.Histories.{next, run, outcomes, reply, told_to, run_requests, replies, Mixing, none, left, right, mixes, named, From, end, more, Disjoint, Apart}
use Rattle.rules.proofs.Ladder.{on, when_true, when_false}
use Rattle.rules.proofs.Keeps.{sound-stays}
use Rattle.rules.proofs.Same.{Same, touched, judged-is}
use Rattle.rules.proofs.Frame.{Keeps, judged-kept, after_same, after-comm}

-- ---- one request of another host's before

-- two requests of different hosts, of the four commands, that name no address in common
record Strangers (x y : Request) : Type 0 where
  hosts-differ : x.host ≢ y.host
  x-mixes : mixes x.block ≡ true
  y-mixes : mixes y.block ≡ true
  addresses-differ : Disjoint (named x.block) (named y.block)

flip : {x y : Request} → Strangers x y → Strangers y x
flip s =
    record {
      hosts-differ = λ e. s.hosts-differ (sym e);
      x-mixes = s.y-mixes;
      y-mixes = s.x-mixes;
      addresses-differ = λ a m n. s.addresses-differ a n m;
    }

judge-kept : (t : Tables) (r : Request) → mixes r.block ≡ true → Keeps (roster t.head) r.host (named r.block) (judge t r)
unfolding judge
judge-kept t r m = on (Keeps (roster t.head) r.host (named r.block)) (sound t) (λ _. judged-kept t r m) (λ _. tt)

-- a request leaves sound tables sound, and unsound ones as they are
sound-next : (t : Tables) (r : Request) → sound (next t (Command r)) ≡ sound t
sound-next t r = go (sound t) refl
  where
    go : (b : Bool) → sound t ≡ b → sound (next t (Command r)) ≡ b
    go true e = sound-stays t (Command r) e
    go false e =
        unfold next verdict judge after in
        rw (when_false (sound t) (judged t r) (Number 1) e) e

module _ (t : Tables) (x y : Request) (s : Strangers x y) where
  judge-past : judge (next t (Command x)) y ≡ judge t y
  unfolding judge next verdict
  judge-past =
      let alike : Same y.host (touched t y.host y.block) (named y.block) t (after (judge t x) t)
      = after_same y.host x.host _ (named y.block) (named x.block) (λ e. s.hosts-differ (sym e)) (λ a m n. s.addresses-differ a n m)
      (judge t x) t (judge-kept t x s.x-mixes) in
      cc (sound-next t x, judged-is y t (after (judge t x) t) s.y-mixes alike)

  reply-past : reply (serve (next t (Command x)) (Command y)) ≡ reply (serve t (Command y))
  unfolding serve verdict
  reply-past = rw judge-past (told (judge t y))
    where
      -- a reply tells nothing of the tables
      told : (v : Verdict) → reply (outcome (next t (Command x)) (buffer_of (Command y)) v) ≡ reply (outcome t (buffer_of (Command y)) v)
      told (Number n) = unfold reply outcome in refl
      told (Prevented n h) = unfold reply outcome in refl
      told (Done status bytes cs) = unfold reply outcome in refl

  next_past : next (next t (Command x)) (Command y) ≡ after (judge t y) (after (judge t x) t)
  unfolding next verdict
  next_past = let e : judge (after (judge t x) t) y ≡ judge t y = judge-past in cc

next-comm : (t : Tables) (x y : Request) → Strangers x y → next (next t (Command x)) (Command y) ≡ next (next t (Command y)) (Command x)
next-comm t x y s =
    next_past t x y s
    ∙ after-comm (roster t.head) y.host x.host (named y.block) (named x.block) (λ e. s.hosts-differ (sym e))
    (λ a m n. s.addresses-differ a n m) (judge t y) (judge t x) (judge-kept t y s.y-mixes) (judge-kept t x s.x-mixes) t
    ∙ sym (next_past t y x (flip s))

-- ---- a request past a whole list of another host's

data Free (y : Request) : List Request → Type 0 where
  free-nil : Free y []
  free-cons : {x : Request} {xs : List Request} → Strangers x y → Free y xs → Free y (x ∷ xs)

first : (x : Request) (xs : List Request) → Memᴰ x (x ∷ xs)
first x xs = Memᴰ.head refl

later : {x y : Request} {xs : List Request} → Memᴰ x xs → Memᴰ x (y ∷ xs)
later m = Memᴰ.tail m

free_of : (h g : ℕ) → h ≢ g → (x : Request) {ys : List Request} → x.host ≡ h → mixes x.block ≡ true → From g ys
    → ((y : Request) → Memᴰ y ys → Disjoint (named x.block) (named y.block)) → Free x ys
free_of h g n x hx mx end d = free-nil
free_of h g n x hx mx (more {r = r} hy my f) d =
    free-cons
    (record { hosts-differ = λ (e : r.host ≡ x.host). n (cc); x-mixes = my; y-mixes = mx; addresses-differ = λ a m o. d r (first _ _) a o m })
    (free_of h g n x hx mx f (λ y m. d y (later m)))

past-run : (y : Request) {xs : List Request} → Free y xs → (t : Tables) → run_requests (next t (Command y)) xs ≡ next (run_requests t xs) (Command y)
unfolding run_requests run
past-run y free-nil t = refl
past-run y (free-cons {x = x} {xs = xs} s f) t =
    ap (λ (u : Tables). run_requests u xs) (sym (next-comm t x y s)) ∙ past-run y f (next t (Command x))

past-replies : (h : ℕ) (y : Request) {xs : List Request} → Free y xs → (t : Tables) → replies h (next t (Command y)) xs ≡ replies h t xs
unfolding replies outcomes told_to
past-replies h y free-nil t = refl
past-replies h y (free-cons {x = x} s f) t = cc (reply-past t y x (flip s), next-comm t x y s, past-replies h y f (next t (Command x)))

-- ---- mixings

run-append : (xs ys : List Request) (t : Tables) → run_requests t (xs ++ ys) ≡ run_requests (run_requests t xs) ys
unfolding run_requests run
run-append [] ys t = refl
run-append (x ∷ xs) ys t = run-append xs ys (next t (Command x))

replies-own : (h : ℕ) (r : Request) (rs : List Request) (t : Tables) → r.host ≡ h
    → replies h t (r ∷ rs) ≡ reply (serve t (Command r)) ∷ replies h (next t (Command r)) rs
unfolding replies outcomes told_to
replies-own h r rs t e = when_true _ _ _ (eq-eqb r.host h e)

replies-else : (h : ℕ) (r : Request) (rs : List Request) (t : Tables) → r.host ≢ h → replies h t (r ∷ rs) ≡ replies h (next t (Command r)) rs
unfolding replies outcomes told_to
replies-else h r rs t n = when_false _ _ _ (ne_eqb r.host h n)

pub record Mixed (h g : ℕ) (xs ys zs : List Request) (t : Tables) : Type 0 where
  pub tables : run_requests t zs ≡ run_requests t (xs ++ ys)
  pub first-host : replies h t zs ≡ replies h t xs
  pub second-host : replies g t zs ≡ replies g t ys

pub mixing : (h g : ℕ) → h ≢ g → {xs ys zs : List Request} → Mixing xs ys zs → From h xs → From g ys → Apart xs ys → (t : Tables)
    → Mixed h g xs ys zs t
unfolding run_requests run
mixing h g n none fx fy a t = record { tables = refl; first-host = refl; second-host = refl }
mixing h g n (left {x = x} {xs = xs} {ys = ys} {zs = zs} m) (more hx mx fx) fy a t =
    let ih : Mixed h g xs ys zs (next t (Command x)) = mixing h g n m fx fy (λ x y p. a x y (later p)) (next t (Command x)) in
    let f : Free x ys = free_of h g n x hx mx fy (λ y q. a x y (first _ _) q) in
    record {
      tables = ih.tables;
      first-host = cc (replies-own h x zs t hx, replies-own h x xs t hx, ih.first-host);
      second-host = cc (replies-else g x zs t (λ (e : x.host ≡ g). n (cc)), ih.second-host, past-replies g x f t);
    }
mixing h g n (right {y = y} {xs = xs} {ys = ys} {zs = zs} m) fx (more hy my fy) a t =
    let ih : Mixed h g xs ys zs (next t (Command y)) = mixing h g n m fx fy (λ x y p q. a x y p (later q)) (next t (Command y)) in
    let f : Free y xs = free_of g h (λ e. n (sym e)) y hy my fx (λ x p b u v. a x y p (first _ _) b v u) in
    record {
      tables = cc (ih.tables, run-append xs ys (next t (Command y)), run-append xs (y ∷ ys) t, past-run y f t);
      first-host = cc (replies-else h y zs t (λ (e : y.host ≡ h). n (cc)), ih.first-host, past-replies h y f t);
      second-host = cc (replies-own g y zs t hy, replies-own g y ys t hy, ih.second-host);
    }
