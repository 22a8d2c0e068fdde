-- Laws of `put`: what a write leaves as it was, what it puts there, and writes that may change places. Assumes nothing.
use Prim.Native.Nat.{ℕ, zero, suc, ◌+◌, ◌<◌, ◌≤◌, min}
use native.Mathlib.Omega.{arith}
use native.Mathlib.Nat.{not-suc-le-zero, add-zero, zero-add}
use mathlib.Core.Path.{◌≡◌, refl, ap, ◌∙◌}
use mathlib.Core.Logic.{◌≢◌}
use mathlib.Core.Bool.{Bool, true, false}
use mathlib.Core.List.{List, [], ◌∷◌, ◌++◌}
use lib.ListN.{length, take, drop, get_or, set, length-set}
use lib.Seq.{take-append-le, sets, sets-eq, length-sets, get_or-set_other, get_or-set_same, set-set, set_comm}
use lib.Dec.{leb, ltb}
use borrow.Author.Tests.{ltb-true, ltb-false, le-leb, lt-leb}
use Rattle.rules.specs.Choice.{when}
use Rattle.rules.specs.Bytes.{byte, put, cut}
use Rattle.rules.specs.Tables.{Change}
use Rattle.rules.specs.Order.{Number, Done, fits}

pub put-length : (xs : List ℕ) (i : ℕ) (bs : List ℕ) → length (put xs i bs) ≡ length xs
unfolding put
put-length xs i bs = length-sets xs i bs

-- `Clear i m j n`: the m places from i and the n from j have none in common
abbrev pub Clear : ℕ → ℕ → ℕ → ℕ → Type 0
Clear i m j n = (k l : ℕ) → k < m → l < n → i + k ≢ j + l

get_d-sets-other : (bs xs : List ℕ) (i j : ℕ) → ((k : ℕ) → k < length bs → i + k ≢ j) → get_or (sets xs i bs) j 0 ≡ get_or xs j 0
get_d-sets-other [] xs i j d = refl
get_d-sets-other (b ∷ bs) xs i j d =
    let n : j ≢ i = λ e. d 0 (omega arith) (omega arith) in
    get_d-sets-other bs (set xs i b) (suc i) j (λ k h e. d (suc k) (omega arith) (omega arith)) ∙ get_or-set_other xs i j b 0 n

pub byte_put : (xs : List ℕ) (i j : ℕ) (bs : List ℕ) → ((k : ℕ) → k < length bs → i + k ≢ j) → byte (put xs i bs) j ≡ byte xs j
unfolding byte put
byte_put xs i j bs d = get_d-sets-other bs xs i j d

set-sets : (bs xs : List ℕ) (i j a : ℕ) → ((l : ℕ) → l < length bs → i ≢ j + l) → set (sets xs j bs) i a ≡ sets (set xs i a) j bs
set-sets [] xs i j a d = refl
set-sets (b ∷ bs) xs i j a d =
    let n : j ≢ i = λ e. d 0 (omega arith) (omega arith) in
    set-sets bs (set xs j b) i (suc j) a (λ l h e. d (suc l) (omega arith) (omega arith))
    ∙ ap (λ (r : List ℕ). sets r (suc j) bs) (set_comm xs j i b a n)

sets-sets : (cs bs xs : List ℕ) (i j : ℕ) → Clear i (length cs) j (length bs) → sets (sets xs j bs) i cs ≡ sets (sets xs i cs) j bs
sets-sets [] bs xs i j d = refl
sets-sets (a ∷ cs) bs xs i j d =
    ap (λ (r : List ℕ). sets r (suc i) cs) (set-sets bs xs i j a (λ l h e. d 0 l (omega arith) h (omega arith)))
    ∙ sets-sets cs bs (set xs i a) (suc i) j (λ k l p q e. d (suc k) l (omega arith) q (omega arith))

pub put-put : (xs : List ℕ) (i j : ℕ) (cs bs : List ℕ) → Clear i (length cs) j (length bs) → put (put xs j bs) i cs ≡ put (put xs i cs) j bs
unfolding put
put-put xs i j cs bs d = sets-sets cs bs xs i j d

sets_over : (bs cs xs : List ℕ) (i : ℕ) → length bs ≡ length cs → sets (sets xs i bs) i cs ≡ sets xs i cs
sets_over [] [] xs i e = refl
sets_over [] (c ∷ cs) xs i e = absurd (omega arith)
sets_over (b ∷ bs) [] xs i e = absurd (omega arith)
sets_over (b ∷ bs) (c ∷ cs) xs i e =
    ap (λ (r : List ℕ). sets r (suc i) cs)
    (set-sets bs (set xs i b) i (suc i) c (λ l h. omega arith) ∙ ap (λ (r : List ℕ). sets r (suc i) bs) (set-set xs i b c))
    ∙ sets_over bs cs (set xs i c) (suc i) (omega arith)

-- of two writes of as many bytes in one place the second is left
pub put-over : (xs : List ℕ) (i : ℕ) (bs cs : List ℕ) → length bs ≡ length cs → put (put xs i bs) i cs ≡ put xs i cs
unfolding put
put-over xs i bs cs e = sets_over bs cs xs i e

get_d-sets-same : (bs xs : List ℕ) (i j k : ℕ) → j ≡ i + k → i + length bs ≤ length xs → k < length bs → get_or (sets xs i bs) j 0 ≡ get_or bs k 0
get_d-sets-same [] xs i j k e f h = absurd (not-suc-le-zero h)
get_d-sets-same (b ∷ bs) xs i j zero e f h =
    let j-is : j ≡ i = omega arith in
    get_d-sets-other bs (set xs i b) (suc i) j (λ m l. omega arith) ∙ rw j-is (get_or-set_same xs i b 0 (omega arith))
get_d-sets-same (b ∷ bs) xs i j (suc k) e f h =
    get_d-sets-same bs (set xs i b) (suc i) j k (omega arith) (omega (arith, length-set xs i b)) (omega arith)

pub byte-put-same : (xs : List ℕ) (i j k : ℕ) (bs : List ℕ) → j ≡ i + k → i + length bs ≤ length xs → k < length bs
    → byte (put xs i bs) j ≡ get_or bs k 0
unfolding byte put
byte-put-same xs i j k bs e f h = get_d-sets-same bs xs i j k e f h

-- ---- one write behind another

sets-append : (vs l : List ℕ) (i : ℕ) (ws : List ℕ) → sets (sets l i vs) (i + length vs) ws ≡ sets l i (vs ++ ws)
sets-append [] l i ws = rw add-zero
sets-append (v ∷ vs) l i ws =
    let e : i + suc (length vs) ≡ suc i + length vs = omega arith in
    rw e (sets-append vs (set l i v) (suc i) ws)

-- what is written behind what was written is one write
pub put-append : (l : List ℕ) (i j : ℕ) (vs ws : List ℕ) → i + length vs ≡ j → put (put l i vs) j ws ≡ put l i (vs ++ ws)
unfolding put
put-append l i j vs ws e = rw (← e) (sets-append vs l i ws)

pub put-nothing : (l : List ℕ) (i : ℕ) → put l i [] ≡ l
unfolding put
put-nothing l i = refl

-- two calls that wrote one behind the other
pub put_then : (l m n : List ℕ) (i j : ℕ) (vs ws : List ℕ) → m ≡ put l i vs → n ≡ put m j ws → i + length vs ≡ j → n ≡ put l i (vs ++ ws)
put_then l m n i j vs ws e f g = f ∙ ap (λ (x : List ℕ). put x j ws) e ∙ put-append l i j vs ws g

-- ---- answers cut at the allocation

-- "the first min(allocation, n) bytes"
pub cut-length : (allocation : ℕ) (whole : List ℕ) → length (cut allocation whole) ≡ min allocation (length whole)
unfolding cut
cut-length zero whole = omega arith
cut-length (suc n) [] = omega arith
cut-length (suc n) (x ∷ xs) = omega (arith, cut-length n xs)

-- an allocation that is no longer is the length
pub cut-within : (n : ℕ) (whole : List ℕ) → n ≤ length whole → length (cut n whole) ≡ n
cut-within n whole h = let e : length (cut n whole) ≡ min n (length whole) = cut-length n whole in omega arith

-- bytes written to the front of a buffer that has room for them
pub put_front : (bytes buffer : List ℕ) → length bytes ≤ length buffer → put buffer 0 bytes ≡ bytes ++ drop (length bytes) buffer
unfolding put
put_front bytes buffer h = sets-eq bytes buffer 0 (omega arith) ∙ rw (zero-add (length bytes))

-- what was written to the front, cut
pub cut-put : (n : ℕ) (l whole : List ℕ) → length whole ≤ length l → n ≤ length whole → cut n (put l 0 whole) ≡ cut n whole
unfolding cut put
cut-put n l whole h k =
    ap (take n) (sets-eq whole l 0 (omega arith)) ∙ take-append-le n whole (drop (0 + length whole) l) k

-- the bytes that are there are cut as by the allocation
pub cut-least : (allocation : ℕ) (whole : List ℕ) → cut (min allocation (length whole)) whole ≡ cut allocation whole
unfolding cut
cut-least zero whole = let e : min 0 (length whole) ≡ 0 = omega arith in rw e refl
cut-least (suc n) [] = let e : min (suc n) 0 ≡ 0 = omega arith in rw e refl
cut-least (suc n) (x ∷ xs) =
    let e : min (suc n) (suc (length xs)) ≡ suc (min n (length xs)) = omega arith in rw e (ap (λ (ys : List ℕ). x ∷ ys) (cut-least n xs))

-- house number 5, for an answer that is cut

test-turned : {A : Type 0} (a b : ℕ) (x y : A) → when (leb a b) x y ≡ when (ltb b a) y x
unfolding when
test-turned a b x y = go (ltb b a) refl
  where
    go : (c : Bool) → ltb b a ≡ c → when (leb a b) x y ≡ when c y x
    go true e = rw (lt-leb a b (ltb-true b a e))
    go false e = rw (le-leb a b (ltb-false b a e))

pub fits_cut : (answer : List ℕ) (n status : ℕ) (whole : List ℕ) (cs : List Change)
    → fits answer (Done status (cut n whole) cs) ≡ when (ltb (length answer) (min n (length whole))) (Number 5) (Done status (cut n whole) cs)
unfolding fits
fits_cut answer n status whole cs = rw (cut-length n whole) (test-turned (min n (length whole)) (length answer) _ _)
