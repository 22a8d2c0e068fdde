-- The table of cases holds: the checker computes every row, and each row is then an equation. Assumes nothing.
use Prim.Native.Nat.{ℕ}
use native.Mathlib.Omega.{arith}
use mathlib.Core.Path.{◌≡◌, refl, ap}
use mathlib.Core.List.{List, [], ◌∷◌, ◌++◌}
use mathlib.Core.Bool.{Bool, true, false}
use lib.Dec.{eqb}
use borrow.Author.Tests.{eqb-true}
use Rattle.rules.proofs.Ladder.{all_first, all_rest}
use Rattle.rules.proofs.Opened.{opened}
use Rattle.rules.specs.Choice.{when}
use Rattle.rules.specs.Tables.{lent, of_row}
use Rattle.rules.specs.Order.{Outcome}
use Rattle.rules.specs.Command.{serve}
use Rattle.rules.specs.Small.{ends_on, ends, checks, refuses}
use Rattle.rules.specs.Cases.{Case, Name, moves, exchanges, whole12, read12, cuts, tagged, labelled, whole_all, read_all, failed_reserve, own_sense, import_after_reset, shipped, twice, laden, locked, numbers, event_numbers, step_cases, held_by, withheld, touch_cases, hold_cases, event_cases, address_page, geometry_page, capability_page, whole_modes, mode_block, mode_cases, arms_head, arms_elements, long_cases, carries, shelf_moves, shelf_exchanges, unsound_source, source_cases, unsound_panel, panel_cases, wrong_drive, fit_moves, fit_exchanges, unsound_fit, fit_cases, three_arms, arms_of, arm_carries, arm_stalls, arm_moves, arm_exchanges, FILM-any, films_from, sends_tag, tag_cases, held_shelf, meets_holder, holder_cases, found-header, shelf-page, shelf-full, finds, find_cases, match_cases, unsound_search, search_cases, cases, same, same_all, same_outcome, wrong}

-- `wrong` with every definition open. The table is computed in parts that are small enough for an error to name the row.
tested : List Case → List Name
unfolding opened ends_on ends checks refuses moves exchanges whole12 read12 cuts tagged labelled whole_all read_all failed_reserve own_sense import_after_reset shipped twice laden locked numbers event_numbers step_cases held_by withheld touch_cases hold_cases event_cases address_page geometry_page capability_page whole_modes mode_block mode_cases arms_head arms_elements long_cases carries shelf_moves shelf_exchanges unsound_source source_cases unsound_panel panel_cases wrong_drive fit_moves fit_exchanges unsound_fit fit_cases three_arms arms_of arm_carries arm_stalls arm_moves arm_exchanges FILM-any films_from sends_tag tag_cases held_shelf meets_holder holder_cases found-header shelf-page shelf-full finds find_cases match_cases unsound_search search_cases cases same same_all same_outcome wrong
tested cs = wrong cs

moves-computed : tested moves ≡ []
unfolding tested
moves-computed = refl {a = []}

exchanges-computed : tested exchanges ≡ []
unfolding tested
exchanges-computed = refl {a = []}

cuts-computed : tested cuts ≡ []
unfolding tested
cuts-computed = refl {a = []}

read_all-computed : tested read_all ≡ []
unfolding tested
read_all-computed = refl {a = []}

shipped-computed : tested shipped ≡ []
unfolding tested
shipped-computed = refl {a = []}

numbers-computed : tested numbers ≡ []
unfolding tested
numbers-computed = refl {a = []}

event_numbers-computed : tested event_numbers ≡ []
unfolding tested
event_numbers-computed = refl {a = []}

step_cases-computed : tested step_cases ≡ []
unfolding tested
step_cases-computed = refl {a = []}

touch_cases-computed : tested touch_cases ≡ []
unfolding tested
touch_cases-computed = refl {a = []}

hold_cases-computed : tested hold_cases ≡ []
unfolding tested
hold_cases-computed = refl {a = []}

event_cases-computed : tested event_cases ≡ []
unfolding tested
event_cases-computed = refl {a = []}

mode_cases-computed : tested mode_cases ≡ []
unfolding tested
mode_cases-computed = refl {a = []}

long_cases-computed : tested long_cases ≡ []
unfolding tested
long_cases-computed = refl {a = []}

shelf_moves-computed : tested shelf_moves ≡ []
unfolding tested
shelf_moves-computed = refl {a = []}

shelf_exchanges-computed : tested shelf_exchanges ≡ []
unfolding tested
shelf_exchanges-computed = refl {a = []}

source_cases-computed : tested source_cases ≡ []
unfolding tested
source_cases-computed = refl {a = []}

panel_cases-computed : tested panel_cases ≡ []
unfolding tested
panel_cases-computed = refl {a = []}

fit_moves-computed : tested fit_moves ≡ []
unfolding tested
fit_moves-computed = refl {a = []}

fit_exchanges-computed : tested fit_exchanges ≡ []
unfolding tested
fit_exchanges-computed = refl {a = []}

fit_cases-computed : tested fit_cases ≡ []
unfolding tested
fit_cases-computed = refl {a = []}

arm_moves-computed : tested arm_moves ≡ []
unfolding tested
arm_moves-computed = refl {a = []}

arm_exchanges-computed : tested arm_exchanges ≡ []
unfolding tested
arm_exchanges-computed = refl {a = []}

tag_cases-computed : tested tag_cases ≡ []
unfolding tested
tag_cases-computed = refl {a = []}

holder_cases-computed : tested holder_cases ≡ []
unfolding tested
holder_cases-computed = refl {a = []}

find_cases-computed : tested find_cases ≡ []
unfolding tested
find_cases-computed = refl {a = []}

match_cases-computed : tested match_cases ≡ []
unfolding tested
match_cases-computed = refl {a = []}

search_cases-computed : tested search_cases ≡ []
unfolding tested
search_cases-computed = refl {a = []}

-- ---- the test says what it should: each row is an equation

same_true : (xs ys : List ℕ) → same xs ys ≡ true → xs ≡ ys
unfolding same when
same_true [] [] e = refl
same_true [] (y ∷ ys) e = cc
same_true (x ∷ xs) [] e = cc
same_true (x ∷ xs) (y ∷ ys) e = go (same_true xs ys) (eqb x y) refl e
  where
    go : (same xs ys ≡ true → xs ≡ ys) → (b : Bool) → eqb x y ≡ b → when b (same xs ys) false ≡ true → x ∷ xs ≡ y ∷ ys
    go ih true t d = let i = ih d in let j = eqb-true x y t in cc
    go ih false t d = cc

outcome-is : {o p : Outcome} → o.number ≡ p.number → o.status ≡ p.status → o.count ≡ p.count → o.preventers ≡ p.preventers
    → o.lowest ≡ p.lowest → o.tables.head ≡ p.tables.head → o.tables.elements ≡ p.tables.elements → o.tables.rest ≡ p.tables.rest → o.buffer ≡ p.buffer → o ≡ p
outcome-is a b c d e f g r h =
    λ i. record { number = a i; status = b i; count = c i; preventers = d i; lowest = e i; tables = lent (f i) (g i) (r i); buffer = h i }

same-all : (xs ys : List (List ℕ)) → same_all xs ys ≡ true → xs ≡ ys
unfolding same_all
same-all [] [] e = refl
same-all [] (y ∷ ys) e = cc
same-all (x ∷ xs) [] e = cc
same-all (x ∷ xs) (y ∷ ys) e =
    let i = same_true x y (all_first _ _ e) in
    let j = same-all xs ys (all_first _ _ (all_rest _ _ e)) in
    cc

same_outcome_lem : (o p : Outcome) → same_outcome o p ≡ true → o ≡ p
unfolding same_outcome
same_outcome_lem o p e =
    let e₁ = all_rest _ _ e in
    let e₂ = all_rest _ _ e₁ in
    let e₃ = all_rest _ _ e₂ in
    let e₄ = all_rest _ _ e₃ in
    let e₅ = all_rest _ _ e₄ in
    let e₆ = all_rest _ _ e₅ in
    let e₇ = all_rest _ _ e₆ in
    let e₈ = all_rest _ _ e₇ in
    let number : o.number ≡ p.number = eqb-true _ _ (all_first _ _ e) in
    let status : o.status ≡ p.status = eqb-true _ _ (all_first _ _ e₁) in
    let count : o.count ≡ p.count = eqb-true _ _ (all_first _ _ e₂) in
    let preventers : o.preventers ≡ p.preventers = eqb-true _ _ (all_first _ _ e₃) in
    let lowest : o.lowest ≡ p.lowest = eqb-true _ _ (all_first _ _ e₄) in
    let head : o.tables.head ≡ p.tables.head = same_true _ _ (all_first _ _ e₅) in
    let elements : o.tables.elements ≡ p.tables.elements = same_true _ _ (all_first _ _ e₆) in
    let rest : o.tables.rest ≡ p.tables.rest = ap of_row (same-all _ _ (all_first _ _ e₇)) in
    let buffer : o.buffer ≡ p.buffer = same_true _ _ (all_first _ _ e₈) in
    outcome-is number status count preventers lowest head elements rest buffer

-- the row holds
abbrev pub Holds : Case → Type 0
Holds c = serve c.on c.call ≡ c.gives

pub data AllHold : List Case → Type 0 where
  none : AllHold []
  one : {c : Case} {cs : List Case} → Holds c → AllHold cs → AllHold (c ∷ cs)

none-wrong : (cs : List Case) → wrong cs ≡ [] → AllHold cs
unfolding wrong when
none-wrong [] e = none
none-wrong (c ∷ cs) e = go (none-wrong cs) (same_outcome (serve c.on c.call) c.gives) refl e
  where
    go : (wrong cs ≡ [] → AllHold cs) → (b : Bool) → same_outcome (serve c.on c.call) c.gives ≡ b → when b (wrong cs) (c.name ∷ wrong cs) ≡ []
        → AllHold (c ∷ cs)
    go ih true t d = one (same_outcome_lem _ _ t) (ih d)
    go ih false t d = absurd (let z : ◌≡◌ {A = ℕ} 0 1 = cc in omega arith)

hold : (cs : List Case) → tested cs ≡ [] → AllHold cs
unfolding tested
hold cs e = none-wrong cs e

both : {cs ds : List Case} → AllHold cs → AllHold ds → AllHold (cs ++ ds)
both none h = h
both (one e g) h = one e (both g h)

-- P1 to P12, READ all, the errors that were shipped, a row for each house number, step and command, the last shelf, the empty shelves, what a drive takes, the arm, and
-- searches
pub cases-hold : AllHold cases
unfolding cases
cases-hold =
    both
    (both (both (both (both (both (both (both (both (both (both (both (both (both (both (both (both (both (both (both (both (both (both (both (both (both (hold moves moves-computed)
    (hold exchanges exchanges-computed))
    (hold cuts cuts-computed))
    (hold read_all read_all-computed))
    (hold shipped shipped-computed))
    (hold numbers numbers-computed))
    (hold event_numbers event_numbers-computed))
    (hold step_cases step_cases-computed))
    (hold touch_cases touch_cases-computed))
    (hold hold_cases hold_cases-computed))
    (hold event_cases event_cases-computed))
    (hold mode_cases mode_cases-computed))
    (hold long_cases long_cases-computed))
    (hold shelf_moves shelf_moves-computed))
    (hold shelf_exchanges shelf_exchanges-computed))
    (hold source_cases source_cases-computed))
    (hold panel_cases panel_cases-computed))
    (hold fit_moves fit_moves-computed))
    (hold fit_exchanges fit_exchanges-computed))
    (hold fit_cases fit_cases-computed))
    (hold arm_moves arm_moves-computed))
    (hold arm_exchanges arm_exchanges-computed))
    (hold tag_cases tag_cases-computed))
    (hold holder_cases holder_cases-computed))
    (hold find_cases find_cases-computed))
    (hold match_cases match_cases-computed))
    (hold search_cases search_cases-computed)
