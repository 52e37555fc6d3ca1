-- The cycles of the calendar, the years that have fourteen, and what the cycle's field says.
-- Assumes nothing.
use mathlib.Core.Path.{◌≡◌, refl, sym, ap, ap₂, subst, ◌∙◌}
use mathlib.Core.Logic.{◌↔◌, inl, inr}
use mathlib.Core.Bool.{Bool, true, false, cond}
use mathlib.Core.List.{List, [], ◌∷◌, ◌++◌}
use Prim.Native.Nat.{ℕ, suc, ◌+◌, ◌-◌, ◌%◌, ◌^◌, ◌≤◌, ◌<◌}
use native.Mathlib.Omega.{arith}
use native.Mathlib.Decide.{dec_lt}
use lib.Dec.{eqb}
use lib.ListN.{length}
use borrow.Author.Tests.{eqb-true, eq-eqb, ne_eqb}
use Rattle.slices.proofs.Cases.{split}
use Rattle.slices.proofs.EveryLaws.{every, each_among, below, each_below}
use Rattle.digits.specs.Digits.{value}
use Rattle.columns.specs.Calendar.{divides, leap, days_in, days_of, new_year, begins, beginning, cycles_in, year_of}
use Rattle.columns.specs.ByteSets.{fits}
use Rattle.columns.specs.Patterns.{fits_all, any_of, digits, codes, texts}
use Rattle.columns.specs.Layout.{thirteen as thirteenPatterns, fourteens, cycle as cyclePatterns}
use Rattle.columns.specs.Words.{Or, Then, Is, OneOf, Digits, AtMost, Between, Cycle}
use Rattle.columns.proofs.PatternLaws.{Says, reworded, says_or, says_then, says_among}
use Rattle.columns.proofs.FieldLaws.{says_digits, says_up_to, says_from_one}
use Rattle.columns.proofs.WordLaws.{says_is}

-- ---- when a cycle begins

-- on 1 January 1998
pub began : begins (new_year 1998) ≡ true
unfolding begins
began = eq-eqb (new_year 1998 % 28) (new_year 1998 % 28) refl

-- every 28 days, before that day and after it
pub every_28 : (day : ℕ) → begins (day + 28) ≡ begins day
unfolding begins
every_28 day = let e : (day + 28) % 28 ≡ day % 28 = omega arith in ap (λ (r : ℕ). eqb r (new_year 1998 % 28)) e

-- and on no day between
pub none_between : (day k : ℕ) → begins day ≡ true → 1 ≤ k → k < 28 → begins (day + k) ≡ false
unfolding begins
none_between day k b l m =
    let e : day % 28 ≡ new_year 1998 % 28 = eqb-true (day % 28) (new_year 1998 % 28) b in
    ne_eqb ((day + k) % 28) (new_year 1998 % 28) (λ f. let g : (day + k) % 28 ≡ day % 28 = f ∙ sym e in omega arith)

-- ---- the hundred years that two digits name

-- two digits, by what each is worth
abbrev two : ℕ → ℕ → List ℕ
two a b = (48 + a) ∷ (48 + b) ∷ []

as_two : (g : List ℕ) → Digits 2 g → (a : ℕ) × (b : ℕ) × (a < 10) × (b < 10) × (g ≡ two a b)
as_two [] (l, r) = absurd (omega arith)
as_two (x ∷ []) (l, r) = absurd (omega arith)
as_two (x ∷ (y ∷ (z ∷ g))) (l, r) = absurd (omega arith)
as_two (x ∷ (y ∷ [])) (l, (hx, (hy, u))) =
    let p : x ≡ 48 + (x - 48) = omega (arith, hx.0) in
    let q : y ≡ 48 + (y - 48) = omega (arith, hy.0) in
    (x - 48, y - 48, omega (arith, hx.1), omega (arith, hy.1), ap₂ (λ (s t : ℕ). s ∷ t ∷ []) p q)

-- whether they are a year of the layout with fourteen
abbrev fourteen : List ℕ → Bool
fourteen g = any_of (texts fourteens) g

abbrev as_counted : ℕ → ℕ → Bool
as_counted a b = eqb (cycles_in (year_of (value (two a b)))) (cond (fourteen (two a b)) 14 13)

-- all of them, counted day by day
hundred : every (λ a. every (as_counted a) (below 10)) (below 10) ≡ true
unfolding every below divides leap days_in days_of new_year begins beginning cycles_in year_of value any_of fits_all fits texts codes
hundred = refl

counted : (g : List ℕ) → Digits 2 g → cycles_in (year_of (value g)) ≡ cond (fourteen g) 14 13
counted g d =
    let r = as_two g d in
    let row = each_below (λ a. every (as_counted a) (below 10)) 10 hundred r.0 r.2 in
    subst (λ (f : List ℕ). cycles_in (year_of (value f)) ≡ cond (fourteen f) 14 13) (sym r.4)
    (eqb-true _ _ (each_below (as_counted r.0) 10 row r.1 r.3))

says_fourteens : Says (texts fourteens) (OneOf fourteens)
unfolding texts codes
says_fourteens = says_among (texts fourteens) refl

-- the calendar has fourteen cycles in these years, and thirteen in every other
module _ (g : List ℕ) (d : Digits 2 g) where
  has : {t : Bool} → fourteen g ≡ t → cycles_in (year_of (value g)) ≡ cond t 14 13
  has e = counted g d ∙ ap (λ (t : Bool). cond t 14 13) e

  pub fourteen_iff : (cycles_in (year_of (value g)) ≡ 14) ↔ OneOf fourteens g
  fourteen_iff = (
    λ e. split (fourteen g) (says_fourteens.means g).0 (λ t. absurd (omega (arith, e, has t))),
    λ m. has ((says_fourteens.means g).1 m),
  )

  pub else_thirteen : (OneOf fourteens g → ⊥) → cycles_in (year_of (value g)) ≡ 13
  else_thirteen n = split (fourteen g) (λ t. absurd (n ((says_fourteens.means g).0 t))) has

  bounds : (13 ≤ cycles_in (year_of (value g))) × (cycles_in (year_of (value g)) ≤ 14)
  bounds = split (fourteen g) (λ t. (omega (arith, has t), omega (arith, has t))) (λ t. (omega (arith, has t), omega (arith, has t)))

-- ---- what the field says

-- 01 to 09 and 10 to 13 are 01 to 13
thirteen_in : (f : List ℕ) → Or (Then (Is "0") (Between 1 1 9)) (Then (Is "1") (AtMost 1 3)) f → Between 2 1 13 f
unfolding codes value
thirteen_in f (inl (g, h, e, q, ((l, r), lo, hi))) =
    subst (Between 2 1 13) (sym (e ∙ ap (λ (t : List ℕ). t ++ h) q)) ((ap suc l, ((omega arith, omega arith), r)), omega arith, omega arith)
thirteen_in f (inr (g, h, e, q, ((l, r), hi))) =
    let p : 10 ^ length h ≡ 10 = ap (λ (k : ℕ). 10 ^ k) l in
    subst (Between 2 1 13) (sym (e ∙ ap (λ (t : List ℕ). t ++ h) q)) ((ap suc l, ((omega arith, omega arith), r)), omega arith, omega arith)

thirteen_out : (f : List ℕ) → Between 2 1 13 f → Or (Then (Is "0") (Between 1 1 9)) (Then (Is "1") (AtMost 1 3)) f
unfolding codes value
thirteen_out [] ((l, r), lo, hi) = absurd (omega arith)
thirteen_out (x ∷ []) ((l, r), lo, hi) = absurd (omega arith)
thirteen_out (x ∷ (y ∷ (z ∷ f))) ((l, r), lo, hi) = absurd (omega arith)
thirteen_out (x ∷ (y ∷ [])) ((l, (hx, (hy, u))), lo, hi) = by (dec_lt x 49)
  where
    by : Dec (x < 49) → Or (Then (Is "0") (Between 1 1 9)) (Then (Is "1") (AtMost 1 3)) (x ∷ (y ∷ []))
    by (yes h) =
        let e : x ≡ 48 = omega (arith, hx.0) in
        inl (x ∷ [], y ∷ [], refl, ap (λ (t : ℕ). t ∷ []) e, ((refl, (hy, tt)), omega (arith, lo), omega (arith, hy.1)))
    by (no h) =
        let e : x ≡ 49 = omega (arith, hi) in
        inr (x ∷ [], y ∷ [], refl, ap (λ (t : ℕ). t ∷ []) e, ((refl, (hy, tt)), omega (arith, hi)))

-- year, then 01 to 13
abbrev pub Thirteen : List ℕ → Type 0
Thirteen = Then (Digits 2) (Between 2 1 13)

pub says_thirteen : Says thirteenPatterns Thirteen
unfolding codes value
says_thirteen =
    says_then (says_digits 2)
    (reworded
    (says_or (says_then (says_is "0" refl) (says_from_one 1 9 refl)) (says_then (says_is "1" refl) (says_up_to (codes "3") ((omega arith, omega arith), tt))))
    (λ f. (thirteen_in f, thirteen_out f)))

-- 14 behind a year that has it
abbrev pub Fourteenth : List ℕ → Type 0
Fourteenth = Then (OneOf fourteens) (Is "14")

-- these years are two digits, and 14 is written in one way
two_digits : (g : List ℕ) → OneOf fourteens g → Digits 2 g
unfolding every any_of fits_all fits texts codes
two_digits g m = ((says_digits 2).means g).0 (each_among (any_of (digits 2)) (texts fourteens) refl g m)

is_14 : (h : List ℕ) → Digits 2 h → value h ≡ 14 → Is "14" h
unfolding codes value
is_14 h d v =
    let r = as_two h d in
    let w : value (two r.0 r.1) ≡ 14 = ap value (sym r.4) ∙ v in
    let a : r.0 ≡ 1 = omega (arith, r.3) in
    let b : r.1 ≡ 4 = omega arith in
    r.4 ∙ ap₂ two a b

cycle_in : (f : List ℕ) → Or Thirteen Fourteenth f → Cycle f
unfolding codes value
cycle_in f (inl (g, h, e, d, (b, lo, hi))) = (g, h, e, d, (b, lo, omega (arith, hi, (bounds g d).0)))
cycle_in f (inr (g, h, e, m, q)) =
    let d : Digits 2 g = two_digits g m in
    let b : Between 2 1 14 h = subst (Between 2 1 14) (sym q) ((refl, ((omega arith, omega arith), ((omega arith, omega arith), tt))), omega arith, omega arith) in
    (g, h, e, d, subst (λ (n : ℕ). Between 2 1 n h) (sym ((fourteen_iff g d).1 m)) b)

cycle_out : (f : List ℕ) → Cycle f → Or Thirteen Fourteenth f
cycle_out f (g, h, e, d, (b, lo, hi)) = by (dec_lt 13 (value h))
  where
    by : Dec (13 < value h) → Or Thirteen Fourteenth f
    by (yes k) =
        let n : cycles_in (year_of (value g)) ≡ 14 = omega (arith, (bounds g d).1) in
        let v : value h ≡ 14 = omega arith in
        inr (g, h, e, (fourteen_iff g d).0 n, is_14 h b v)
    by (no k) = inl (g, h, e, d, (b, lo, omega arith))

pub cycle_iff : (f : List ℕ) → Or Thirteen Fourteenth f ↔ Cycle f
cycle_iff f = (cycle_in f, cycle_out f)

pub says_cycle : Says cyclePatterns Cycle
unfolding codes
says_cycle = reworded (says_or says_thirteen (says_then says_fourteens (says_is "14" refl))) cycle_iff
