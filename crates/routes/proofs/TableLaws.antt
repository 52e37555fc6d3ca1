-- Attachment 5's tables: the code holds in each cell what the definitions say of it, and they say what the rule before them said, but for the
-- stated differences. One computed test over each table, and a law that carries it to every cell.
-- Assumes nothing.
use mathlib.Core.Path.{◌≡◌, refl, sym, ap, subst, ◌∙◌}
use mathlib.Core.Bool.{Bool, true, false, cond, not, ◌&&◌, ◌||◌, or-false}
use mathlib.Core.List.{List, [], ◌∷◌, ◌++◌, map}
use Prim.Native.Nat.{ℕ, ◌+◌, ◌-◌, ◌*◌, ◌≤◌, ◌<◌}
use Prim.Native.Char.{code}
use Prim.Native.String.{String}
use native.Mathlib.Omega.{arith}
use native.Mathlib.Decide.{dec_lt}
use lib.Dec.{eqb, ltb}
use lib.ListN.{length, get_or, replicate}
use borrow.Author.Tests.{eqb-true, eqb-false, eq-eqb, ne_eqb, ltb-true}
use Rattle.slices.specs.Part.{part, member}
use Rattle.slices.proofs.PartLaws.{member_append, member_replicate}
use Rattle.slices.proofs.SearchLaws.{first_within}
use Rattle.slices.proofs.EveryLaws.{every, every_at, each_member, below, each_below}
use Rattle.slices.proofs.OrderLaws.{equal_iff}
use Rattle.slices.specs.Order.{order, equal}
use Rattle.slices.specs.Search.{first_at}
use Rattle.slices.proofs.Cases.{split, and_left, and_right}
use Rattle.columns.specs.Rows.{byte_in}
use Rattle.columns.specs.Patterns.{codes, texts}
use Rattle.columns.specs.Terminators.{terminators}
use Rattle.leg.specs.Terminator.{in_order, terminator_number, name_of, terminator_at, terminator_of, among, ends_at_fix}
use Rattle.leg.specs.declared.terminator.Terminator.{Terminator}
use Rattle.leg.specs.declared.terminator.Terminator.TheVariants.{Vr}
use Rattle.leg.proofs.TerminatorLaws.{row_of, past}
use Rattle.routes.specs.LegTable.{named, page, RouteKind, route_kinds, pair_differences, first_differences, last_differences}
use Rattle.routes.specs.Pairs.{is_one, only_first, never_first, follows_fix, old_pair, mark, readable, pair, PairTable, of_kind, of_line, kind_lines, kind_number, kind_at, may_begin, may_end, Agreement, listed}

-- ---- a test over the whole, carried to each

-- of all terminators
module _ (p : Terminator → Bool) (e : every p in_order ≡ true) where
  at_number : (n : ℕ) → p (terminator_at n) ≡ true
  unfolding terminator_at in_order
  at_number n = by (dec_lt n 23)
    where
      by : Dec (n < 23) → p (terminator_at n) ≡ true
      by (yes h) = every_at p in_order Vr n e h
      by (no h) = rw (past n (omega arith)) (every_at p in_order Vr 22 e (omega arith))

  each_terminator : (t : Terminator) → p t ≡ true
  unfolding terminator_of
  each_terminator t = subst (λ (u : Terminator). p u ≡ true) (row_of t).its_name (at_number (first_at (equal (name_of t)) (texts terminators)))

-- two tests have the same answer
alike : Bool → Bool → Bool
alike a b = cond a b (not b)

alike_same : (a b : Bool) → alike a b ≡ true → a ≡ b
unfolding alike
alike_same true true e = refl
alike_same true false e = sym e
alike_same false true e = e
alike_same false false e = refl

-- ---- how a table stands to the rule before it

turned : Bool → Bool → Bool
turned listed old = cond listed (not old) old

agreement : (listed new old : Bool) → new ≡ turned listed old → Agreement listed new old
unfolding turned
agreement listed new old e = record { elsewhere = λ q. e ∙ rw q; there = λ q. e ∙ rw q }

-- ---- pairs

-- the code's tables: a plus where a leg may stand, and a minus where not
sign : Bool → ℕ
sign b = cond b 43 45

joined : List (List ℕ) → List ℕ
joined [] = []
joined (x ∷ xs) = x ++ joined xs

unfoldable pub pairs_table : List ℕ
unfolding joined sign in_order pair readable mark page codes old_pair only_first follows_fix ends_at_fix among name_of texts terminators named equal order terminator_number
pairs_table = joined (map (λ t. map (λ u. sign (pair t u)) in_order) in_order)

-- the marks of the page, by name
unfoldable pub marked : (leg next : Terminator) → Bool
marked t u = (is_one "IF" t && is_one "FA FC FD FM HA HF HM IF PI RF" u) || (is_one "CF DF FC" t && is_one "DF" u)

-- of one cell: the code holds it, the marks are those by name, and the old rule is kept or turned
held : Terminator → Terminator → Bool
held t u = alike (eqb (get_or pairs_table (terminator_number t * 23 + terminator_number u) 0) 43) (pair t u)

by_name : Terminator → Terminator → Bool
by_name t u = alike (readable t u) (marked t u)

kept : Terminator → Terminator → Bool
kept t u = alike (pair t u) (turned (listed pair_differences t u) (old_pair t u))

cell : Terminator → Terminator → Bool
cell t u = held t u && (by_name t u && kept t u)

all_cells : every (λ t. every (cell t) in_order) in_order ≡ true
unfolding every cell held by_name kept alike turned listed pair_differences marked sign joined pairs_table pair readable mark page codes old_pair only_first follows_fix ends_at_fix among name_of texts terminators named equal order in_order terminator_number
all_cells = refl

module _ (t u : Terminator) where
  cell_of : cell t u ≡ true
  cell_of = each_terminator (cell t) (each_terminator (λ v. every (cell v) in_order) all_cells t) u

  -- the code's cell, and the marks, for each pair
  pub pair_cell : eqb (get_or pairs_table (terminator_number t * 23 + terminator_number u) 0) 43 ≡ pair t u
  unfolding cell held
  pair_cell = alike_same _ _ (and_left (held t u) (by_name t u && kept t u) cell_of)

  pub marks_named : readable t u ≡ marked t u
  unfolding cell by_name
  marks_named = alike_same _ _ (and_left (by_name t u) (kept t u) (and_right (held t u) (by_name t u && kept t u) cell_of))

  -- "it agrees with our old rule at every cell but those in a stated list, and differs at each of those"
  pub pairs_agree : Agreement (listed pair_differences t u) (pair t u) (old_pair t u)
  unfolding cell kept
  pairs_agree =
      agreement (listed pair_differences t u) (pair t u) (old_pair t u) (alike_same _ _ (and_right (by_name t u) (kept t u) (and_right (held t u) (by_name t u && kept t u) cell_of)))

pub pairs_table_lem : PairTable pairs_table
pairs_table_lem = record { cell = λ t u. pair_cell t u }

-- the page's columns and its rows are headed by the names in their order, so a mark is read under its own
head_of_column : Terminator → List ℕ
head_of_column t = part 2 (terminator_number t * 3 + 3) (codes (get_or page 0 ""))

head_of_row : Terminator → List ℕ
head_of_row t = part 2 0 (codes (get_or page (terminator_number t + 1) ""))

is_headed : Terminator → Bool
is_headed t = equal (head_of_column t) (name_of t) && equal (head_of_row t) (name_of t)

all_headed : every is_headed in_order ≡ true
unfolding every is_headed head_of_column head_of_row page codes part name_of texts terminators equal order in_order terminator_number
all_headed = refl

pub headed : (t : Terminator) → (part 2 (terminator_number t * 3 + 3) (codes (get_or page 0 "")) ≡ name_of t)
    × (part 2 0 (codes (get_or page (terminator_number t + 1) "")) ≡ name_of t)
unfolding is_headed head_of_column head_of_row
headed t =
    let both = each_terminator is_headed all_headed t in (
      (equal_iff (head_of_column t) (name_of t)).0 (and_left (equal (head_of_column t) (name_of t)) (equal (head_of_row t) (name_of t)) both),
      (equal_iff (head_of_row t) (name_of t)).0 (and_right (equal (head_of_column t) (name_of t)) (equal (head_of_row t) (name_of t)) both),
    )

-- ---- first and last legs

unfoldable pub beginnings_table : List ℕ
unfolding joined sign in_order route_kinds among name_of texts codes terminators named equal order terminator_number
beginnings_table = joined (map (λ k. map (λ t. sign (is_one k.first t)) in_order) route_kinds)

unfoldable pub endings_table : List ℕ
unfolding joined sign in_order route_kinds among name_of texts codes terminators named equal order terminator_number
endings_table = joined (map (λ k. map (λ t. sign (is_one k.last t)) in_order) route_kinds)

-- of one cell: the code holds it, and the old rule is kept or turned; past the nine kinds there are no legs, and was no rule
held_first : ℕ → Terminator → Bool
held_first n t = alike (eqb (get_or beginnings_table (n * 23 + terminator_number t) 0) 43) (may_begin n t)

held_last : ℕ → Terminator → Bool
held_last n t = alike (eqb (get_or endings_table (n * 23 + terminator_number t) 0) 43) (may_end n t)

kept_first : ℕ → Terminator → Bool
kept_first n t = eqb n 9 || alike (may_begin n t) (turned (is_one (get_or first_differences n "") t) (not (never_first t)))

kept_last : ℕ → Terminator → Bool
kept_last n t = eqb n 9 || alike (may_end n t) (turned (is_one (get_or last_differences n "") t) true)

kind_cell : ℕ → Terminator → Bool
kind_cell n t = (held_first n t && held_last n t) && (kept_first n t && kept_last n t)

all_kinds : every (λ n. every (kind_cell n) in_order) (below 10) ≡ true
unfolding every below kind_cell held_first held_last kept_first kept_last alike turned sign joined beginnings_table endings_table may_begin may_end kind_at route_kinds first_differences last_differences never_first among name_of texts codes terminators named equal order in_order terminator_number
all_kinds = refl

module _ (n : ℕ) (t : Terminator) (h : n ≤ 9) where
  kind_cell_lem : ((held_first n t && held_last n t) && (kept_first n t && kept_last n t)) ≡ true
  unfolding kind_cell
  kind_cell_lem = each_terminator (kind_cell n) (each_below (λ m. every (kind_cell m) in_order) 10 all_kinds n (omega arith)) t

  held_both : (held_first n t && held_last n t) ≡ true
  held_both = and_left (held_first n t && held_last n t) (kept_first n t && kept_last n t) kind_cell_lem

  kept_both : (kept_first n t && kept_last n t) ≡ true
  kept_both = and_right (held_first n t && held_last n t) (kept_first n t && kept_last n t) kind_cell_lem

  pub beginning_cell : eqb (get_or beginnings_table (n * 23 + terminator_number t) 0) 43 ≡ may_begin n t
  unfolding held_first
  beginning_cell = alike_same _ _ (and_left (held_first n t) (held_last n t) held_both)

  pub ending_cell : eqb (get_or endings_table (n * 23 + terminator_number t) 0) 43 ≡ may_end n t
  unfolding held_last
  ending_cell = alike_same _ _ (and_right (held_first n t) (held_last n t) held_both)

module _ (n : ℕ) (t : Terminator) (h : n < 9) where
  -- the same of the beginnings, against "TF and RF are never first", and of the endings, against "any leg may end a route"
  pub beginnings_agree : Agreement (is_one (get_or first_differences n "") t) (may_begin n t) (not (never_first t))
  unfolding kept_first
  beginnings_agree =
      agreement _ _ _ (alike_same _ _ (rw (ne_eqb n 9 (λ e. omega arith)) at (and_left (kept_first n t) (kept_last n t) (kept_both n t (omega arith)))))

  pub endings_agree : Agreement (is_one (get_or last_differences n "") t) (may_end n t) true
  unfolding kept_last
  endings_agree =
      agreement _ _ _ (alike_same _ _ (rw (ne_eqb n 9 (λ e. omega arith)) at (and_right (kept_first n t) (kept_last n t) (kept_both n t (omega arith)))))

-- ---- kinds of route

-- every route type of a kind is of that kind, and of no other
types_of : ℕ → Bool
types_of n = every (λ b. eqb (first_at (of_kind (code (kind_at n).subsection) b) route_kinds) n) (codes (kind_at n).types)

all_types : every types_of (below 9) ≡ true
unfolding every below types_of of_kind kind_at route_kinds first_at member codes
all_types = refl

pub kind_of_lem : (n : ℕ) → n < 9 → (b : ℕ) → member b (codes (kind_at n).types) ≡ true → first_at (of_kind (code (kind_at n).subsection) b) route_kinds ≡ n
unfolding types_of
kind_of_lem n h b m =
    eqb-true _ n
    (each_member (λ (x : ℕ). eqb (first_at (of_kind (code (kind_at n).subsection) x) route_kinds) n) (codes (kind_at n).types) (each_below types_of 9 all_types n h) b m)

-- and every route type of 5.7 is of one of the nine: those of a departure, of an arrival, of an approach
typed : ℕ → ℕ → Bool
typed s b = ltb (first_at (of_kind s b) route_kinds) 9

departures_typed : every (typed (code "D")) (codes "0123456FMSTV") ≡ true
unfolding every typed of_kind route_kinds first_at member codes
departures_typed = refl

arrivals_typed : every (typed (code "E")) (codes "123456789FMS") ≡ true
unfolding every typed of_kind route_kinds first_at member codes
arrivals_typed = refl

approaches_typed : every (typed (code "F")) (codes "ABEFGIJKLMNPRTUVWXYZ") ≡ true
unfolding every typed of_kind route_kinds first_at member codes
approaches_typed = refl

has_kind : (s : ℕ) (types : String) → every (typed s) (codes types) ≡ true → (b : ℕ) → member b (codes types) ≡ true → first_at (of_kind s b) route_kinds < 9
unfolding typed
has_kind s types e b m = ltb-true (first_at (of_kind s b) route_kinds) 9 (each_member (λ (x : ℕ). ltb (first_at (of_kind s x) route_kinds) 9) (codes types) e b m)

module _ (b : ℕ) where
  pub departure_kind : member b (codes "0123456FMSTV") ≡ true → first_at (of_kind (code "D") b) route_kinds < 9
  departure_kind = has_kind (code "D") "0123456FMSTV" departures_typed b

  pub arrival_kind : member b (codes "123456789FMS") ≡ true → first_at (of_kind (code "E") b) route_kinds < 9
  arrival_kind = has_kind (code "E") "123456789FMS" arrivals_typed b

  pub approach_kind : member b (codes "ABEFGIJKLMNPRTUVWXYZ") ≡ true → first_at (of_kind (code "F") b) route_kinds < 9
  approach_kind = has_kind (code "F") "ABEFGIJKLMNPRTUVWXYZ" approaches_typed b

-- the code's lines of the kinds, with blanks behind the types up to eighteen
unfoldable pub kinds_table : List ℕ
unfolding joined route_kinds codes
kinds_table = joined (map (λ k. code k.subsection ∷ (codes k.types ++ replicate (18 - length (codes k.types)) 32)) route_kinds)

-- a blank is no route type, so those behind the types change nothing
without_blanks : (b : ℕ) (xs : List ℕ) (n : ℕ) → member 32 xs ≡ false → (not (eqb b 32) && member b (xs ++ replicate n 32)) ≡ member b xs
without_blanks b xs n h =
    split (eqb b 32) (λ e. let q : b ≡ 32 = eqb-true b 32 e in rw q (sym h))
    (λ e.
    rw (e, member_append b xs (replicate n 32), member_replicate b 32 n (λ q. eqb-false b 32 e (sym q))) (or-false (member b xs)))

-- the first that passes, of two lists whose tests have the same answers
abbrev Alike : (ℕ → Bool) → (RouteKind → Bool) → List ℕ → List RouteKind → Type 0
Alike p q [] [] = Unit {0}
Alike p q [] (k ∷ ks) = ⊥
Alike p q (x ∷ xs) [] = ⊥
Alike p q (x ∷ xs) (k ∷ ks) = (p x ≡ q k) × Alike p q xs ks

alike_first : (p : ℕ → Bool) (q : RouteKind → Bool) (xs : List ℕ) (ks : List RouteKind) → Alike p q xs ks → first_at p xs ≡ first_at q ks
unfolding first_at
alike_first p q [] [] a = refl
alike_first p q [] (k ∷ ks) a = absurd a
alike_first p q (x ∷ xs) [] a = absurd a
alike_first p q (x ∷ xs) (k ∷ ks) a = rw (a.0, alike_first p q xs ks a.1)

module _ (s b : ℕ) where
  -- a line says what its kind does
  line_is : (k : RouteKind) (n : ℕ) → member 32 (codes k.types) ≡ false
      → (eqb (code k.subsection) s && (not (eqb b 32) && member b (codes k.types ++ replicate n 32))) ≡ of_kind s b k
  unfolding of_kind
  line_is k n h = ap (λ (t : Bool). eqb (code k.subsection) s && t) (without_blanks b (codes k.types) n h)

  lines_alike : Alike (of_line kinds_table s b) (of_kind s b) kind_lines route_kinds
  unfolding of_line kinds_table kind_lines route_kinds codes member part
  lines_alike =
      (line_is _ 13 refl, (line_is _ 15 refl, (line_is _ 14 refl, (line_is _ 14 refl, (line_is _ 14 refl, (line_is _ 14 refl, (line_is _ 17 refl, (line_is _ 0 refl, (line_is _ 17 refl, tt)))))))))

pub kind_found : (rec : List ℕ) {n : ℕ} → n ≡ first_at (of_line kinds_table (byte_in 13 rec) (byte_in 20 rec)) kind_lines → (n ≡ kind_number rec) × (n ≤ 9)
unfolding kind_number kind_lines
kind_found rec {n} e =
    (e ∙ alike_first _ _ kind_lines route_kinds (lines_alike (byte_in 13 rec) (byte_in 20 rec)), rw e (first_within (of_line kinds_table (byte_in 13 rec) (byte_in 20 rec)) kind_lines))

all_lines : every (λ j. eqb (get_or kind_lines j 0) (j * 19)) (below 9) ≡ true
unfolding every below kind_lines
all_lines = refl

-- the test that the search makes at one line
pub line_at : (i : ℕ) → i < 9 → get_or kind_lines i 0 ≡ i * 19
line_at i h = eqb-true _ _ (each_below (λ (j : ℕ). eqb (get_or kind_lines j 0) (j * 19)) 9 all_lines i h)

module _ (t : List ℕ) (s b i : ℕ) {subsection type first : ℕ} (h : i < 9) (p : subsection ≡ s) (q : type ≡ b) (f : first ≡ get_or t (i * 19) 0) where
  line_test : {held : Bool} → held ≡ member type (part 18 (i * 19 + 1) t) → of_line t s b (get_or kind_lines i 0) ≡ (eqb first subsection && (not (eqb type 32) && held))
  unfolding of_line
  line_test e = rw (line_at i h, e, f, p, q)

  pub other_subsection : (first ≡ subsection → ⊥) → of_line t s b (get_or kind_lines i 0) ≡ false
  other_subsection n = line_test refl ∙ rw (ne_eqb first subsection n)

  -- .. of its subsection: the type decides
  module _ (same : first ≡ subsection) where
    pub no_type : type ≡ 32 → of_line t s b (get_or kind_lines i 0) ≡ false
    no_type n = line_test refl ∙ rw (eq-eqb first subsection same, eq-eqb type 32 n)

    pub by_type : (type ≡ 32 → ⊥) → {held v : Bool} → held ≡ member type (part 18 (i * 19 + 1) t) → held ≡ v → of_line t s b (get_or kind_lines i 0) ≡ v
    by_type n e w = line_test e ∙ rw (eq-eqb first subsection same, ne_eqb type 32 n) w

pub nine_lines : length kind_lines ≡ 9
unfolding kind_lines
nine_lines = refl
