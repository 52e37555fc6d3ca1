-- The legs of a route: which may be its first, which its last, and which may follow which. The tables of LegTable decide; where a cell of the
-- page can't be read, the rule that stood before it does.
-- Assumes nothing.
use Rattle.std.specs.Prelude.{ℕ, ◌+◌, ◌*◌, ◌≡◌, Bool, true, false, not, ◌&&◌, ◌||◌, List, [], ◌∷◌, eqb, get_or}
use Prim.Native.Char.{code}
use Prim.Native.String.{String}
use Rattle.slices.specs.Part.{part, member}
use Rattle.slices.specs.Search.{first_at}
use Rattle.columns.specs.Patterns.{codes}
use Rattle.columns.specs.Rows.{byte_in}
use Rattle.columns.specs.Words.{columns}
use Rattle.leg.specs.Terminator.{name_of, terminator_number, terminator_of, among, ends_at_fix}
use Rattle.leg.specs.declared.terminator.Terminator.{Terminator}
use Rattle.routes.specs.LegTable.{named, page, RouteKind, kind, route_kinds, Cell}

abbrev pub terminator_in : List ℕ → Terminator
terminator_in rec = terminator_of (columns 48 49 rec)

-- the terminator is one of those that a text names
abbrev pub is_one : String → Terminator → Bool
is_one text t = among (name_of t) (named text)

-- ---- the rule that stood before the tables

-- "IF is only the first leg of a route."
unfoldable pub only_first : Terminator → Bool
only_first t = is_one "IF" t

-- "TF and RF are never first."
unfoldable pub never_first : Terminator → Bool
never_first t = is_one "TF RF" t

-- "TF, RF, HA, HF, HM, PI, FA, FC, FD and FM, when not first, follow one of IF, TF, CF, DF, AF, RF, HA, HF, HM."
unfoldable pub follows_fix : Terminator → Bool
follows_fix t = is_one "TF RF HA HF HM PI FA FC FD FM" t

-- the second may follow the first within a route
unfoldable pub old_pair : Terminator → Terminator → Bool
old_pair t u = not (only_first u) && (ends_at_fix t || not (follows_fix u))

-- ---- pairs

-- what stands on the page in the row of a leg and the column of the next, which are three apart
unfoldable pub mark : (leg next : Terminator) → ℕ
mark t u = get_or (codes (get_or page (terminator_number t + 1) "")) (terminator_number u * 3 + 3) 0

unfoldable pub readable : (leg next : Terminator) → Bool
readable t u = not (eqb (mark t u) (code "."))

-- "A footnoted cell permits. Cells that can't be read keep our old rule."
unfoldable pub pair : (leg next : Terminator) → Bool
pair t u = readable t u || old_pair t u

-- a table that has a line for each leg, and in it a cell for each that may come behind it: + where it may
pub record PairTable (table : List ℕ) : Type 0 where
  pub cell : (t u : Terminator) → eqb (get_or table (terminator_number t * 23 + terminator_number u) 0) (code "+") ≡ pair t u

-- ---- kinds of route

-- a route of this subsection and type is of the kind
unfoldable pub of_kind : (subsection type : ℕ) → RouteKind → Bool
of_kind subsection type k = eqb (code k.subsection) subsection && member type (codes k.types)

-- the same as a line of nineteen bytes says it, at a place of a table: the subsection, then types with blanks behind them; and where nine such
-- lines begin
unfoldable pub of_line : (table : List ℕ) (subsection type : ℕ) → (place : ℕ) → Bool
of_line t subsection type p = eqb (get_or t p 0) subsection && (not (eqb type 32) && member type (part 18 (p + 1) t))

unfoldable pub kind_lines : List ℕ
kind_lines = 0 ∷ 19 ∷ 38 ∷ 57 ∷ 76 ∷ 95 ∷ 114 ∷ 133 ∷ 152 ∷ []

-- the place of a record's kind among the nine, by columns 13 and 20; 9 where it is of none
unfoldable pub kind_number : List ℕ → ℕ
kind_number rec = first_at (of_kind (byte_in 13 rec) (byte_in 20 rec)) route_kinds

-- a kind by its place; one that has no legs past the last
unfoldable pub kind_at : ℕ → RouteKind
kind_at n = get_or route_kinds n (kind "" " " "" "" "")

-- the legs that may begin, and that may end, a route of a kind
unfoldable pub may_begin : (kind : ℕ) → Terminator → Bool
may_begin k t = is_one (kind_at k).first t

unfoldable pub may_end : (kind : ℕ) → Terminator → Bool
may_end k t = is_one (kind_at k).last t

-- the record may be the first leg of its route, and the last one
unfoldable pub first_leg : List ℕ → Bool
first_leg rec = may_begin (kind_number rec) (terminator_in rec)

unfoldable pub last_leg : List ℕ → Bool
last_leg rec = may_end (kind_number rec) (terminator_in rec)

-- ---- how the tables stand to the rule before them

-- elsewhere than at the listed cells a table says the same, and at each of these the contrary
pub record Agreement (listed new old : Bool) : Type 0 where
  pub elsewhere : listed ≡ false → new ≡ old
  pub there : listed ≡ true → new ≡ not old

-- a leg and the next are one of some cells
unfoldable pub listed : List Cell → (leg next : Terminator) → Bool
listed [] t u = false
listed (c ∷ cs) t u = (is_one c.leg t && is_one c.next u) || listed cs t u
