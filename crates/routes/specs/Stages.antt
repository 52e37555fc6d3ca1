-- The stages that look at what stands around a record: 6 continuations, 7 order, 8 legs. Each is told where the key of a route ends, or
-- the head that a continuation shares with its primary, and in which column the continuation number stands.
-- Assumes nothing.
use Rattle.std.specs.Prelude.{ℕ, ◌+◌, Bool, cond, not, ◌&&◌, List, [], ◌∷◌, Option, None, Some, eqb, leb}
use Prim.Native.Char.{code}
use Rattle.slices.specs.Part.{part}
use Rattle.slices.specs.Order.{order, equal}
use Rattle.std.specs.declared.cmp.Ordering.{Ordering}
use Rattle.std.specs.declared.cmp.Ordering.TheVariants.{Less, Equal, Greater}
use Rattle.columns.specs.Rows.{byte_in}
use Rattle.columns.specs.Words.{columns}
use Rattle.columns.specs.declared.Kind.{Kind}
use Rattle.columns.specs.declared.Kind.TheVariants.{Primary, Continuation}
use Rattle.refusals.specs.Table.{continuation_head, route_not_later, sequence_not_risen, leg_pair, leg_ending, Verdict, Accepted, Refused}
use Rattle.leg.specs.Judge.{stage}
use Rattle.routes.specs.Pairs.{terminator_in, first_leg, last_leg, pair}

-- what was seen: the last primary, and the record before this one. Where there was none yet it is the empty record, whose every column
-- reads as 0: no number follows a 0, and every legal route is later than one of nothing but 0.
pub record Seen : Type 0 where
  pub primary : List ℕ
  pub before : List ℕ

abbrev pub seen : List ℕ → List ℕ → Seen
seen primary before = record { primary = primary; before = before }

abbrev pub nothing : Seen
nothing = seen [] []

-- columns 1 to some column
abbrev pub columns_to : ℕ → List ℕ → List ℕ
columns_to end rec = part end 0 rec

-- ---- 6

-- the continuation number after a number: 1 to 2, .., 9 to A, .., Y to Z; 0, which is none, after every other byte
unfoldable pub number_after : ℕ → ℕ
number_after b = cond (eqb b 57) 65 (cond (leb 49 b && leb b 56) (b + 1) (cond (leb 65 b && leb b 89) (b + 1) 0))

-- the first column, counted from c, in which two runs differ, or 0
unfoldable pub first_difference : ℕ → List ℕ → List ℕ → ℕ
first_difference c [] ys = 0
first_difference c (x ∷ xs) [] = c
first_difference c (x ∷ xs) (y ∷ ys) = cond (eqb x y) (first_difference (c + 1) xs ys) c

-- a column, where it is none of 0, which says that none was found
unfoldable pub found : ℕ → Option ℕ
found c = cond (eqb c 0) None (Some c)

-- the record is a primary 1, so its continuation has to come next
unfoldable pub awaits : ℕ → List ℕ → Bool
awaits number rec = eqb (byte_in number rec) (code "1")

-- a continuation has the number after that of the record before it, and the head of its primary; before a primary none is awaited
unfoldable pub continuation_column : (head number : ℕ) → Kind → Seen → List ℕ → ℕ
continuation_column head number Continuation s rec =
    cond (eqb (byte_in number rec) (number_after (byte_in number s.before)))
    (first_difference 1 (columns_to head s.primary) (columns_to head rec))
    number
continuation_column head number Primary s rec = cond (awaits number s.before) number 0

unfoldable pub continuation_stage : (head number : ℕ) → Kind → Seen → (place : ℕ) → List ℕ → Verdict
continuation_stage head number kind s place rec = stage (continuation_column head number kind s rec) (continuation_head place) Accepted

-- ---- 7

abbrev pub by_order : Ordering → Verdict → Verdict → Verdict → Verdict
by_order Less less level greater = less
by_order Equal less level greater = level
by_order Greater less level greater = greater

-- the sequence numbers of two primaries of one route rise
unfoldable pub sequence_stage : (primary : List ℕ) (place : ℕ) → List ℕ → Verdict
sequence_stage primary place rec =
    by_order (order (columns 27 29 primary) (columns 27 29 rec)) Accepted (Refused (sequence_not_risen place)) (Refused (sequence_not_risen place))

-- the routes of primaries rise; `level` judges two of one route
unfoldable pub order_stage : (key : ℕ) → Kind → (primary : List ℕ) (place : ℕ) → List ℕ → (level : Verdict) → Verdict
order_stage key Continuation primary place rec level = Accepted
order_stage key Primary primary place rec level =
    by_order (order (columns_to key primary) (columns_to key rec)) Accepted level (Refused (route_not_later place))

-- ---- 8

-- a primary follows the last one of its route, or is the first of it
unfoldable pub leg_stands : (key : ℕ) (primary : List ℕ) → List ℕ → Bool
leg_stands key primary rec =
    cond (equal (columns_to key primary) (columns_to key rec)) (pair (terminator_in primary) (terminator_in rec)) (first_leg rec)

unfoldable pub leg_stage : (key : ℕ) → Kind → (primary : List ℕ) (place : ℕ) → List ℕ → Verdict
leg_stage key Continuation primary place rec = Accepted
leg_stage key Primary primary place rec = cond (leg_stands key primary rec) Accepted (Refused (leg_pair place))

-- a leg that is the last of its route may end it
unfoldable pub ending_stage : (last : Bool) (place : ℕ) → List ℕ → Verdict
ending_stage last place rec = cond (last && not (last_leg rec)) (Refused (leg_ending place)) Accepted
