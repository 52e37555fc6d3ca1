-- Worked vectors, by evaluation: the sample records, changed in some columns, and the answer to each. Every
-- row of paper 01's table has at least one good content and one bad one.
-- Assumes nothing.
use mathlib.Core.Path.{◌≡◌, refl}
use mathlib.Core.Bool.{Bool, true, cond, ◌&&◌}
use mathlib.Core.List.{List, [], ◌∷◌, ◌++◌, Memᴰ}
use Prim.Native.Nat.{ℕ, ◌-◌}
use lib.Dec.{eqb}
use lib.ListN.{take, set}
use borrow.Author.Tests.{eqb-true}
use Rattle.slices.specs.Part.{part}
use Rattle.slices.proofs.Cases.{split, and_left, and_right}
use Rattle.slices.proofs.EveryLaws.{every, each_among}
use Rattle.columns.specs.ByteSets.{fits}
use Rattle.columns.specs.Patterns.{fits_all, codes}
use Rattle.columns.specs.Rows.{Row, stands, matches, row_ok, first_of, first_bad}
use Rattle.columns.specs.Stops.{run, longest, stop_of, first_stop}
use Rattle.columns.specs.Layout.{primary, continuation}
use Rattle.columns.specs.Kinds.{kind_of, layout_of, first_bad_field, bad_byte}
use Rattle.columns.specs.Samples.{◌at◌is◌, approach, notes}

-- a record, the first column of its leftmost bad field, and the column of the bad byte in it; 0 for none
record Vector : Type 0 where
  content : List ℕ
  field : ℕ
  byte : ℕ

infixl 80 ◌at◌holds◌
infix 75 ◌gives◌ ◌gives◌byte◌
-- a record with one byte that no text can show
◌at◌holds◌ : List ℕ → ℕ → ℕ → List ℕ
rec at c holds b = set rec (c - 1) b

◌gives◌byte◌ : List ℕ → ℕ → ℕ → Vector
rec gives c byte b = record { content = rec; field = c; byte = b }

-- the first byte of the field is the bad one
◌gives◌ : List ℕ → ℕ → Vector
rec gives c = rec gives c byte c

Worked : Vector → Type 0
Worked v = (first_bad_field v.content ≡ v.field) × (bad_byte v.content ≡ v.byte)

-- Computed in one walk for both columns, since the walks are what takes time: the rows from the first on that is not right, and what that one
-- answers.
from_bad : List Row → List ℕ → List Row
from_bad [] rec = []
from_bad (r ∷ rs) rec = cond (row_ok r rec) (from_bad rs rec) (r ∷ rs)

answers : List Row → Vector → Bool
answers [] v = eqb 0 v.field && eqb 0 v.byte
answers (r ∷ rs) v = eqb r.column v.field && eqb (stop_of r v.content) v.byte

right : Vector → Bool
right v = answers (from_bad (layout_of (kind_of v.content)) v.content) v

both_columns : (rs : List Row) (v : Vector) → answers (from_bad rs v.content) v ≡ true
    → (first_bad rs v.content ≡ v.field) × (first_stop rs v.content ≡ v.byte)
unfolding answers from_bad first_of
both_columns [] v e =
    let first = eqb 0 v.field in
    let stop = eqb 0 v.byte in
    (eqb-true 0 v.field (and_left first stop e), eqb-true 0 v.byte (and_right first stop e))
both_columns (r ∷ rs) v e =
    split (row_ok r v.content) (λ ok. rw ok (both_columns rs v (rw ok at e))) (λ ok. rw ok (found (rw ok at e)))
  where
    found : answers (r ∷ rs) v ≡ true → (r.column ≡ v.field) × (stop_of r v.content ≡ v.byte)
    found h =
        let first = eqb r.column v.field in
        let stop = eqb (stop_of r v.content) v.byte in
        (eqb-true r.column v.field (and_left first stop h), eqb-true (stop_of r v.content) v.byte (and_right first stop h))

-- columns 1 to 38
of_front : List Vector
of_front =
    approach gives 0 ∷
    approach at 1 is "T" gives 0 ∷
    approach at 1 is "X" gives 1 ∷
    approach at 2 is "A-1" gives 0 ∷
    approach at 2 is "A  " gives 0 ∷
    approach at 2 is "A 1" gives 2 byte 4 ∷
    approach at 2 is "   " gives 2 ∷
    approach at 2 is "a  " gives 2 ∷
    approach at 2 is "A b" gives 2 byte 4 ∷
    approach at 5 is "H" gives 5 ∷
    approach at 6 is "A" gives 6 ∷
    approach at 7 is "K   " gives 0 ∷
    approach at 7 is " KSE" gives 7 ∷
    approach at 11 is "2A" gives 0 ∷
    approach at 11 is "K " gives 11 byte 12 ∷
    approach at 13 is "D" at 20 is "2" gives 0 ∷
    approach at 13 is "P" gives 13 ∷
    approach at 14 is "A-1 B " gives 0 ∷
    approach at 14 is " ILS  " gives 14 ∷
    approach at 14 is "ILS16/" gives 14 byte 19 ∷
    approach at 13 is "D" at 20 is "0" gives 0 ∷
    approach at 13 is "E" at 20 is "9" gives 0 ∷
    approach at 20 is "Z" gives 0 ∷
    approach at 13 is "D" at 20 is "9" gives 20 ∷
    approach at 13 is "E" at 20 is "0" gives 20 ∷
    approach at 20 is "H" gives 20 ∷
    approach at 20 is " " gives 20 ∷
    approach at 21 is "ALL  " gives 0 ∷
    approach at 21 is "A B  " gives 21 byte 23 ∷
    approach at 26 is "0" gives 26 ∷
    approach at 27 is "001" gives 0 ∷
    approach at 27 is "999" gives 0 ∷
    approach at 27 is "000" gives 27 byte 29 ∷
    approach at 27 is " 10" gives 27 ∷
    approach at 27 is "10 " gives 27 byte 29 ∷
    approach at 27 is "0A0" gives 27 byte 28 ∷
    approach at 30 is "A    " gives 0 ∷
    approach at 30 is "     " gives 0 ∷
    approach at 30 is " A   " gives 30 byte 31 ∷
    approach at 35 is "  " gives 0 ∷
    approach at 35 is "K " gives 35 byte 36 ∷
    approach at 37 is " " gives 0 ∷
    approach at 37 is "1" gives 37 ∷
    approach at 38 is " " gives 0 ∷
    approach at 38 is "-" gives 38 ∷
    []

-- columns 39 to 123 of a primary record
of_leg : List Vector
of_leg =
    approach at 39 is "1" gives 0 ∷
    approach at 39 is "/" gives 39 ∷
    approach at 39 is " " gives 39 ∷
    approach at 40 is " " gives 0 ∷
    approach at 40 is "B" gives 40 ∷
    approach at 41 is "Y" gives 0 ∷
    approach at 41 is "A" gives 41 ∷
    approach at 42 is "S" gives 0 ∷
    approach at 42 is "D" gives 42 ∷
    approach at 43 is "M" gives 0 ∷
    approach at 43 is "G" gives 43 ∷
    approach at 44 is "E" gives 0 ∷
    approach at 44 is "Y" gives 44 ∷
    approach at 45 is "000" gives 0 ∷
    approach at 45 is "01 " gives 45 byte 47 ∷
    approach at 48 is "HM" gives 0 ∷
    approach at 48 is "TF" gives 0 ∷
    approach at 48 is "XF" gives 48 ∷
    approach at 48 is "  " gives 48 ∷
    approach at 48 is "CX" gives 48 byte 49 ∷
    approach at 48 is "C " gives 48 byte 49 ∷
    approach at 50 is "Y" gives 0 ∷
    approach at 50 is "N" gives 50 ∷
    approach at 51 is "I   " gives 0 ∷
    approach at 51 is "I  A" gives 51 byte 54 ∷
    approach at 55 is "  " gives 0 ∷
    approach at 55 is " K" gives 55 byte 56 ∷
    approach at 57 is "000000" gives 0 ∷
    approach at 57 is "12345 " gives 57 byte 62 ∷
    approach at 63 is "3600" gives 0 ∷
    approach at 63 is "    " gives 0 ∷
    approach at 63 is "3601" gives 63 byte 66 ∷
    approach at 63 is "36 0" gives 63 byte 65 ∷
    approach at 63 is "3700" gives 63 byte 64 ∷
    approach at 63 is "4000" gives 63 ∷
    approach at 67 is "9999" gives 0 ∷
    approach at 67 is " 060" gives 67 byte 68 ∷
    approach at 71 is "3600" gives 0 ∷
    approach at 71 is "360T" gives 0 ∷
    approach at 71 is "000T" gives 0 ∷
    approach at 71 is "3601" gives 71 byte 74 ∷
    approach at 71 is "361T" gives 71 byte 73 ∷
    approach at 71 is "37 T" gives 71 byte 72 ∷
    approach at 75 is "0000" gives 0 ∷
    approach at 48 is "HM" at 75 is "T010" gives 0 ∷
    approach at 75 is "T010" gives 75 ∷
    approach at 48 is "HM" at 75 is "T01 " gives 75 byte 78 ∷
    approach at 48 is "HM" at 75 is "TT10" gives 75 byte 76 ∷
    approach at 79 is " " gives 0 ∷
    approach at 79 is "5" gives 79 ∷
    approach at 80 is "0" gives 0 ∷
    approach at 80 is "-" gives 80 ∷
    approach at 81 is " A" gives 81 byte 82 ∷
    approach at 83 is "B" gives 0 ∷
    approach at 83 is " " gives 0 ∷
    approach at 83 is "@" gives 83 ∷
    approach at 84 is "S" gives 0 ∷
    approach at 84 is "B" gives 84 ∷
    approach at 85 is "FL180" gives 0 ∷
    approach at 85 is "-0120" gives 0 ∷
    approach at 85 is "     " gives 0 ∷
    approach at 85 is "-0000" gives 85 byte 89 ∷
    approach at 85 is " 1500" gives 85 byte 86 ∷
    approach at 85 is "1500 " gives 85 byte 89 ∷
    approach at 85 is "FL18 " gives 85 byte 89 ∷
    approach at 85 is "FX180" gives 85 byte 86 ∷
    approach at 90 is "-0001" gives 0 ∷
    approach at 90 is "FL18 " gives 90 byte 94 ∷
    approach at 95 is "     " gives 0 ∷
    approach at 95 is "FL180" gives 95 ∷
    approach at 100 is "000" gives 0 ∷
    approach at 100 is "21 " gives 100 byte 102 ∷
    approach at 103 is "-000" gives 0 ∷
    approach at 103 is "0300" gives 103 ∷
    approach at 103 is "-30 " gives 103 byte 106 ∷
    approach at 107 is "CF16R" gives 0 ∷
    approach at 107 is "CF 6R" gives 107 byte 110 ∷
    approach at 112 is "A" gives 0 ∷
    approach at 112 is "+" gives 112 ∷
    approach at 113 is "K1" gives 0 ∷
    approach at 113 is "K-" gives 113 byte 114 ∷
    approach at 115 is "P" gives 0 ∷
    approach at 115 is "p" gives 115 ∷
    approach at 116 is "C" gives 0 ∷
    approach at 116 is "_" gives 116 ∷
    approach at 117 is "5" gives 0 ∷
    approach at 117 is "." gives 117 ∷
    approach at 118 is "-" gives 118 ∷
    approach at 119 is "D" gives 0 ∷
    approach at 119 is "/" gives 119 ∷
    approach at 120 is "S" gives 0 ∷
    approach at 120 is "=" gives 120 ∷
    approach at 121 is "  A" gives 121 byte 123 ∷
    []

-- columns 124 to 132, and the leftmost of several
of_back : List Vector
of_back =
    approach at 124 is "00000" gives 0 ∷
    approach at 124 is "1234 " gives 124 byte 128 ∷
    approach at 129 is "0001" gives 0 ∷
    approach at 129 is "2013" gives 0 ∷
    approach at 129 is "2014" gives 0 ∷
    approach at 129 is "2015" gives 129 byte 132 ∷
    approach at 129 is "2114" gives 129 byte 132 ∷
    approach at 129 is "4214" gives 129 byte 132 ∷
    approach at 129 is "4314" gives 0 ∷
    approach at 129 is "6414" gives 129 byte 132 ∷
    approach at 129 is "6514" gives 0 ∷
    approach at 129 is "7614" gives 129 byte 132 ∷
    approach at 129 is "9714" gives 129 byte 132 ∷
    approach at 129 is "9814" gives 0 ∷
    approach at 129 is "9914" gives 129 byte 132 ∷
    approach at 129 is "2000" gives 129 byte 132 ∷
    approach at 129 is "201 " gives 129 byte 132 ∷
    approach at 129 is "2020" gives 129 byte 131 ∷
    approach at 129 is "A001" gives 129 ∷
    approach at 85 is "-0000" at 63 is "3601" at 129 is "2114" gives 63 byte 66 ∷
    []

-- a continuation
of_continuation : List Vector
of_continuation =
    notes gives 0 ∷
    notes at 39 is "9" gives 0 ∷
    notes at 39 is "Z" gives 0 ∷
    notes at 40 is "P" gives 0 ∷
    notes at 40 is "E" gives 40 ∷
    notes at 41 is "~ any byte that can be printed, small letters too" gives 0 ∷
    notes at 48 is "XF" gives 0 ∷
    notes at 41 holds 126 gives 0 ∷
    notes at 61 holds 31 gives 41 byte 61 ∷
    notes at 123 holds 127 gives 41 byte 123 ∷
    notes at 1 is "X" gives 1 ∷
    notes at 13 is "D" gives 20 ∷
    notes at 27 is "000" gives 27 byte 29 ∷
    notes at 124 is "1234 " gives 124 byte 128 ∷
    notes at 129 is "2014" gives 0 ∷
    notes at 129 is "9814" gives 0 ∷
    notes at 129 is "2114" gives 129 byte 132 ∷
    []

-- slices of any other length and content: a byte that is missing is legal nowhere, and what is past column 132 is not looked at
of_any_slice : List Vector
of_any_slice =
    [] gives 1 ∷
    take 1 approach gives 2 ∷
    take 38 approach gives 39 ∷
    take 131 approach gives 129 byte 132 ∷
    take 87 approach gives 85 byte 88 ∷
    (approach ++ codes "x") gives 0 ∷
    approach at 30 holds 0 gives 30 ∷
    approach at 86 holds 0 gives 85 byte 86 ∷
    approach at 117 holds 255 gives 117 ∷
    []

vectors : List Vector
vectors = of_front ++ of_leg ++ of_back ++ of_continuation ++ of_any_slice

computed : every right vectors ≡ true
unfolding every right answers from_bad vectors of_front of_leg of_back of_continuation of_any_slice ◌at◌is◌ ◌at◌holds◌ ◌gives◌ ◌gives◌byte◌ approach notes run longest layout_of kind_of matches stands fits_all fits part primary continuation
computed = refl

-- Each vector's record is answered by its two columns.
worked : (v : Vector) → Memᴰ v vectors → Worked v
unfolding Worked right first_bad_field bad_byte
worked v m = both_columns (layout_of (kind_of v.content)) v (each_among right vectors computed v m)
