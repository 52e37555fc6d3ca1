-- Which kind a record is, and so which layout it is held to.
-- Assumes nothing.
use Rattle.std.specs.Prelude.{ℕ, cond, List}
use Prim.Native.Char.{code}
use Rattle.columns.specs.ByteSets.{fits}
use Rattle.columns.specs.Rows.{Row, byte_in, first_bad}
use Rattle.columns.specs.Stops.{first_stop}
use Rattle.columns.specs.Layout.{primary, continuation}
use Rattle.columns.specs.declared.Kind.{Kind}
use Rattle.columns.specs.declared.Kind.TheVariants.{Primary, Continuation}

-- by column 39 alone: 2 to 9 and A to Z number a continuation, and whatever else stands there is judged as a primary
unfoldable pub kind_of : List ℕ → Kind
kind_of rec = cond (fits (code "k") (byte_in 39 rec)) Continuation Primary

unfoldable pub layout_of : Kind → List Row
layout_of Primary = primary
layout_of Continuation = continuation

-- the first column of the leftmost field of the record's own layout that holds nothing legal, 0 where all hold something legal
unfoldable pub first_bad_field : List ℕ → ℕ
first_bad_field rec = first_bad (layout_of (kind_of rec)) rec

-- the first column of that field at which no legal content of the field begins with its bytes so far, 0 where all hold something legal
unfoldable pub bad_byte : List ℕ → ℕ
bad_byte rec = first_stop (layout_of (kind_of rec)) rec
