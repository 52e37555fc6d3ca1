-- The format of this product, for the theory of selection: records of bytes, placed by columns 1-25, 27-29 and 39, with columns 1-25 for a
-- route, and a route accepted where its records alone are. And the corrections of a log, in the words of that theory.
-- Assumes nothing.
use Rattle.refusals.specs.Table.{Verdict}
use Rattle.std.specs.Prelude.{◌≡◌, Bool, true, false, cond, List, [], map, ℕ, eqb, take, Ok, Err}
use Rattle.std.proofs.Common.{sym, ap, ◌∙◌, take_at}
use Prim.Native.Char.{code}
use Rattle.slices.proofs.PartLaws.{length_part}
use Rattle.routes.specs.Places.{key_of, place_of}
use Rattle.routes.specs.Walk.{walked}
use Rattle.routes.proofs.Routes.{no_record}
use Rattle.history.specs.Format.{Format}
use Rattle.history.specs.Bytes.{of_bytes}
use Rattle.history.specs.Apply.{Op, take_out, put_in, Correction}
use Rattle.corrections.specs.declared.Entry.{Entry}
use Rattle.corrections.specs.Text.{Change, takes_out, puts_in, LegalLog}
use Rattle.applying.specs.Apply.{record_of_line}

abbrev pub is_accepted : Verdict → Bool
is_accepted (Ok _) = true
is_accepted (Err r) = false

-- whether records in sequence are accepted
unfoldable pub accepts : List (List ℕ) → Bool
accepts rs = is_accepted (walked rs)

pub none_accepted : accepts [] ≡ true
unfolding accepts
none_accepted = ap is_accepted no_record

pub key_by_place : (r s : List ℕ) → place_of r ≡ place_of s → key_of r ≡ key_of s
unfolding place_of
key_by_place r s e = sym (take_at (key_of r) _ 25 (length_part 25 0 r)) ∙ ap (take 25) e ∙ take_at (key_of s) _ 25 (length_part 25 0 s)

abbrev pub procedures : Format
procedures = of_bytes place_of key_of key_by_place accepts none_accepted

-- a D line takes its record out, an A line puts it in
module _ (frozen log : List ℕ) where
  unfoldable pub operation : Entry → Op (List ℕ)
  operation e = cond (eqb e.letter (code "D")) (take_out (record_of_line frozen log e)) (put_in (record_of_line frozen log e))

  unfoldable pub operations : List (List Entry) → List (Correction procedures)
  operations ess = map (map operation) ess

-- what a log says of a record, in the words of the theory
unfoldable pub op_of : Change → Op (List ℕ)
op_of (takes_out r) = take_out r
op_of (puts_in r) = put_in r

-- the corrections of a legal log
abbrev pub log_of : {log : List ℕ} {frozen : ℕ} → LegalLog log frozen → List (Correction procedures)
log_of l = map (map op_of) l.corrections
