-- By the invariant: the table holds of the lines that were looked at. Assumes nothing.
use mathlib.Core.Path.{◌≡◌, sym}
use lib.ListN.{get_or}
use Rattle.selection.specs.Reliance.{owners}
use Rattle.selection.proofs.IndexLaws.{no_line, owner_at, owners_past}
use Rattle.selection.proofs.MarkLaws.{spanned_start, spanned_skip, spanned_first, spanned_other, spanned_end}
use Rattle.selection.proofs.relied.spans_of.Goals.{then-c-lt-MARKS, then-spans-c-eq0, else-spans-c-eq0, else-c-lt-MARKS}
use Rattle.selection.proofs.relied.spans_of.Goals as goal

pub loop-k-init : goal.loop-k-init
loop-k-init c = spanned_start _

pub loop-k-preserved : goal.loop-k-preserved
loop-k-preserved c =
    let seen = c.loop-k.invariant in
    let o : (get_or c.args.entries.now c.loop-k.k no_line).correction ≡ get_or (owners c.args.entries.now) c.loop-k.k 0 = sym (owner_at c.args.entries.now c.loop-k.k) in
    elim c.if-c-lt-MARKS.branch [
      | then-c-lt-MARKS w ↦ elim w.if-spans-c-eq0.branch [
        | then-spans-c-eq0 w' ↦ spanned_first _ _ _ seen o w.if-c-lt-MARKS.true w.spans-is w'.if-spans-c-eq0.true w'.first-is
        | else-spans-c-eq0 w' ↦ spanned_other _ _ _ seen o w.if-c-lt-MARKS.true w.spans-is w'.first-is
      ]
      | else-c-lt-MARKS w ↦ spanned_skip _ _ _ seen o w.if-c-lt-MARKS.false w.spans-is
    ]

pub returns : goal.returns
returns c = spanned_end _ _ _ c.loop-k.invariant (owners_past c.args.entries.now c.loop-k-test.false)
