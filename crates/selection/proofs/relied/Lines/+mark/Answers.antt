-- A law for each way that it ends, and for each line that is looked at. Assumes nothing.
use Rattle.selection.proofs.MarkLaws.{lines_from, lines_before, marked_same, round_start, round_skip, round_call, round_end, named_falls}
use borrow.Author.Rules.{rules}
use native.Mathlib.Omega.{arith}
use lib.ListN.{length}
use mathlib.Core.Path.{◌≡◌}
use Rattle.selection.proofs.relied.Lines.+mark.Goals as goal

pub returns-then-c-eq0 : goal.returns-then-c-eq0
returns-then-c-eq0 t c = marked_same _ _ _ _ (λ z _. absurd (omega arith))

pub returns-then-c-ge-MARKS : goal.returns-then-c-ge-MARKS
returns-then-c-ge-MARKS t c = let long : length c.args.marks.now ≡ 201 = search rules in marked_same _ _ _ _ (λ _ z. absurd (omega arith))

pub returns-then-marks-c-eq1 : goal.returns-then-marks-c-eq1
returns-then-marks-c-eq1 t c = marked_same _ _ _ _ (λ _ _. c.if-marks-c-eq1.true)

pub loop-k-init : goal.loop-k-init
loop-k-init t c = round_start _ _ _ _ _ (lines_before _ _ _ _ c.args.self.spanned c.if-c-ge-MARKS.false)

pub mark-requires : goal.mark-requires
mark-requires t c = omega (arith, named_falls _ _ _ _ _ c.in-Some.ensures.1 c.in-Some.ensures.0)

pub loop-k-preserved-in-Some : goal.loop-k-preserved-in-Some
loop-k-preserved-in-Some t c = let long : length c.args.marks.now ≡ 201 = search rules in
    round_call _ _ _ _ _ _ _ _ c.loop-k.invariant c.in-Some.ensures (omega (arith, c.if-c-ge-MARKS.false)) c.mark.ensures

pub loop-k-preserved : goal.loop-k-preserved
loop-k-preserved t c = round_skip _ _ _ _ _ _ c.loop-k.invariant c.in_default.ensures

pub returns : goal.returns
returns t c = let long : length c.args.marks.now ≡ 201 = search rules in
    round_end _ _ _ _ _ _ _ c.loop-k.invariant (lines_from _ _ _ _ c.args.self.spanned c.if-c-ge-MARKS.false) c.loop-k-test.false (omega (arith, c.if-c-ge-MARKS.false))
