-- By the invariant: the routes that are left give the answer. Assumes nothing.
use Rattle.refusals.specs.Table.{Verdict}
use Rattle.applying.proofs.JudgeLaws.{end_within, route_refused_lem, route_stands, route_untouched, routes_end}
use Rattle.applying.proofs.CorrectLaws.{route_fault}
use Rattle.applying.proofs.ShiftLaws.{behind}
use mathlib.Core.Path.{◌≡◌, sym, ap, ◌∙◌}
use mathlib.Core.List.{List, []}
use Prim.Native.Nat.{ℕ, ◌-◌}
use lib.ListN.{take, drop}
use Rattle.routes.specs.Sources.{sources_for}
use Rattle.applying.specs.Apply.{refused_route}
use native.Mathlib.Omega.{arith}
use Rattle.applying.proofs.judge.judge_in_turn.Goals as goal

pub slice_bounds-listed-end : goal.slice_bounds-listed-end
slice_bounds-listed-end c = let same = c.sources-sources.ensures.sources in
    rw same (end_within _ _ [] _ _ (rw same at c.loop-i-test.true) (rw same at c.route_end-end.ensures)).1

pub returns-in-Err : goal.returns-in-Err
returns-in-Err c = let same = c.sources-sources.ensures.sources in
    let st = c.args.state.now in
    let n = rw same at c.loop-i-test.true in
    let end = rw same at c.route_end-end.ensures in
    let w = end_within st.frozen st.log [] st.sources c.loop-i.i n end in
    let e = c.loop-i.invariant.1 ∙ route_refused_lem st.frozen st.log c.args.lines.entries.now st.sources c.loop-i.i n end (rw same at c.touches.ensures) c.if-touches.true c.judge.ensures c.in-Err.is in
    let own : take (c.route_end-end.result - c.loop-i.i) (drop c.loop-i.i c.sources-sources.result.now) ≡ refused_route st.frozen st.log c.args.lines.entries.now 0 st.sources =
    ap (λ (xs : List ℕ). take (c.route_end-end.result - c.loop-i.i) (drop c.loop-i.i xs)) same ∙ sym (behind st.sources c.route_end-end.result c.loop-i.i (omega (arith, w.0))) ∙ sym (ap (λ (p : Verdict × List ℕ). p.1) e) in
    (ap (λ (p : Verdict × List ℕ). p.0) e, route_fault _ (c.listed.ensures ∙ ap sources_for own))

pub loop-i-preserved-in_default : goal.loop-i-preserved-in_default
loop-i-preserved-in_default c = let same = c.sources-sources.ensures.sources in
    let st = c.args.state.now in
    let n = rw same at c.loop-i-test.true in
    let end = rw same at c.route_end-end.ensures in
    ((end_within st.frozen st.log [] st.sources c.loop-i.i n end).1, c.loop-i.invariant.1 ∙ route_stands st.frozen st.log c.args.lines.entries.now st.sources c.loop-i.i n end (rw same at c.touches.ensures) c.if-touches.true c.judge.ensures c.in_default.is)

pub loop-i-preserved : goal.loop-i-preserved
loop-i-preserved c = let same = c.sources-sources.ensures.sources in
    let st = c.args.state.now in
    let n = rw same at c.loop-i-test.true in
    let end = rw same at c.route_end-end.ensures in
    ((end_within st.frozen st.log [] st.sources c.loop-i.i n end).1, c.loop-i.invariant.1 ∙ route_untouched st.frozen st.log c.args.lines.entries.now st.sources c.loop-i.i n end (rw same at c.touches.ensures) c.if-touches.false)

pub returns : goal.returns
returns c = let st = c.args.state.now in
    ap (λ (p : Verdict × List ℕ). p.0) (c.loop-i.invariant.1 ∙ routes_end st.frozen st.log c.args.lines.entries.now st.sources c.loop-i.i (rw c.sources-sources.ensures.sources at c.loop-i-test.false))
