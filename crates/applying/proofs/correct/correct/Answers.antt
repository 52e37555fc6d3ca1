-- A law for each way that it ends. Assumes nothing.
use Rattle.applying.proofs.CorrectLaws.{kept, told, not_applied, left_unjudged, correction_stands, route_is_refused}
use Rattle.std.proofs.lemmas.Result.{err_from_is_err_and}
use mathlib.Core.Path.{◌≡◌, sym, ap, ◌∙◌}
use borrow.Author.Rules.{rules}
use Prim.Native.Nat.{ℕ}
use Rattle.std.specs.Prelude.{Result}
use Rattle.refusals.specs.Table.{does_not_apply, route_refused}
use Rattle.applying.specs.Correct.{Applies, Judges, fault_as, wrong_line}
use Rattle.applying.specs.declared.Fault.{Fault}
use Rattle.applying.specs.declared.Stopped.{Stopped}
use Rattle.applying.proofs.correct.correct.Goals as goal

pub returns-in_err-map_err : goal.returns-in_err-map_err
returns-in_err-map_err c = let p = err_from_is_err_and c.from_residual.result c.from_residual.ensures.1 in
    let (at, a, t) = told (λ (r : Result Unit ℕ). Applies c.args.state.now c.args.lines.entries.now r c.apply_lines.new.state) c.apply_lines.result _ c.map_err.ensures.cases c.in_err-map_err.was c.apply_lines.ensures in
    let s : c.in_err-map_err.field-0.0 ≡ record { refusal = does_not_apply c.args.n; fault = fault_as (wrong_line at) } = search rules in
    rw (p.1, p.2) (not_applied c.args.n c.args.state.now c.apply_lines.new.state c.args.lines.entries.now a (ap (λ (x : Stopped). x.refusal) s) (ap (λ (x : Stopped). x.fault) s))

pub returns-in_err-map_err-2 : goal.returns-in_err-map_err-2
returns-in_err-map_err-2 c = let p = err_from_is_err_and c.from_residual-in_err-map_err-2.result c.from_residual-in_err-map_err-2.ensures.1 in
    let a = kept (λ (r : Result Unit ℕ). Applies c.args.state.now c.args.lines.entries.now r c.apply_lines.new.state) c.apply_lines.result c.map_err.ensures.variant c.in_ok-map_err.was c.apply_lines.ensures in
    let (w, j, t) = told (λ (r : Result Unit Fault). Judges c.apply_lines.new.state c.args.lines.entries.now r) c.judge_touched.result _ c.map_err-then-judges.ensures.cases c.in_err-map_err-2.was c.judge_touched.ensures in
    let s : c.in_err-map_err-2.field-0.0 ≡ record { refusal = route_refused c.args.n w.inner.number; fault = w } = search rules in
    rw (p.1, p.2) (route_is_refused c.args.n c.args.state.now c.apply_lines.new.state c.args.lines.entries.now a (sym c.judges.ensures ∙ c.if-judges.true) j (ap (λ (x : Stopped). x.refusal) s) (ap (λ (x : Stopped). x.fault) s))

pub returns-in_ok-map_err-2 : goal.returns-in_ok-map_err-2
returns-in_ok-map_err-2 c =
    let a = kept (λ (r : Result Unit ℕ). Applies c.args.state.now c.args.lines.entries.now r c.apply_lines.new.state) c.apply_lines.result c.map_err.ensures.variant c.in_ok-map_err.was c.apply_lines.ensures in
    let j = kept (λ (r : Result Unit Fault). Judges c.apply_lines.new.state c.args.lines.entries.now r) c.judge_touched.result c.map_err-then-judges.ensures.variant c.in_ok-map_err-2.was c.judge_touched.ensures in
    correction_stands c.args.n c.args.state.now c.apply_lines.new.state c.args.lines.entries.now a (sym c.judges.ensures ∙ c.if-judges.true) j

pub returns-else-judges : goal.returns-else-judges
returns-else-judges c =
    let a = kept (λ (r : Result Unit ℕ). Applies c.args.state.now c.args.lines.entries.now r c.apply_lines.new.state) c.apply_lines.result c.map_err.ensures.variant c.in_ok-map_err.was c.apply_lines.ensures in
    left_unjudged c.args.n c.args.state.now c.apply_lines.new.state c.args.lines.entries.now a (sym c.judges.ensures ∙ c.if-judges.false)
