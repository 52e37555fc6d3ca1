-- A law for each letter. Assumes nothing.
use Rattle.applying.proofs.ApplyLaws.{line_out, line_in_lem}
use mathlib.Core.Path.{sym, ap, subst, ◌∙◌}
use mathlib.Core.List.{List}
use mathlib.Core.Option.{Option}
use Prim.Native.Nat.{ℕ}
use Rattle.applying.specs.State.{Gives, with_source, without_record}
use Rattle.routes.specs.Sources.{record_at}
use Rattle.applying.proofs.apply.apply_line.Goals as goal

pub returns-then-line-eq68 : goal.returns-then-line-eq68
returns-then-line-eq68 c = let st = c.args.state.now in
    let e = c.record-rec.ensures ∙ ap (record_at st.frozen st.log) c.source_of-source.ensures in
    subst (λ (o : Option (List ℕ)). Gives st o c.take_out.result c.take_out.new.self)
    (ap (λ (r : List ℕ). without_record st.frozen st.log r st.sources) e ∙ sym (line_out st.frozen st.log c.args.line.now st.sources c.if-line-eq68.true)) c.take_out.ensures

pub returns : goal.returns
returns c = let st = c.args.state.now in
    subst (λ (o : Option (List ℕ)). Gives st o c.put_in.result c.put_in.new.self)
    (ap (λ (s : ℕ). with_source st.frozen st.log s st.sources) c.source_of-source.ensures ∙ sym (line_in_lem st.frozen st.log c.args.line.now st.sources c.if-line-eq68.false)) c.put_in.ensures
