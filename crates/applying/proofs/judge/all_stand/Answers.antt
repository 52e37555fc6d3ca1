-- By the invariant: the routes of the lines so far stand. Assumes nothing.
use Rattle.applying.proofs.RouteLaws.{one_more, same_stands}
use Rattle.applying.proofs.TouchedLaws.{each_stands}
use Rattle.applying.specs.Apply.{RouteStands, source_of}
use Rattle.corrections.specs.Reading.{no_entry}
use lib.ListN.{get_or}
use Prim.Native.Nat.{ℕ}
use mathlib.Core.Path.{sym, subst, ◌∙◌}
use native.Mathlib.Omega.{arith}
use Rattle.applying.proofs.judge.all_stand.Goals as goal

pub loop-line-preserved-then-same_route : goal.loop-line-preserved-then-same_route
loop-line-preserved-then-same_route c = let st = c.args.state.now in
    let inv = c.loop-line.invariant in
    let other = rw c.in-Some.is at inv.1 in (
      one_more (λ (j : ℕ). RouteStands st.frozen st.log st.sources (source_of (get_or c.args.lines.entries.now j no_entry))) _ inv.0
          (subst (RouteStands st.frozen st.log st.sources) c.source_of-source.ensures (same_stands st.frozen st.log st.sources c.in-Some.other c.source_of-source.result (sym c.same_route.ensures ∙ c.if-same_route.true) other)),
      other,
    )

pub loop-line-preserved : goal.loop-line-preserved
loop-line-preserved c = let st = c.args.state.now in
    let inv = c.loop-line.invariant in
    let stands = c.route_stands.ensures c.if-not-route_stands.false in (
      one_more (λ (j : ℕ). RouteStands st.frozen st.log st.sources (source_of (get_or c.args.lines.entries.now j no_entry))) _ inv.0
          (subst (RouteStands st.frozen st.log st.sources) c.source_of-source.ensures stands),
      stands,
    )

pub returns : goal.returns
returns c = λ t. each_stands _ _ c.args.lines.entries.now _ c.requires (λ j b. c.loop-line.invariant.0 j (omega (arith, b, c.loop-line-test.false)))
