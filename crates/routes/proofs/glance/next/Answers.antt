-- What it answers is a yes at each test. Assumes nothing.
use mathlib.Core.Path.{refl, sym, ◌∙◌}
use Rattle.slices.proofs.OrderLaws.{equal_iff}
use Rattle.routes.proofs.GlanceLaws.{kind_by_key, rises_lt}
use Rattle.routes.proofs.glance.next.Goals as goal

pub invariant_of-leg : goal.invariant_of-leg
invariant_of-leg c =
    let route = (equal_iff _ _).0 (sym c.same.ensures ∙ c.if-not-same.false) in record {
      kind_is = c.args.before.kind_is ∙ kind_by_key _ _ route;
      kind_within = c.args.before.kind_within;
      terminator_is = c.of.ensures;
    }

pub returns-then-pair : goal.returns-then-pair
returns-then-pair c = (
  refl,
  record {
    single = sym c.lone.ensures ∙ c.if-not-lone.false;
    route = (equal_iff _ _).0 (sym c.same.ensures ∙ c.if-not-same.false);
    rises = sym c.compare.ensures ∙ rises_lt _ (sym c.is_lt.ensures ∙ c.if-is_lt.true);
    fits = rw (← c.args.before.terminator_is, ← c.of.ensures) (sym c.pair.ensures ∙ c.if-pair.true);
  },
)
