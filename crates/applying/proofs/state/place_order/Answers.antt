-- By what each comparison answers. Assumes nothing.
use Rattle.applying.proofs.StateLaws.{places, then_after, after_after}
use mathlib.Core.Path.{◌≡◌, refl, sym, ap, ◌∙◌}
use borrow.Author.Rules.{rules}
use Rattle.slices.specs.Part.{part}
use Rattle.slices.specs.Order.{order}
use Rattle.slices.proofs.OrderLaws.{after}
use Rattle.std.specs.declared.cmp.Ordering.{Ordering}
use Rattle.applying.proofs.state.place_order.Goals as goal

pub returns : goal.returns
returns c =
    let a = c.args.a.now in
    let b = c.args.b.now in
    let sequence : c.then_with.result ≡ after c.compare.result (order (part 3 26 a) (part 3 26 b)) =
    then_after c.compare.result (order (part 3 26 a) (part 3 26 b)) c.then_with.result c.then_with.ensures (λ m. search rules) in
    let number : c.then_with-2.result ≡ after c.then_with.result (order (part 1 38 a) (part 1 38 b)) =
    then_after c.then_with.result (order (part 1 38 a) (part 1 38 b)) c.then_with-2.result c.then_with-2.ensures (λ m. search rules) in
    number ∙ ap (λ (o : Ordering). after o (order (part 1 38 a) (part 1 38 b))) sequence ∙ after_after c.compare.result (order (part 3 26 a) (part 3 26 b)) (order (part 1 38 a) (part 1 38 b)) ∙ sym (places a b c.compare.ensures refl refl)
