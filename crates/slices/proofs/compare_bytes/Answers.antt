-- By the invariant: the first byte that differs decides, and where there is none, the lengths do. Assumes nothing.
use Rattle.std.proofs.Common.{◌∙◌, sym, arith}
use Rattle.slices.proofs.StdLaws.{first_differs, none_differs}
use Rattle.slices.proofs.compare_bytes.Goals as goal

pub returns-then-is_ne : goal.returns-then-is_ne
returns-then-is_ne c =
    first_differs _ _ c.loop-k.k (omega arith) (omega arith) c.loop-k.invariant c.cmp-way.ensures (sym c.is_ne.ensures ∙ c.if-is_ne.true)

pub returns : goal.returns
returns c = c.cmp.ensures ∙ none_differs _ _ (λ j l m. c.loop-k.invariant j (omega arith))
