-- The part is there or not. Assumes nothing.
use mathlib.Core.Path.{refl, ap, ◌∙◌}
use mathlib.Core.List.{List}
use Prim.Native.Nat.{ℕ}
use denote.Ref.{Bor}
use Rattle.routes.proofs.SourceLaws.{within_or_none}
use Rattle.routes.proofs.record.within.Goals as goal

pub returns : goal.returns
returns c = ap (λ (x : Bor (List ℕ)). x.now) c.unwrap_or.ensures ∙ within_or_none _ _ _ _ refl c.get.ensures.lookup
