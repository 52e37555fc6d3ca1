-- The part is there, or nothing lies in it. Assumes nothing.
use Rattle.std.proofs.Common.{ℕ, List, ◌≡◌, ◌∙◌, refl, ap, length}
use Prim.Native.Nat.{min}
use denote.Ref.{Bor}
use borrow.Author.Rules.{rules}
use Rattle.routes.proofs.FileLaws.{range_or_none}
use Rattle.routes.proofs.Sources.range.Goals as goal

pub returns : goal.returns
returns c =
    let s = c.args.self.now in
    let long : length s.at ≡ 480 = search rules in
    ap (λ (x : Bor (List ℕ)). x.now) c.unwrap_or.ensures ∙ range_or_none s _ _ _ _ long refl (c.min-end.ensures ∙ ap (min _) c.min.ensures) c.get.ensures.lookup
