-- A law for each way that it returns. Assumes nothing.
use Rattle.std.proofs.Common.{◌≡◌, ◌+◌, arith}
use Rattle.routes.proofs.KnownLaws.{learns_last, learns_past, learns, learns_not}
use Rattle.routes.proofs.known.learn.Goals as goal
use Rattle.routes.proofs.known.learn.Goals.{else-i-known-via-then-i-known+else-is_ok, else-i-known-via-else-i-known}

pub returns-in_default : goal.returns-in_default
returns-in_default c = let h = c.in_default.ensures in learns_last _ _ _ _ (omega (arith, h))

pub returns-then-is_ok : goal.returns-then-is_ok
returns-then-is_ok c =
    let e : c.in-Some.next ≡ c.args.source + 1 = c.in-Some.ensures.1 in
    rw e (learns _ _ _ _ (λ q. omega (arith, q, c.in-Some.ensures)) c.slot-i.ensures c.record_at.ensures _ c.judge.ensures c.is_ok.ensures.value c.if-is_ok.true)

pub returns-else-i-known : goal.returns-else-i-known
returns-else-i-known c =
    elim c.else-i-known.branch [
      | else-i-known-via-then-i-known+else-is_ok w ↦ learns_not _ _ _ _ (λ q. omega (arith, q, c.in-Some.ensures)) c.slot-i.ensures w.record_at.ensures _ w.judge.ensures w.is_ok.ensures.value w.if-is_ok.false
      | else-i-known-via-else-i-known w ↦ learns_past _ _ _ _ (λ q. omega (arith, q, c.in-Some.ensures)) c.slot-i.ensures w.if-i-known.false
    ]
