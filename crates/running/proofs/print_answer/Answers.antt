-- What is printed is the front of the buffer, and that is the text. Assumes nothing.
use Rattle.std.proofs.Common.{rules, arith, ◌≡◌, length, take, subst, length-take}
use Rattle.std.specs.Io.KnownBytes.{Appends}
use Rattle.running.proofs.Laws.{few, text_counted, text_front, never_refused, on_ok}
use Rattle.running.proofs.print_answer.Goals as goal

pub answer-requires : goal.answer-requires
answer-requires g c = omega (arith, few g.met.P.Program.small)

pub shared_whole_as_front-write_all : goal.shared_whole_as_front-write_all
shared_whole_as_front-write_all g c =
    (rw (text_counted g.row.N _ c.answer.ensures c.in-Ok.is) (g.met.P.Program.fits _ _ _), omega (arith, few g.met.P.Program.small))

pub returns-in-Ok : goal.returns-in-Ok
returns-in-Ok g c =
    let frozen : length c.read-f.new.into ≡ 63841 = search rules in
    let log : length c.read-l.new.into ≡ 60001 = search rules in
    let want : length c.if-WANTS.want ≡ 801 = search rules in
    on_ok c.write_all.result (λ printed. (
      take c.read-f.result c.read-f.new.into,
      take c.read-l.result c.read-l.new.into,
      take c.if-WANTS.w c.if-WANTS.want,
      omega (arith, frozen, length-take c.read-f.result c.read-f.new.into),
      omega (arith, log, length-take c.read-l.result c.read-l.new.into),
      omega (arith, want, length-take c.if-WANTS.w c.if-WANTS.want),
      subst (Appends (g.W.Write.contents c.args.to.now) (g.W.Write.contents c.write_all.new.self)) (text_front g.row.N _ c.answer.ensures c.in-Ok.is) printed,
    )) c.write_all.ensures.bytes

pub returns-in-Err : goal.returns-in-Err
returns-in-Err g c = absurd (never_refused g.row.N _ c.answer.ensures c.in-Err.is)
