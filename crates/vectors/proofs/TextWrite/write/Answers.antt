-- All of the bytes are copied. Assumes nothing.
use Rattle.std.proofs.Common.{ap, ◌∙◌}
use Rattle.std.proofs.lemmas.List.Edits.{sets}
use Rattle.slices.proofs.PartLaws.{part_all}
use Rattle.vectors.proofs.TextWrite.write.Goals as goal

pub returns-clause-space : goal.returns-clause-space
returns-clause-space c = c.copy.ensures ∙ ap (sets c.args.self.now.space c.args.self.now.length) (part_all c.args.buf.now)
