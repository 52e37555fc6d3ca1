-- The numbers stand to each other as the bytes do. Assumes nothing.
use Rattle.std.proofs.Common.{◌∙◌}
use Rattle.slices.proofs.WordLaws.{words_order}
use Rattle.slices.proofs.compare_word.Goals as goal

pub returns : goal.returns
returns c = c.cmp.ensures ∙ rw (c.from_be_bytes.ensures, c.from_be_bytes-2.ensures) (words_order c.args.p.now c.args.q.now c.told-p c.told-q (λ k. c.fits-p k) (λ k. c.fits-q k))
