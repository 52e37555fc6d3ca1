-- Nothing, or a word, the record and a line feed. Assumes nothing.
use Rattle.answers.proofs.WhyLaws.{no_record, record_wrote}
use Rattle.answers.proofs.whys.put_record.Goals as goal

pub returns-then-rec-eq0 : goal.returns-then-rec-eq0
returns-then-rec-eq0 c = no_record c.args.rec.now _ _ c.if-rec-eq0.true

pub returns : goal.returns
returns c = record_wrote _ c.if-rec-eq0.false c.put_word-word.ensures c.put_word-bytes.ensures c.put_word.ensures
