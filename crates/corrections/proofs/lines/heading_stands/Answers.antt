-- By its letter, or by its text. Assumes nothing.
use mathlib.Core.Path.{◌∙◌}
use Rattle.corrections.proofs.ReachLaws.{heading_other, heading_whole}
use Rattle.corrections.proofs.lines.heading_stands.Goals as goal

pub returns-then-byte_at-eq67 : goal.returns-then-byte_at-eq67
returns-then-byte_at-eq67 c = c.starts_with.ensures.value ∙ heading_whole _ _ _ c.heading_text.ensures

pub returns-else-byte_at-eq67 : goal.returns-else-byte_at-eq67
returns-else-byte_at-eq67 c = heading_other _ _ c.byte_at.ensures c.if-byte_at-eq67.false
