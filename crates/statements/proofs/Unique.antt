-- That every contract determines its answer: for each public function of the library but `folder::read`, two results that its contract
-- allows for the same arguments are equal, and so are the bytes that stand at the exit in what it was lent to write to. Where the result is a part of a lent
-- slice, its bytes are equal. `Post` is the function's own contract, as it is made from the source: `Reads` has what its `ensures` says of the
-- arguments, the result and the parameters at exit, and `Kinds` the types of its parameters and of its result.
-- Assumes nothing.
use mathlib.Core.Path.{refl, sym, ap, ◌∙◌}
use mathlib.Core.List.{List}
use Prim.Native.Nat.{ℕ}
use Rattle.slices.proofs as slices
use Rattle.digits.proofs as digits
use Rattle.refusals.proofs as refusals
use Rattle.columns.proofs as columns
use Rattle.leg.proofs as leg
use Rattle.fields.proofs as fields
use Rattle.parts.proofs as parts
use Rattle.routes.proofs as routes
use Rattle.corrections.proofs as corrections
use Rattle.wanted.proofs as wanted
use Rattle.history.proofs as history
use Rattle.applying.proofs as applying
use Rattle.selection.proofs as selection
use Rattle.answers.proofs as answers
use Rattle.statements.specs.Determined.{DeterminedAs, Determined}
use Rattle.statements.proofs.number_itself

-- ---- slices

pub unique_least : Determined slices.least.Kinds.ps slices.least.Kinds.r slices.least.Reads.Post
unique_least κs a x y v w p q = (p ∙ sym q, refl)

pub unique_byte_at : Determined slices.byte_at.Kinds.ps slices.byte_at.Kinds.r slices.byte_at.Reads.Post
unique_byte_at κs a x y v w p q = (p ∙ sym q, refl)

pub unique_byte_after : Determined slices.byte_after.Kinds.ps slices.byte_after.Kinds.r slices.byte_after.Reads.Post
unique_byte_after κs a x y v w p q = (p ∙ sym q, refl)

pub unique_put_after : Determined slices.put_after.Kinds.ps slices.put_after.Kinds.r slices.put_after.Reads.Post
unique_put_after κs a x y v w p q = (refl, ap (λ (b : List ℕ). (b, (tt, (tt, (tt, tt))))) (p ∙ sym q))

pub unique_compare : Determined slices.compare.Kinds.ps slices.compare.Kinds.r slices.compare.Reads.Post
unique_compare κs a x y v w p q = (p ∙ sym q, refl)

pub unique_same : Determined slices.same.Kinds.ps slices.same.Kinds.r slices.same.Reads.Post
unique_same κs a x y v w p q = (p ∙ sym q, refl)

pub unique_is_blank : Determined slices.is_blank.Kinds.ps slices.is_blank.Kinds.r slices.is_blank.Reads.Post
unique_is_blank κs a x y v w p q = (p ∙ sym q, refl)

pub unique_has : Determined slices.has.Kinds.ps slices.has.Kinds.r slices.has.Reads.Post
unique_has κs a x y v w p q = (p ∙ sym q, refl)

pub unique_copy : Determined slices.copy.Kinds.ps slices.copy.Kinds.r slices.copy.Reads.Post
unique_copy κs a x y v w p q = (refl, ap (λ (b : List ℕ). (tt, (tt, (b, (tt, (tt, tt)))))) (p ∙ sym q))

pub unique_clear_from : Determined slices.clear_from.Kinds.ps slices.clear_from.Kinds.r slices.clear_from.Reads.Post
unique_clear_from κs a x y v w p q = (refl, ap (λ (b : List ℕ). (b, (tt, tt))) (p ∙ sym q))

pub unique_clear : Determined slices.clear.Kinds.ps slices.clear.Kinds.r slices.clear.Reads.Post
unique_clear κs a x y v w p q = (refl, ap (λ (b : List ℕ). (b, tt)) (p ∙ sym q))

pub unique_line_feed : Determined slices.line_feed.Kinds.ps slices.line_feed.Kinds.r slices.line_feed.Reads.Post
unique_line_feed κs a x y v w p q = (p ∙ sym q, refl)

-- ---- digits

pub unique_is_digit : Determined digits.is_digit.Kinds.ps digits.is_digit.Kinds.r digits.is_digit.Reads.Post
unique_is_digit κs a x y v w p q = (p ∙ sym q, refl)

pub unique_all_digits : Determined digits.all_digits.Kinds.ps digits.all_digits.Kinds.r digits.all_digits.Reads.Post
unique_all_digits κs a x y v w p q = (p ∙ sym q, refl)

pub unique_number_of_digits : Determined digits.number.Kinds.ps digits.number.Kinds.r digits.number.Reads.Post
unique_number_of_digits κs a x y v w p q = (p ∙ sym q, refl)

-- ---- refusals

pub unique_refusal_cut_short : Determined refusals.Refusal.cut_short.Kinds.ps refusals.Refusal.cut_short.Kinds.r refusals.Refusal.cut_short.Reads.Post
unique_refusal_cut_short κs a x y v w p q = (p ∙ sym q, refl)

pub unique_refusal_too_many_records : Determined refusals.Refusal.too_many_records.Kinds.ps refusals.Refusal.too_many_records.Kinds.r refusals.Refusal.too_many_records.Reads.Post
unique_refusal_too_many_records κs a x y v w p q = (p ∙ sym q, refl)

pub unique_refusal_field_content : Determined refusals.Refusal.field_content.Kinds.ps refusals.Refusal.field_content.Kinds.r refusals.Refusal.field_content.Reads.Post
unique_refusal_field_content κs a x y v w p q = (p ∙ sym q, refl)

pub unique_refusal_companion_blank : Determined refusals.Refusal.companion_blank.Kinds.ps refusals.Refusal.companion_blank.Kinds.r refusals.Refusal.companion_blank.Reads.Post
unique_refusal_companion_blank κs a x y v w p q = (p ∙ sym q, refl)

pub unique_refusal_needed_blank : Determined refusals.Refusal.needed_blank.Kinds.ps refusals.Refusal.needed_blank.Kinds.r refusals.Refusal.needed_blank.Reads.Post
unique_refusal_needed_blank κs a x y v w p q = (p ∙ sym q, refl)

pub unique_refusal_continuation_number : Determined refusals.Refusal.continuation_number.Kinds.ps refusals.Refusal.continuation_number.Kinds.r refusals.Refusal.continuation_number.Reads.Post
unique_refusal_continuation_number κs a x y v w p q = (p ∙ sym q, refl)

pub unique_refusal_continuation_head : Determined refusals.Refusal.continuation_head.Kinds.ps refusals.Refusal.continuation_head.Kinds.r refusals.Refusal.continuation_head.Reads.Post
unique_refusal_continuation_head κs a x y v w p q = (p ∙ sym q, refl)

pub unique_refusal_route_not_later : Determined refusals.Refusal.route_not_later.Kinds.ps refusals.Refusal.route_not_later.Kinds.r refusals.Refusal.route_not_later.Reads.Post
unique_refusal_route_not_later κs a x y v w p q = (p ∙ sym q, refl)

pub unique_refusal_sequence_not_risen : Determined refusals.Refusal.sequence_not_risen.Kinds.ps refusals.Refusal.sequence_not_risen.Kinds.r refusals.Refusal.sequence_not_risen.Reads.Post
unique_refusal_sequence_not_risen κs a x y v w p q = (p ∙ sym q, refl)

pub unique_refusal_leg_pair : Determined refusals.Refusal.leg_pair.Kinds.ps refusals.Refusal.leg_pair.Kinds.r refusals.Refusal.leg_pair.Reads.Post
unique_refusal_leg_pair κs a x y v w p q = (p ∙ sym q, refl)

pub unique_refusal_leg_ending : Determined refusals.Refusal.leg_ending.Kinds.ps refusals.Refusal.leg_ending.Kinds.r refusals.Refusal.leg_ending.Reads.Post
unique_refusal_leg_ending κs a x y v w p q = (p ∙ sym q, refl)

pub unique_refusal_log_line : Determined refusals.Refusal.log_line.Kinds.ps refusals.Refusal.log_line.Kinds.r refusals.Refusal.log_line.Reads.Post
unique_refusal_log_line κs a x y v w p q = (p ∙ sym q, refl)

pub unique_refusal_does_not_apply : Determined refusals.Refusal.does_not_apply.Kinds.ps refusals.Refusal.does_not_apply.Kinds.r refusals.Refusal.does_not_apply.Reads.Post
unique_refusal_does_not_apply κs a x y v w p q = (p ∙ sym q, refl)

pub unique_refusal_route_refused : Determined refusals.Refusal.route_refused.Kinds.ps refusals.Refusal.route_refused.Kinds.r refusals.Refusal.route_refused.Reads.Post
unique_refusal_route_refused κs a x y v w p q = (p ∙ sym q, refl)

pub unique_refusal_not_in_log : Determined refusals.Refusal.not_in_log.Kinds.ps refusals.Refusal.not_in_log.Kinds.r refusals.Refusal.not_in_log.Reads.Post
unique_refusal_not_in_log κs a x y v w p q = (p ∙ sym q, refl)

pub unique_refusal_log_too_long : Determined refusals.Refusal.log_too_long.Kinds.ps refusals.Refusal.log_too_long.Kinds.r refusals.Refusal.log_too_long.Reads.Post
unique_refusal_log_too_long κs a x y v w p q = (p ∙ sym q, refl)

pub unique_refusal_too_many_corrections : Determined refusals.Refusal.too_many_corrections.Kinds.ps refusals.Refusal.too_many_corrections.Kinds.r refusals.Refusal.too_many_corrections.Reads.Post
unique_refusal_too_many_corrections κs a x y v w p q = (p ∙ sym q, refl)

pub unique_refusal_no_room : Determined refusals.Refusal.no_room.Kinds.ps refusals.Refusal.no_room.Kinds.r refusals.Refusal.no_room.Reads.Post
unique_refusal_no_room κs a x y v w p q = (p ∙ sym q, refl)

pub unique_refusal_buffer_too_short : Determined refusals.Refusal.buffer_too_short.Kinds.ps refusals.Refusal.buffer_too_short.Kinds.r refusals.Refusal.buffer_too_short.Reads.Post
unique_refusal_buffer_too_short κs a x y v w p q = (p ∙ sym q, refl)

pub unique_verdict_stated : Determined refusals.stated.Kinds.ps refusals.stated.Kinds.r refusals.stated.Reads.Post
unique_verdict_stated κs a x y v w p q = (p ∙ sym q, refl)

-- ---- columns

pub unique_kind_of : Determined columns.kind_of.Kinds.ps columns.kind_of.Kinds.r columns.kind_of.Reads.Post
unique_kind_of κs a x y v w p q = (p ∙ sym q, refl)

pub unique_first_bad : Determined columns.first_bad.Kinds.ps columns.first_bad.Kinds.r columns.first_bad.Reads.Post
unique_first_bad κs a x y v w p q = (p ∙ sym q, refl)

pub unique_bad_byte : Determined columns.bad_byte.Kinds.ps columns.bad_byte.Kinds.r columns.bad_byte.Reads.Post
unique_bad_byte κs a x y v w p q = (p ∙ sym q, refl)

-- ---- leg

pub unique_judge : Determined leg.judge.Kinds.ps leg.judge.Kinds.r leg.judge.Reads.Post
unique_judge κs a x y v w p q = (p ∙ sym q, refl)

pub unique_judge_parts : Determined leg.judge_parts.Kinds.ps leg.judge_parts.Kinds.r leg.judge_parts.Reads.Post
unique_judge_parts κs a x y v w p q = (p ∙ sym q, refl)

pub unique_terminator_column : Determined leg.terminator.Terminator.column.Kinds.ps leg.terminator.Terminator.column.Kinds.r leg.terminator.Terminator.column.Reads.Post
unique_terminator_column κs a x y v w p q = (p ∙ sym q, refl)

pub unique_terminator_number : Determined leg.terminator.Terminator.number.Kinds.ps leg.terminator.Terminator.number.Kinds.r leg.terminator.Terminator.number.Reads.Post
unique_terminator_number κs a x y v w p q = (p.0 ∙ sym q.0, refl)

pub unique_terminator_of : Determined leg.terminator.Terminator.of.Kinds.ps leg.terminator.Terminator.of.Kinds.r leg.terminator.Terminator.of.Reads.Post
unique_terminator_of κs a x y v w p q = (p ∙ sym q, refl)

pub unique_terminator_put : Determined leg.terminator.Terminator.put.Kinds.ps leg.terminator.Terminator.put.Kinds.r leg.terminator.Terminator.put.Reads.Post
unique_terminator_put κs a x y v w p q = (refl, ap (λ (b : List ℕ). (tt, (b, tt))) (p ∙ sym q))

pub unique_terminator_needed : Determined leg.terminator.Terminator.needed.Kinds.ps leg.terminator.Terminator.needed.Kinds.r leg.terminator.Terminator.needed.Reads.Post
unique_terminator_needed κs a x y v w p q = (p ∙ sym q, refl)

pub unique_terminator_ends_at_fix : Determined leg.terminator.Terminator.ends_at_fix.Kinds.ps leg.terminator.Terminator.ends_at_fix.Kinds.r leg.terminator.Terminator.ends_at_fix.Reads.Post
unique_terminator_ends_at_fix κs a x y v w p q = (p ∙ sym q, refl)

pub unique_terminator_is_holding : Determined leg.terminator.Terminator.is_holding.Kinds.ps leg.terminator.Terminator.is_holding.Kinds.r leg.terminator.Terminator.is_holding.Reads.Post
unique_terminator_is_holding κs a x y v w p q = (p ∙ sym q, refl)

-- ---- fields

pub unique_leg_of : Determined fields.primary.Leg.of.Kinds.ps fields.primary.Leg.of.Kinds.r fields.primary.Leg.of.Reads.Post
unique_leg_of κs a x y v w p q = (p ∙ sym q, refl)

pub unique_leg_render : Determined fields.primary.Leg.render.Kinds.ps fields.primary.Leg.render.Kinds.r fields.primary.Leg.render.Reads.Post
unique_leg_render κs a x y v w p q = (p ∙ sym q, refl)

pub unique_continuation_of : Determined fields.continuation.Continuation.of.Kinds.ps fields.continuation.Continuation.of.Kinds.r fields.continuation.Continuation.of.Reads.Post
unique_continuation_of κs a x y v w p q = (p ∙ sym q, refl)

pub unique_continuation_render : Determined fields.continuation.Continuation.render.Kinds.ps fields.continuation.Continuation.render.Kinds.r fields.continuation.Continuation.render.Reads.Post
unique_continuation_render κs a x y v w p q = (p ∙ sym q, refl)

pub unique_content_of : Determined fields.continuation.content_of.Kinds.ps fields.continuation.content_of.Kinds.r fields.continuation.content_of.Reads.Post
unique_content_of κs a x y v w p q = (p ∙ sym q, refl)

-- ---- parts

pub unique_read : Determined parts.read.Kinds.ps parts.read.Kinds.r parts.read.Reads.Post
unique_read κs a x y v w p q = (p ∙ sym q, refl)

pub unique_write_leg : Determined parts.write_leg.Kinds.ps parts.write_leg.Kinds.r parts.write_leg.Reads.Post
unique_write_leg κs a x y v w p q = (p.0 ∙ sym q.0, ap (λ (b : List ℕ). (tt, (b, tt))) (p.1 ∙ sym q.1))

pub unique_write_continuation : Determined parts.write_continuation.Kinds.ps parts.write_continuation.Kinds.r parts.write_continuation.Reads.Post
unique_write_continuation κs a x y v w p q = (p.0 ∙ sym q.0, ap (λ (b : List ℕ). (tt, (tt, (b, tt)))) (p.1 ∙ sym q.1))

-- ---- routes

pub unique_log_source : Determined routes.log_source.Kinds.ps routes.log_source.Kinds.r routes.log_source.Reads.Post
unique_log_source κs a x y v w p q = (p ∙ sym q, refl)

pub unique_record_at : DeterminedAs routes.record_at.Kinds.ps routes.record_at.Kinds.r (λ κs. (λ x. x.now)) routes.record_at.Reads.Post
unique_record_at κs a x y v w p q = (p ∙ sym q, refl)

pub unique_texts_record : DeterminedAs routes.texts.Texts.record.Kinds.ps routes.texts.Texts.record.Kinds.r (λ κs. (λ x. x.now)) routes.texts.Texts.record.Reads.Post
unique_texts_record κs a x y v w p q = (p ∙ sym q, refl)

pub unique_sources_of : Determined routes.sources_of.Kinds.ps routes.sources_of.Kinds.r routes.sources_of.Reads.Post
unique_sources_of κs a x y v w p q = (p ∙ sym q, refl)

pub unique_learn : Determined routes.known.learn.Kinds.ps routes.known.learn.Kinds.r routes.known.learn.Reads.Post
unique_learn κs a x y v w p q = (refl, ap (λ (b : List ℕ). (tt, (tt, (tt, (b, tt))))) (p ∙ sym q))

pub unique_judge_known : Determined routes.judge_known.Kinds.ps routes.judge_known.Kinds.r routes.judge_known.Reads.Post
unique_judge_known κs a x y v w p q = (p ∙ sym q, refl)

pub unique_judge_range : Determined routes.judge_range.Kinds.ps routes.judge_range.Kinds.r routes.judge_range.Reads.Post
unique_judge_range κs a x y v w p q = (p ∙ sym q, refl)

pub unique_check : Determined routes.check.Kinds.ps routes.check.Kinds.r routes.check.Reads.Post
unique_check κs a x y v w p q = (p ∙ sym q, refl)

-- ---- corrections

pub unique_refused_by : Determined corrections.refused_by.Kinds.ps corrections.refused_by.Kinds.r corrections.refused_by.Reads.Post
unique_refused_by κs a x y v w p q = (p ∙ sym q, refl)

pub unique_index_of : Determined corrections.index_of.Kinds.ps corrections.index_of.Kinds.r corrections.index_of.Reads.Post
unique_index_of κs a x y v w p q = (p ∙ sym q, refl)

-- ---- wanted

pub unique_numbers : Determined wanted.numbers.Kinds.ps wanted.numbers.Kinds.r wanted.numbers.Reads.Post
unique_numbers κs a x y v w p q = (p ∙ sym q, refl)

-- ---- history

pub unique_same_number : Determined history.same_number.Kinds.ps history.same_number.Kinds.r history.same_number.Reads.Post
unique_same_number κs a x y v w p q = (p ∙ sym q, refl)

-- ---- applying

pub unique_same_route : Determined applying.same_route.Kinds.ps applying.same_route.Kinds.r applying.same_route.Reads.Post
unique_same_route κs a x y v w p q = (p ∙ sym q, refl)

pub unique_is_marked : Determined applying.is_marked.Kinds.ps applying.is_marked.Kinds.r applying.is_marked.Reads.Post
unique_is_marked κs a x y v w p q = (p ∙ sym q, refl)

pub unique_run : Determined applying.run.Kinds.ps applying.run.Kinds.r applying.run.Reads.Post
unique_run κs a x y v w p q = (p ∙ sym q, refl)

pub unique_run_unjudged : Determined applying.run_unjudged.Kinds.ps applying.run_unjudged.Kinds.r applying.run_unjudged.Reads.Post
unique_run_unjudged κs a x y v w p q = (p ∙ sym q, refl)

pub unique_no_fault : Determined applying.no_fault.Kinds.ps applying.no_fault.Kinds.r applying.no_fault.Reads.Post
unique_no_fault κs a x y v w p q = (p ∙ sym q, refl)

-- ---- selection

pub unique_failing : Determined selection.failing.Kinds.ps selection.failing.Kinds.r selection.failing.Reads.Post
unique_failing κs a x y v w p q = (p ∙ sym q, refl)

pub unique_reasons : Determined selection.reasons.Kinds.ps selection.reasons.Kinds.r selection.reasons.Reads.Post
unique_reasons κs a x y v w p q = (p ∙ sym q, refl)

pub unique_line_in : DeterminedAs selection.line_in.Kinds.ps selection.line_in.Kinds.r (λ κs. (λ x. x.now)) selection.line_in.Reads.Post
unique_line_in κs a x y v w p q = (p ∙ sym q, refl)

pub unique_check_log : Determined selection.check_log.Kinds.ps selection.check_log.Kinds.r selection.check_log.Reads.Post
unique_check_log κs a x y v w p q = (p ∙ sym q, refl)

pub unique_pick : Determined selection.pick.Kinds.ps selection.pick.Kinds.r selection.pick.Reads.Post
unique_pick κs a x y v w p q = (p ∙ sym q, refl)

pub unique_new_file : Determined selection.new_file.Kinds.ps selection.new_file.Kinds.r selection.new_file.Reads.Post
unique_new_file κs a x y v w p q = (p.0 ∙ sym q.0, ap (λ (b : List ℕ). (tt, (tt, (tt, (b, tt))))) (p.1 ∙ sym q.1))

pub unique_line_of : DeterminedAs selection.line_of.Kinds.ps selection.line_of.Kinds.r (λ κs. (λ x. x.now)) selection.line_of.Reads.Post
unique_line_of κs a x y v w p q = (p ∙ sym q, refl)

pub unique_line : DeterminedAs selection.line.Kinds.ps selection.line.Kinds.r (λ κs. (λ x. x.now)) selection.line.Reads.Post
unique_line κs a x y v w p q = (p ∙ sym q, refl)

-- ---- answers

pub unique_pick_answer : Determined answers.pick_answer.Kinds.ps answers.pick_answer.Kinds.r answers.pick_answer.Reads.Post
unique_pick_answer κs a x y v w p q = (p.0 ∙ sym q.0, ap (λ (b : List ℕ). (tt, (tt, (tt, (b, tt))))) (p.1 ∙ sym q.1))

pub unique_newfile_answer : Determined answers.newfile_answer.Kinds.ps answers.newfile_answer.Kinds.r answers.newfile_answer.Reads.Post
unique_newfile_answer κs a x y v w p q = (p.0 ∙ sym q.0, ap (λ (b : List ℕ). (tt, (tt, (tt, (b, tt))))) (p.1 ∙ sym q.1))

pub unique_check_answer : Determined answers.check_answer.Kinds.ps answers.check_answer.Kinds.r answers.check_answer.Reads.Post
unique_check_answer κs a x y v w p q = (p.0 ∙ sym q.0, ap (λ (b : List ℕ). (tt, (tt, (b, tt)))) (p.1 ∙ sym q.1))

pub unique_why_answer : Determined answers.why_answer.Kinds.ps answers.why_answer.Kinds.r answers.why_answer.Reads.Post
unique_why_answer κs a x y v w p q = (p.0 ∙ sym q.0, ap (λ (b : List ℕ). (tt, (tt, (tt, (b, tt))))) (p.1 ∙ sym q.1))

-- ---- statements

pub unique_number_itself : Determined number_itself.Kinds.ps number_itself.Kinds.r number_itself.Reads.Post
unique_number_itself κs a x y v w p q = (p ∙ sym q, refl)
